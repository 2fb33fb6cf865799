use Rattle.std.proofs.Common.{length, sum, ◌≡◌, ◌≤◌}
use Rattle.program_text.specs.Document.{lines_of}
use Rattle.program_text.specs.declared.limits.TheConstants.{MOST_WORK}
use Rattle.large_documents.proofs.ListSteps.{AreListed}
use Rattle.large_documents.proofs.change_list.read_list.Given as goal

-- the lines so far are right
abbrev pub invariant-loop-line : goal.invariant-loop-line
invariant-loop-line l = record {
  count : l.number ≡ length l.yielded;
  so_far : AreListed l.graph.costs (lines_of l.text) l.number l.list.changes.items l.list.costs.items;
  work : l.list.work ≡ sum l.list.costs.items;
  small : l.list.work ≤ MOST_WORK;
}
