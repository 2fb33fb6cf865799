use Rattle.std.proofs.Common.{ℕ}
use Rattle.task_segments.specs.Precedence.{IsTask, IsBranch, Descends}
use Rattle.task_segments.proofs.table.BoundedTable.child_towards.Given as goal

abbrev pub invariant-loop-parent : goal.invariant-loop-parent
invariant-loop-parent g l = record {
  is_task : IsTask l.self l.child;
  descends : Descends l.self l.d l.child;
  branch : (v : ℕ) → IsBranch l.self l.d l.ancestor v → Descends l.self l.child v;
}

abbrev pub decreases-loop-parent : goal.decreases-loop-parent
decreases-loop-parent g l = l.child
