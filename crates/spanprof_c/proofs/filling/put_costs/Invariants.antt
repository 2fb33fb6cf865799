use Rattle.std.proofs.Common.{ℕ, ◌<◌, ◌≡◌, get_or}
use Rattle.task_segments.specs.Table.{segment}
use Rattle.spanprof_c.proofs.filling.put_costs.Given as goal

abbrev pub invariant-loop-segment : goal.invariant-loop-segment
invariant-loop-segment g l = (k : ℕ) → k < l.segment → get_or l.costs k 0 ≡ (segment l.table k).cost
