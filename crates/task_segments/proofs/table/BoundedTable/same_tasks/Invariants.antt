use Rattle.std.proofs.Common.{◌<◌, ◌≡◌, ℕ}
use Rattle.task_segments.specs.Table.{task}
use Rattle.task_segments.proofs.table.BoundedTable.same_tasks.Given as goal

abbrev pub invariant-loop-t : goal.invariant-loop-t
invariant-loop-t g l = (u : ℕ) → u < l.t → task l.self u ≡ task l.other u
