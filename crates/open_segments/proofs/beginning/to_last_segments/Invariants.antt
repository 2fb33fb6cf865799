use Rattle.std.proofs.Common.{◌≡◌, ◌≤◌, ◌++◌, map}
use Rattle.std.specs.Prelude.{take, drop, vec_capacity}
use Rattle.open_segments.specs.WaysToOpen.{last_segment}
use Rattle.open_segments.proofs.beginning.to_last_segments.Given as goal

abbrev pub invariant-loop-at : goal.invariant-loop-at
invariant-loop-at g l =
    (l.tasks.items
    ≡ map (last_segment l.table) (take l.at l.initial.tasks.items)
    ++ drop l.at l.initial.tasks.items)
    × (vec_capacity l.initial.tasks ≤ vec_capacity l.tasks)
