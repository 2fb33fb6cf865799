use Rattle.std.proofs.Common.{◌≡◌, map, get_or, take}
use Rattle.depend_table.specs.Entries.{tasks_of}
use Rattle.depend_table.proofs.table.tasks_at.Given as goal

abbrev pub invariant-loop-place : goal.invariant-loop-place
invariant-loop-place l =
    l.tasks.items ≡ map (λ place. get_or (tasks_of l.calls) place 0) (take l.place-index l.places)
