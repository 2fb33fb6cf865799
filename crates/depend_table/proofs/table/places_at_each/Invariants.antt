use Rattle.std.proofs.Common.{◌≡◌, map, take}
use Rattle.depend_table.specs.Entries.{predecessors_for}
use Rattle.depend_table.proofs.table.places_at_each.Given as goal

abbrev pub invariant-loop-item : goal.invariant-loop-item
invariant-loop-item l =
    map (λ places. places.now) l.lists.items
    ≡ map (predecessors_for l.names l.items) (take l.item-index l.items)
