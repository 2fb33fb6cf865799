use Rattle.std.proofs.Common.{◌≡◌, take}
use Rattle.std.specs.List.{flat_map}
use Rattle.depend_table.proofs.table.gathered_places.Given as goal

abbrev pub invariant-loop-places : goal.invariant-loop-places
invariant-loop-places l =
    l.gathered.items ≡ flat_map (λ places. places.now) (take l.places-index l.lists)
