use Rattle.std.proofs.Common.{take}
use Rattle.depend_table.specs.MarkedPlaces.{AreMarkedToo}
use Rattle.depend_table.proofs.table.mark.Given as goal

abbrev pub invariant-loop-place : goal.invariant-loop-place
invariant-loop-place l = AreMarkedToo l.first l.initial.marks l.marks (take l.place-index l.places)
