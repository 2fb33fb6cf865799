use Rattle.std.proofs.Common.{take}
use Rattle.large_documents.specs.Places.{segments_of}
use Rattle.large_documents.specs.PlaceSteps.{AreSums}
use Rattle.large_documents.proofs.timed_places.sum_by_place.Given as goal

-- those of the segments so far
abbrev pub invariant-loop-segment : goal.invariant-loop-segment
invariant-loop-segment l =
    AreSums l.places l.numbers (take l.segment (segments_of l.places)) l.sums.items
