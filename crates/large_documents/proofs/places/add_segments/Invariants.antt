use Rattle.std.proofs.Common.{[], take}
use Rattle.large_documents.specs.Places.{segments_of}
use Rattle.large_documents.specs.PlaceSteps.{ArePlaceSums}
use Rattle.large_documents.proofs.places.add_segments.Given as goal

-- those of the segments so far
abbrev pub invariant-loop-segment : goal.invariant-loop-segment
invariant-loop-segment l =
    ArePlaceSums l.places l.costs l.found.slacks (take l.segment (segments_of l.places)) [] l.sums
