use Rattle.std.proofs.Common.{take}
use Rattle.large_documents.specs.Places.{segments_of}
use Rattle.large_documents.specs.PlaceSteps.{ArePlaceSums}
use Rattle.large_documents.proofs.places.add_path.Given as goal

-- those of all segments, and of the path so far
abbrev pub invariant-loop-member : goal.invariant-loop-member
invariant-loop-member l =
    ArePlaceSums l.places l.costs l.found.slacks (segments_of l.places)
    (take l.member-index l.found.chain) l.sums
