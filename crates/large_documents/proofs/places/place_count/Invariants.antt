use Rattle.std.proofs.Common.{◌≡◌, take}
use Rattle.large_documents.specs.Places.{place_count}
use Rattle.large_documents.proofs.places.place_count.Given as goal

-- that of the places so far
abbrev pub invariant-loop-place : goal.invariant-loop-place
invariant-loop-place l = l.count ≡ place_count (take l.place-index l.places)
