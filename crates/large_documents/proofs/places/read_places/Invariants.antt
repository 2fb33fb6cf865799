use Rattle.std.proofs.Common.{[], length}
use Rattle.std.specs.List.{slice_split}
use Rattle.program_text.proofs.PlainReading.{ReadsOn}
use Rattle.program_text.specs.Tokens.{is_blank}
use Rattle.large_documents.specs.PlaceSteps.{next_places}
use Rattle.large_documents.proofs.places.read_places.Given as goal

-- what is left of the words, read after those so far, gives what all of them give
abbrev pub invariant-loop-word : goal.invariant-loop-word
invariant-loop-word l =
    ReadsOn (next_places l.count) [] (slice_split is_blank l.text) (length l.yielded) l.places.items
