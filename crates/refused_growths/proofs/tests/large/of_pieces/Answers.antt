use Rattle.std.proofs.Common.{ℕ, ◌+◌, ◌≤◌, List, [], ◌++◌, length, length-append, arith}
use Rattle.large_text.specs.declared.limits.TheConstants.{LARGEST_LINE}
use Rattle.large_text.specs.declared.stream.TextMeter.{TextMeter}
use Rattle.large_text.specs.Streamed.{HasTaken, TakesBytes, CanTakeBytes}
use Rattle.large_text.proofs.PlainStreaming.{fits_short}
use Rattle.refused_growths.proofs.tests.large.of_pieces.Goals as goal

-- a text that is no longer than a line can be taken in pieces
can_take : (taken more : List ℕ) (meter : TextMeter)
    → HasTaken taken meter
    → length taken + length more ≤ LARGEST_LINE
    → CanTakeBytes more meter
can_take taken more meter h few = record {
  bytes = taken;
  taken = h;
  fits = fits_short (taken ++ more) (omega (arith, few, length-append taken more));
}

has_taken : (taken more : List ℕ) (before after : TextMeter)
    → TakesBytes more before after
    → HasTaken taken before
    → length taken + length more ≤ LARGEST_LINE
    → HasTaken (taken ++ more) after
has_taken taken more before after takes h few =
    takes taken (fits_short (taken ++ more) (omega (arith, few, length-append taken more))) h

pub take-requires-clause-room : goal.take-requires-clause-room
take-requires-clause-room c =
    can_take [] c.split_at.result.0.now c.new-pieces.result c.new-pieces.ensures
    (omega (arith, c.split_at.ensures.front_len, c.requires))

-- a meter that was refused a piece has what it had
pub of_spent-requires-clause-room : goal.of_spent-requires-clause-room
of_spent-requires-clause-room c =
    can_take [] c.split_at.result.0.now c.take.new.self
    (c.in-Err.ensures.kept [] c.new-pieces.ensures)
    (omega (arith, c.split_at.ensures.front_len, c.requires))

pub take-requires-2-clause-room : goal.take-requires-2-clause-room
take-requires-2-clause-room c =
    let first = c.split_at.result.0.now in
    let rest = c.split_at.result.1.now in
    can_take first rest c.take.new.self
    (has_taken [] first c.new-pieces.result c.take.new.self c.in-Ok.ensures.takes c.new-pieces.ensures
    (omega (arith, c.split_at.ensures.front_len, c.requires)))
    (omega (arith, c.split_at.ensures.front_len, c.split_at.ensures.back_len, c.requires))

pub finish-requires : goal.finish-requires
finish-requires c =
    let first = c.split_at.result.0.now in
    let rest = c.split_at.result.1.now in
    let both = length-append first rest in
    can_take (first ++ rest) [] c.take-2.new.self
    (has_taken first rest c.take.new.self c.take-2.new.self c.in_ok-take.ensures.takes
    (has_taken [] first c.new-pieces.result c.take.new.self c.in-Ok.ensures.takes c.new-pieces.ensures
    (omega (arith, c.split_at.ensures.front_len, c.requires)))
    (omega (arith, c.split_at.ensures.front_len, c.split_at.ensures.back_len, c.requires)))
    (omega (
      arith,
      both,
      c.split_at.ensures.front_len,
      c.split_at.ensures.back_len,
      c.requires,
    ))
