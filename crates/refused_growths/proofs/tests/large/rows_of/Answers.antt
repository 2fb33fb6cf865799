use Rattle.std.proofs.Common.{ℕ, ◌+◌, ◌≤◌, List, [], ◌++◌, length, length-append, arith}
use Rattle.large_text.specs.declared.limits.TheConstants.{LARGEST_LINE}
use Rattle.large_text.specs.declared.stream.TextMeter.{TextMeter}
use Rattle.large_text.specs.Streamed.{HasTaken, CanTakeBytes}
use Rattle.large_text.proofs.PlainStreaming.{fits_short}
use Rattle.refused_growths.proofs.tests.large.rows_of.Goals as goal

-- a text that is no longer than a line can be taken in pieces
can_take : (taken more : List ℕ) (meter : TextMeter)
    → HasTaken taken meter
    → length taken + length more ≤ LARGEST_LINE
    → CanTakeBytes more meter
can_take taken more meter h few = record {
  bytes = taken;
  taken = h;
  fits = fits_short (taken ++ more) (omega (arith, few, length-append taken more));
}

pub take-requires-clause-room : goal.take-requires-clause-room
take-requires-clause-room c =
    can_take [] c.args.text.now c.in_ok-pieces.pieces c.in_ok-pieces.ensures.taken
    (omega (arith, c.requires))

pub finish_table-requires : goal.finish_table-requires
finish_table-requires c =
    can_take c.args.text.now [] c.take.new.self
    (c.in_ok-take.ensures.takes [] (fits_short c.args.text.now (omega (arith, c.requires)))
    c.in_ok-pieces.ensures.taken)
    (omega (arith, c.requires))
