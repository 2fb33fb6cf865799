use Rattle.std.proofs.Common.{ℕ, ◌+◌, ◌-◌, ◌<◌, ◌≤◌, ◌≡◌, List, [], ◌++◌, length, take, drop, length-append, arith}
use Rattle.std.proofs.lemmas.List.{length-take-le, length-drop}
use Rattle.large_text.specs.declared.limits.TheConstants.{LARGEST_PIECE}
use Rattle.large_text.specs.declared.limits.TheConstants.{LARGEST_LINE}
use Rattle.large_text.specs.declared.stream.TextMeter.{TextMeter}
use Rattle.large_text.specs.Streamed.{HasTaken, TakesBytes, CanTakeBytes}
use Rattle.large_text.proofs.PlainStreaming.{fits_short}
use Rattle.online_tests.proofs.tests.pieces.by_bytes.Goals as goal

-- a text that is no longer than a line can be taken in pieces
can_take : (taken more : List ℕ) (meter : TextMeter)
    → HasTaken taken meter
    → length taken + length more ≤ LARGEST_LINE
    → CanTakeBytes more meter
can_take taken more meter h few = record {
  bytes = taken;
  taken = h;
  fits = fits_short (taken ++ more) (omega (arith, few, length-append taken more));
}

has_taken : (taken more : List ℕ) (before after : TextMeter)
    → TakesBytes more before after
    → HasTaken taken before
    → length taken + length more ≤ LARGEST_LINE
    → HasTaken (taken ++ more) after
has_taken taken more before after takes h few =
    takes taken (fits_short (taken ++ more) (omega (arith, few, length-append taken more))) h

one_byte : (text : List ℕ) (taken : ℕ) → taken < length text
    → length (take (taken + 1 - taken) (drop taken text)) ≡ 1
one_byte text taken less =
    let left : length (drop taken text) ≡ length text - taken = length-drop taken text in
    let some : taken + 1 - taken ≤ length (drop taken text) = omega (arith, left, less) in
    omega (arith, length-take-le (taken + 1 - taken) (drop taken text) some)

-- one more byte is taken
one_more : (text bytes : List ℕ) (before after : TextMeter) (taken : ℕ)
    → taken < length text
    → length text ≤ LARGEST_PIECE
    → HasTaken bytes before
    → length bytes ≡ taken
    → TakesBytes (take (taken + 1 - taken) (drop taken text)) before after
    → (more : List ℕ) × HasTaken more after × (length more ≡ taken + 1)
one_more text bytes before after taken less short h long takes =
    let piece = take (taken + 1 - taken) (drop taken text) in
    let one = one_byte text taken less in (
      bytes ++ piece,
      has_taken bytes piece before after takes h (omega (arith, one, long, less, short)),
      omega (arith, length-append bytes piece, long, one),
    )

pub take-requires-clause-room : goal.take-requires-clause-room
take-requires-clause-room c =
    let i = c.bytes.invariant in
    let less : c.bytes.taken < length c.args.text.now = search c.bytes-test.true in
    let short : length c.args.text.now ≤ LARGEST_PIECE = search c.requires in
    can_take i.so_far.0 (take (c.bytes.taken + 1 - c.bytes.taken) (drop c.bytes.taken c.args.text.now))
    c.bytes.meter i.so_far.1
    (omega (arith, one_byte c.args.text.now c.bytes.taken less, i.so_far.2, less, short))

pub finish-requires : goal.finish-requires
finish-requires c =
    let i = c.bytes.invariant in
    let short : length c.args.text.now ≤ LARGEST_PIECE = search c.requires in
    can_take i.so_far.0 [] c.bytes.meter i.so_far.1 (omega (arith, i.so_far.2, i.within, short))

pub bytes-preserved : goal.bytes-preserved
bytes-preserved c =
    let i = c.bytes.invariant in record {
      so_far = one_more c.args.text.now i.so_far.0 c.bytes.meter c.take.new.self c.bytes.taken
          (search c.bytes-test.true) (search c.requires) i.so_far.1 i.so_far.2 c.in_ok-take.ensures.takes;
      within = omega (arith, c.bytes-test.true);
    }
