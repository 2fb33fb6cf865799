use Rattle.std.proofs.Common.{[], List, append-nil, ap, arith, length, length-append, refl, sym, ℕ}
use Rattle.std.proofs.lemmas.Result.{on_ok_weaker}
use Rattle.large_text.proofs.Streaming.{keeps_head, kept_few, kept_then, then_takes}
use Rattle.large_text.proofs.stream.TextMeter.keep.Goals as goal

pub is_never_two-requires : goal.is_never_two-requires
is_never_two-requires c =
    let self = c.args.self.now in
    omega (
      arith,
      c.requires.few,
      kept_few c.args.bytes.now self c.requires.kept c.requires.room,
      ap (λ (bytes : List ℕ). length bytes) c.as_slice.ensures.value,
      ap (λ (bytes : List ℕ). length bytes) c.in_ok-extend_from_slice.ensures.items,
      length-append self.head.items c.args.bytes.now,
    )

pub hand_on-requires-clause-room : goal.hand_on-requires-clause-room
hand_on-requires-clause-room c =
    let self = c.args.self.now in
    let bytes = c.args.bytes.now in
    kept_then bytes bytes [] self _ (sym (append-nil bytes))
    (keeps_head self _ bytes c.requires.kept refl refl c.in_ok-extend_from_slice.ensures.items
    c.requires.few)
    c.requires.room

pub returns-then-is_never_two-clause-takes : goal.returns-then-is_never_two-clause-takes
returns-then-is_never_two-clause-takes c =
    let self = c.args.self.now in
    let bytes = c.args.bytes.now in
    on_ok_weaker c.hand_on.result
    (λ later. then_takes bytes bytes [] self _ c.hand_on.new.self (sym (append-nil bytes))
    (keeps_head self _ bytes c.requires.kept refl refl c.in_ok-extend_from_slice.ensures.items
    c.requires.few)
    later)
    c.hand_on.ensures.takes
