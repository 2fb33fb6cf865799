-- A text of either version that is taken in pieces: how each stage goes on.
use Rattle.std.proofs.Common.{◌≡◌, ◌-◌, ◌<◌, ◌≤◌, ◌∙◌, ℕ, true, false, List, [], ◌++◌, length, ap, subst}
use Rattle.std.proofs.Common.{append_assoc, append-nil, length-append, sym, arith}
use Rattle.program_text.specs.declared.fault.ReadKind.TheVariants.{TooLong as TooLongText}
use Rattle.program_text.specs.declared.limits.TheConstants.{MOST_TEXT_BYTES}
use Rattle.task_program.proofs.FirstFaults.{fault_so}
use Rattle.large_text.specs.declared.plain_stream.PlainMeter.{PlainMeter}
use Rattle.large_text.specs.declared.stream.Stage.{Stage}
use Rattle.large_text.specs.declared.stream.Stage.TheVariants.{Kept, Plain, TooLong}
use Rattle.large_text.specs.declared.stream.TextMeter.{TextMeter}
use Rattle.large_text.specs.LargeTexts.{FitsText, IsLargeFault, is_large_two}
use Rattle.large_text.specs.PlainStreamed.{CanTakePlain, HasTakenPlain, TakesPlain}
use Rattle.large_text.specs.Streamed.{CanTakeBytes, HasKept, HasTaken, HasTakenIn, IsPlain}
use Rattle.large_text.specs.Streamed.{IsNeverTwo, IsTooLongTwo, TakesBytes}
use Rattle.large_text.specs.Tallied.{IsBegun}
use Rattle.large_text.proofs.PlainStreaming.{fits_front, takes_two}
use Rattle.large_text.proofs.ReadingTexts.{fault_long, two_front}

-- ---- what is known at each stage

pub kept_none : (head : List ℕ) (plain : PlainMeter)
    → head ≡ []
    → HasTakenPlain [] plain
    → IsBegun plain.meter
    → HasKept [] head plain
kept_none head plain is taken begun = record {
  all = is;
  few = omega arith;
  plain_begun = taken;
  begun = begun;
}

pub kept_at : (stage : Stage) (bytes head : List ℕ) (plain : PlainMeter)
    → stage ≡ Kept
    → HasTakenIn stage bytes head plain
    → HasKept bytes head plain
kept_at stage bytes head plain is h =
    subst (λ (s : Stage). HasTakenIn s bytes head plain) is h

pub plain_at : (stage : Stage) (bytes head : List ℕ) (plain : PlainMeter)
    → stage ≡ Plain
    → HasTakenIn stage bytes head plain
    → IsPlain bytes plain
plain_at stage bytes head plain is h =
    subst (λ (s : Stage). HasTakenIn s bytes head plain) is h

pub long_at : (stage : Stage) (bytes head : List ℕ) (plain : PlainMeter)
    → stage ≡ TooLong
    → HasTakenIn stage bytes head plain
    → IsTooLongTwo bytes
long_at stage bytes head plain is h =
    subst (λ (s : Stage). HasTakenIn s bytes head plain) is h

pub kept_few : (more : List ℕ) (text_meter : TextMeter)
    → text_meter.stage ≡ Kept
    → CanTakeBytes more text_meter
    → length text_meter.head.items ≤ MOST_TEXT_BYTES
kept_few more text_meter is can =
    let kept = kept_at text_meter.stage can.bytes text_meter.head.items text_meter.plain is
    can.taken.taken in
    omega (arith, kept.few, ap (λ (bytes : List ℕ). length bytes) kept.all)

pub plain_can : (more : List ℕ) (text_meter : TextMeter)
    → text_meter.stage ≡ Plain
    → CanTakeBytes more text_meter
    → CanTakePlain more text_meter.plain
plain_can more text_meter is can = record {
  bytes = can.bytes;
  taken = (plain_at text_meter.stage can.bytes text_meter.head.items text_meter.plain is
      can.taken.taken).taken;
  fits = can.fits;
}

-- ---- how each goes on

pub kept_more : (stage : Stage) (bytes more head after : List ℕ) (plain : PlainMeter)
    → stage ≡ Kept
    → after ≡ head ++ more
    → length more ≤ MOST_TEXT_BYTES - length head
    → HasTakenIn stage bytes head plain
    → HasTakenIn stage (bytes ++ more) after plain
kept_more stage bytes more head after plain is after_is few h =
    let kept = kept_at stage bytes head plain is h in
    let now : HasKept (bytes ++ more) after plain = record {
      all = after_is ∙ ap (λ (a : List ℕ). a ++ more) kept.all;
      few = omega (
        arith,
        few,
        kept.few,
        ap (λ (a : List ℕ). length a) kept.all,
        length-append bytes more,
      );
      plain_begun = kept.plain_begun;
      begun = kept.begun;
    } in
    subst (λ (s : Stage). HasTakenIn s (bytes ++ more) after plain) (sym is) now

pub plain_more : (stage : Stage) (bytes more head : List ℕ) (plain after : PlainMeter)
    → stage ≡ Plain
    → TakesPlain more plain after
    → FitsText (bytes ++ more)
    → HasTakenIn stage bytes head plain
    → HasTakenIn stage (bytes ++ more) head after
plain_more stage bytes more head plain after is takes fits h =
    let known = plain_at stage bytes head plain is h in
    let now : IsPlain (bytes ++ more) after = record {
      never_two = λ later.
          ap (λ (a : List ℕ). is_large_two a) (append_assoc bytes more later)
          ∙ known.never_two (more ++ later);
      taken = takes bytes fits known.taken;
    } in
    subst (λ (s : Stage). HasTakenIn s (bytes ++ more) head after) (sym is) now

pub not_two : (bytes : List ℕ) (plain : PlainMeter)
    → IsPlain bytes plain
    → is_large_two bytes ≡ false
not_two bytes plain known =
    ap (λ (a : List ℕ). is_large_two a) (sym (append-nil bytes)) ∙ known.never_two []

pub long_more : (stage : Stage) (bytes more head : List ℕ) (plain : PlainMeter)
    → stage ≡ TooLong
    → HasTakenIn stage bytes head plain
    → HasTakenIn stage (bytes ++ more) head plain
long_more stage bytes more head plain is h =
    let known = long_at stage bytes head plain is h in
    let now : IsTooLongTwo (bytes ++ more) = record {
      many = omega (arith, known.many, length-append bytes more);
      two = two_front bytes more (omega (arith, known.many)) ∙ known.two;
    } in
    subst (λ (s : Stage). HasTakenIn s (bytes ++ more) head plain) (sym is) now

pub keeps_head : (old new : TextMeter) (more : List ℕ)
    → old.stage ≡ Kept
    → new.stage ≡ old.stage
    → new.plain ≡ old.plain
    → new.head.items ≡ old.head.items ++ more
    → length more ≤ MOST_TEXT_BYTES - length old.head.items
    → TakesBytes more old new
keeps_head old new more is stage plain after few = λ taken fits h. record {
  fits = fits;
  taken = subst (λ (p : PlainMeter). HasTakenIn new.stage (taken ++ more) new.head.items p) (sym plain)
      (subst (λ (s : Stage). HasTakenIn s (taken ++ more) new.head.items old.plain) (sym stage)
      (kept_more old.stage taken more old.head.items new.head.items old.plain is after few h.taken));
}

pub then_takes : (all first rest : List ℕ) (old middle new : TextMeter)
    → all ≡ first ++ rest
    → TakesBytes first old middle
    → TakesBytes rest middle new
    → TakesBytes all old new
then_takes all first rest old middle new is one other =
    takes_two (λ taken. HasTaken taken old) (λ taken. HasTaken taken middle)
    (λ taken. HasTaken taken new) all first rest is one other

-- ---- behind the bytes that are kept

module _ (bytes head rest : List ℕ) (full : length head ≡ MOST_TEXT_BYTES) (more : 0 < length rest)
    (all : head ≡ bytes) where
  longer : MOST_TEXT_BYTES < length (bytes ++ rest)
  longer = omega (
    arith,
    full,
    more,
    ap (λ (a : List ℕ). length a) all,
    length-append bytes rest,
  )

  same_version : is_large_two (bytes ++ rest) ≡ is_large_two head
  same_version =
      two_front bytes rest (omega (arith, full, ap (λ (a : List ℕ). length a) all))
      ∙ ap (λ (a : List ℕ). is_large_two a) (sym all)

  pub left_long : is_large_two head ≡ true → IsTooLongTwo (bytes ++ rest)
  left_long two = record { many = longer; two = same_version ∙ two }

  pub left_plain : (plain middle after : PlainMeter)
      → is_large_two head ≡ false
      → FitsText (bytes ++ rest)
      → HasTakenPlain [] plain
      → TakesPlain head plain middle
      → TakesPlain rest middle after
      → IsPlain (bytes ++ rest) after
  left_plain plain middle after one fits begun first second =
      let both : FitsText (head ++ rest) =
      subst (λ (a : List ℕ). FitsText (a ++ rest)) (sym all) fits in
      record {
        never_two = λ later.
            two_front (bytes ++ rest) later (omega (arith, longer)) ∙ same_version ∙ one;
        taken = subst (λ (a : List ℕ). HasTakenPlain (a ++ rest) after) all
            (second head both (first [] (fits_front head rest both) begun));
      }

-- the bytes that are kept can be handed on, and what comes behind them
pub can_hand_on : (rest : List ℕ) (text_meter : TextMeter)
    → text_meter.stage ≡ Kept
    → CanTakeBytes rest text_meter
    → CanTakePlain text_meter.head.items text_meter.plain
can_hand_on rest text_meter is can =
    let kept = kept_at text_meter.stage can.bytes text_meter.head.items text_meter.plain is
    can.taken.taken in
    record {
      bytes = [];
      taken = kept.plain_begun;
      fits = fits_front text_meter.head.items rest
          (subst (λ (a : List ℕ). FitsText (a ++ rest)) (sym kept.all) can.fits);
    }

pub can_go_on : (rest : List ℕ) (text_meter : TextMeter) (middle : PlainMeter)
    → text_meter.stage ≡ Kept
    → CanTakeBytes rest text_meter
    → TakesPlain text_meter.head.items text_meter.plain middle
    → CanTakePlain rest middle
can_go_on rest text_meter middle is can takes =
    let kept = kept_at text_meter.stage can.bytes text_meter.head.items text_meter.plain is
    can.taken.taken in
    let head = text_meter.head.items in
    let both : FitsText (head ++ rest) =
    subst (λ (a : List ℕ). FitsText (a ++ rest)) (sym kept.all) can.fits in
    record {
      bytes = head;
      taken = takes [] (fits_front head rest both) kept.plain_begun;
      fits = both;
    }

-- the first of two pieces was kept, and the other can be taken behind it
pub kept_then : (all first rest : List ℕ) (old middle : TextMeter)
    → all ≡ first ++ rest
    → TakesBytes first old middle
    → CanTakeBytes all old
    → CanTakeBytes rest middle
kept_then all first rest old middle is takes can =
    let whole : can.bytes ++ all ≡ (can.bytes ++ first) ++ rest =
    ap (λ (a : List ℕ). can.bytes ++ a) is ∙ sym (append_assoc can.bytes first rest) in
    let both : FitsText ((can.bytes ++ first) ++ rest) = subst FitsText whole can.fits in
    record {
      bytes = can.bytes ++ first;
      taken = takes can.bytes (fits_front (can.bytes ++ first) rest both) can.taken;
      fits = both;
    }

-- ---- the end

pub long_fault : (text head : List ℕ) (stage : Stage) (plain : PlainMeter)
    → stage ≡ TooLong
    → HasTakenIn stage text head plain
    → IsLargeFault text (fault_so TooLongText 1)
long_fault text head stage plain is h =
    let known = long_at stage text head plain is h in
    fault_long text known.two known.many

-- ---- the version is known, and it is not 2

pub handed_on : (old new : TextMeter)
    → old.stage ≡ Kept
    → new.stage ≡ Plain
    → IsNeverTwo old.head.items
    → TakesPlain old.head.items old.plain new.plain
    → TakesBytes [] old new
handed_on old new is now never takes = λ taken fits h.
    let kept = kept_at old.stage taken old.head.items old.plain is h.taken in
    let all : old.head.items ≡ taken ++ [] = kept.all ∙ sym (append-nil taken) in
    let plain : IsPlain old.head.items new.plain = record {
      never_two = never;
      taken = takes [] (subst FitsText (sym all) fits) kept.plain_begun;
    } in
    record {
      fits = fits;
      taken = subst (λ (s : Stage). HasTakenIn s (taken ++ []) new.head.items new.plain) (sym now)
          (subst (λ (bytes : List ℕ). IsPlain bytes new.plain) all plain);
    }
