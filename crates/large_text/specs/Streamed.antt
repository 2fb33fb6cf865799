-- What a meter of a text of either version has taken of its bytes.
use Rattle.std.specs.Prelude.{◌≡◌, ℕ, ◌<◌, ◌≤◌, true, false, List, [], ◌++◌, length, IsTrue}
use Rattle.program_text.specs.declared.limits.TheConstants.{MOST_TEXT_BYTES}
use Rattle.large_text.specs.declared.plain_stream.PlainMeter.{PlainMeter}
use Rattle.large_text.specs.declared.stream.Stage.{Stage}
use Rattle.large_text.specs.declared.stream.Stage.TheVariants.{Kept, Plain, TooLong, Spent}
use Rattle.large_text.specs.declared.stream.TextMeter.{TextMeter}
use Rattle.large_text.specs.LargeTexts.{FitsText, is_large_two}
use Rattle.large_text.specs.PlainStreamed.{HasTakenPlain}
use Rattle.large_text.specs.Tallied.{IsBegun, keeps_rows, keeps_text}

-- all bytes are kept, and none were handed on
pub record HasKept (bytes head : List ℕ) (plain : PlainMeter) : Type 0 where
  pub all : head ≡ bytes
  pub few : length bytes ≤ MOST_TEXT_BYTES
  pub plain_begun : HasTakenPlain [] plain
  pub begun : IsBegun plain.meter

-- no text that begins with them is of version 2
abbrev pub IsNeverTwo : List ℕ → Type 0
IsNeverTwo bytes = (later : List ℕ) → is_large_two (bytes ++ later) ≡ false

pub record IsPlain (bytes : List ℕ) (plain : PlainMeter) : Type 0 where
  pub never_two : IsNeverTwo bytes
  pub taken : HasTakenPlain bytes plain

-- they are too many for the text of version 2 that they begin
pub record IsTooLongTwo (bytes : List ℕ) : Type 0 where
  pub many : MOST_TEXT_BYTES < length bytes
  pub two : is_large_two bytes ≡ true

abbrev pub HasTakenIn : Stage → (bytes head : List ℕ) → PlainMeter → Type 0
HasTakenIn Kept bytes head plain = HasKept bytes head plain
HasTakenIn Plain bytes head plain = IsPlain bytes plain
HasTakenIn TooLong bytes head plain = IsTooLongTwo bytes
HasTakenIn Spent bytes head plain = Unit {0}

-- the meter has taken these bytes, with which a text begins
pub record HasTaken (bytes : List ℕ) (text_meter : TextMeter) : Type 0 where
  pub fits : FitsText bytes
  pub taken : HasTakenIn text_meter.stage bytes text_meter.head.items text_meter.plain

-- memory ran out in an earlier call
abbrev pub IsSpent : TextMeter → Type 0
IsSpent text_meter = text_meter.stage ≡ Spent

-- it keeps the rows of the table too
abbrev pub KeepsRows : TextMeter → Type 0
KeepsRows text_meter = IsTrue (keeps_rows text_meter.plain.meter)

-- and the canonical text
abbrev pub KeepsText : TextMeter → Type 0
KeepsText text_meter = IsTrue (keeps_text text_meter.plain.meter)

-- some bytes were taken, and these behind them are not too many
pub record CanTakeBytes (more : List ℕ) (text_meter : TextMeter) : Type 0 where
  pub bytes : List ℕ
  pub taken : HasTaken bytes text_meter
  pub fits : FitsText (bytes ++ more)

-- what was taken before and these bytes behind it have been taken
abbrev pub TakesBytes : List ℕ → (before after : TextMeter) → Type 0
TakesBytes more before after =
    (taken : List ℕ) → FitsText (taken ++ more)
    → HasTaken taken before → HasTaken (taken ++ more) after

-- what was taken before is taken after
abbrev pub KeepsBytes : (before after : TextMeter) → Type 0
KeepsBytes before after = (taken : List ℕ) → HasTaken taken before → HasTaken taken after
