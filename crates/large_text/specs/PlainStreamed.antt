-- What a meter of a text of version 1 has taken of its bytes.
use Rattle.std.specs.Prelude.{◌≡◌, ℕ, ◌+◌, false, List, [], ◌∷◌, ◌++◌, Option, Some, None}
use Rattle.program_text.specs.declared.fault.ReadFault.{ReadFault}
use Rattle.program_text.specs.Tokens.{tokens_from, tokens_of, line_at_end}
use Rattle.large_text.specs.declared.tally.Tally.{Tally}
use Rattle.large_text.specs.declared.reader.MarkReader.{MarkReader}
use Rattle.large_text.specs.declared.plain_stream.PlainMeter.{PlainMeter}
use Rattle.large_text.specs.LargeTexts.{FitsText, HasNoLineFeed}
use Rattle.large_text.specs.LargeTrees.{IsLargeFirstFault}
use Rattle.large_text.specs.Measured.{MeasuresSoFar}

-- they end with an LF
abbrev pub EndsLine : List ℕ → Type 0
EndsLine bytes = (front : List ℕ) × (bytes ≡ front ++ 10 ∷ [])

-- the tokens of a text that begins with these bytes are theirs and those of what follows
abbrev pub CutsTokens : List ℕ → Type 0
CutsTokens bytes =
    (later : List ℕ)
    → tokens_of (bytes ++ later) ≡ tokens_of bytes ++ tokens_from false (line_at_end 1 bytes) later

-- the tokens of some lines have been taken, and what follows them is kept: it begins on this line
pub record HasTakenLines (bytes tail : List ℕ) (line : ℕ) (reader : MarkReader) (meter : Tally)
    : Type 0 where
  pub lines : List ℕ
  pub all : bytes ≡ lines ++ tail
  pub cuts : CutsTokens lines
  pub line_is : line ≡ line_at_end 1 lines
  pub so_far : MeasuresSoFar (tokens_of lines) reader meter

-- it is the first fault of every text that begins with these bytes
abbrev pub HasFault : List ℕ → ReadFault → Type 0
HasFault bytes fault =
    (later : List ℕ) (end_line : ℕ) → IsLargeFirstFault (tokens_of (bytes ++ later)) end_line fault

abbrev pub HasTakenBy : Option ReadFault → (bytes tail : List ℕ) (line : ℕ) → MarkReader → Tally
    → Type 0
HasTakenBy None bytes tail line reader meter = HasTakenLines bytes tail line reader meter
HasTakenBy (Some fault) bytes tail line reader meter = HasFault bytes fault

-- the meter has taken these bytes, with which a text begins
pub record HasTakenPlain (bytes : List ℕ) (plain : PlainMeter) : Type 0 where
  pub fits : FitsText bytes
  pub last : HasNoLineFeed plain.tail.items
  pub taken : HasTakenBy plain.fault bytes plain.tail.items (plain.lines + 1) plain.reader plain.meter

-- some bytes were taken, and these behind them are not too many
pub record CanTakePlain (more : List ℕ) (plain : PlainMeter) : Type 0 where
  pub bytes : List ℕ
  pub taken : HasTakenPlain bytes plain
  pub fits : FitsText (bytes ++ more)

-- what was taken before and these bytes behind it have been taken
abbrev pub TakesPlain : List ℕ → (before after : PlainMeter) → Type 0
TakesPlain more before after =
    (taken : List ℕ) → FitsText (taken ++ more)
    → HasTakenPlain taken before → HasTakenPlain (taken ++ more) after
