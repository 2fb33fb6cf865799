-- Carried out: what was taken or kept of an input that is read to its end, and how much more may come.
use Rattle.std.specs.Prelude.{◌≡◌, ℕ, ◌+◌, ◌≤◌, List, ◌++◌, length, Option}
use Rattle.std.specs.Io.KnownBytes.{Consumes, IsAtEnd}
use Rattle.command_words.specs.declared.large.LargeRequest.{LargeRequest}
use Rattle.command_words.specs.declared.large.LargeRequest.TheVariants.{OfDocument, OfText}
use Rattle.large_text.specs.declared.limits.TheConstants.{LARGEST_TEXT}
use Rattle.large_text.specs.LargeTexts.{FitsText, HasNoLineFeed}
use Rattle.large_text.specs.Streamed.{HasTaken, KeepsText}
use Rattle.large_text.specs.declared.stream.TextMeter.{TextMeter}
use Rattle.large_command.specs.Lengths.{IsReadInTime, IsTooLong}
use Rattle.large_command.specs.declared.room.Room.{Room}

-- so many bytes stand behind the last LF
pub record EndsInLine (bytes : List ℕ) (count : ℕ) : Type 0 where
  pub front : List ℕ
  pub line : List ℕ
  pub all : bytes ≡ front ++ line
  pub one_line : HasNoLineFeed line
  pub count_is : length line ≡ count
  pub longest : (before last : List ℕ) → bytes ≡ before ++ last → HasNoLineFeed last
      → length last ≤ count

-- the text is not too long, and so much room is left behind it
pub record HasRoom (text : List ℕ) (room : Room) : Type 0 where
  pub fits : FitsText text
  pub bytes_left : length text + room.left ≡ LARGEST_TEXT
  pub last_line : EndsInLine text room.line

-- the text was read to its end, and the meter has taken it
pub record TakesText (before after : Option (List ℕ)) (text_meter : TextMeter) : Type 0 where
  pub text : List ℕ
  pub read : Consumes before after text
  pub to_the_end : IsAtEnd after
  pub taken : HasTaken text text_meter

-- what was read is the front of a text that is too long, or all of it
pub record ReadsTooLong (before after : Option (List ℕ)) : Type 0 where
  pub text : List ℕ
  pub read : Consumes before after text
  pub most : length text ≤ LARGEST_TEXT + 1
  pub too_long : IsTooLong text
  pub in_time : IsReadInTime text

-- the document was read to its end, and is not too long
pub record ReadsWhole (before after : Option (List ℕ)) (document : List ℕ) : Type 0 where
  pub read : Consumes before after document
  pub to_the_end : IsAtEnd after
  pub fits : FitsText document

-- ---- what is asked of a text as it comes

abbrev pub IsOfText : LargeRequest → Type 0
IsOfText (OfDocument asked) = ⊥
IsOfText asked = Unit {0}

-- the meter keeps what is asked for
abbrev pub KeepsFor : LargeRequest → TextMeter → Type 0
KeepsFor (OfText asked) text_meter = KeepsText text_meter
KeepsFor asked text_meter = Unit {0}
