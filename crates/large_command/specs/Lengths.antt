-- Which texts are too long.
use Rattle.std.specs.Prelude.{◌≡◌, ◌⊎◌, ℕ, ◌<◌, ◌≤◌, List, ◌++◌, length}
use Rattle.large_text.specs.declared.limits.TheConstants.{LARGEST_TEXT, LARGEST_LINE}
use Rattle.large_text.specs.LargeTexts.{FitsText, HasNoLineFeed}
use Rattle.large_command.specs.declared.text_input.TheConstants.{PIECE}

-- some line has too many bytes
pub record HasLongLine (bytes : List ℕ) : Type 0 where
  pub front : List ℕ
  pub line : List ℕ
  pub later : List ℕ
  pub all : bytes ≡ front ++ (line ++ later)
  pub one_line : HasNoLineFeed line
  pub longer : LARGEST_LINE < length line

-- there are too many bytes, or too many in a line
abbrev pub IsTooLong : List ℕ → Type 0
IsTooLong bytes = (LARGEST_TEXT < length bytes) ⊎ HasLongLine bytes

-- where it is too long, less than a piece of it is behind the bytes with which it became so
abbrev pub IsReadInTime : List ℕ → Type 0
IsReadInTime text =
    (front later : List ℕ) → text ≡ front ++ later → PIECE ≤ length later → FitsText front
