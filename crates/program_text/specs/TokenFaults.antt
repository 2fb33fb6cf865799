-- What is wrong with a token by itself.
use Rattle.std.specs.Prelude.{ℕ, ◌+◌, Bool, not, ◌&&◌, ◌||◌, nat_lt}
use Rattle.std.specs.Prelude.{if◌then◌else◌, List, length, Option, Some, None}
use Rattle.program_text.specs.declared.fault.ReadKind.{ReadKind}
use Rattle.program_text.specs.declared.fault.ReadKind.TheVariants.{TooLong, BadByte}
use Rattle.program_text.specs.declared.fault.ReadKind.TheVariants.{BadWord, BadNumber}
use Rattle.program_text.specs.declared.limits.TheConstants.{MOST_WORD_BYTES}
use Rattle.program_text.specs.Words.{is_sign, is_run, begins_with_digit, is_word, is_number}

-- what is wrong with the token by itself, by what is a sign: a byte of no token, a run of digits and
-- others, a word that is too long, or else the other fault
abbrev pub form_fault_by : (is_sign_so : List ℕ → Bool) (other : Option ReadKind)
    → List ℕ
    → Option ReadKind
form_fault_by is_sign_so other text =
    if not (is_run text || is_sign_so text) then Some BadByte
    else (if begins_with_digit text && not (is_number text) then Some BadNumber
    else (if is_word text && nat_lt MOST_WORD_BYTES (length text) then Some BadWord
    else other))

-- the same in version 1, where all tokens have so many bytes at most, after so many of them
abbrev pub form_fault_within : (most bytes : ℕ) → List ℕ → Option ReadKind
form_fault_within most bytes text =
    form_fault_by is_sign (if nat_lt most (bytes + length text) then Some TooLong else None) text
