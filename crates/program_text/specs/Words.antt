-- The words and numbers of the grammar.
use Rattle.std.specs.Prelude.{ℕ, ◌+◌, ◌*◌, ◌-◌, Bool, false, not, ◌&&◌, ◌||◌, ◌==◌, List, [], ◌∷◌}
use Rattle.std.specs.Prelude.{length, fold, if◌then◌else◌}
use Rattle.std.specs.List.{list_all}
use Rattle.std.specs.Char.{is_ascii_digit}
use Rattle.std.specs.Str.{bytes_eq}
use Rattle.std.specs.Prelude.{codes}
use Rattle.program_text.specs.declared.statement.DependKind.{DependKind}
use Rattle.program_text.specs.declared.statement.DependKind.TheVariants.{DependIn, DependOut}
use Rattle.program_text.specs.declared.statement.DependKind.TheVariants.{DependInOut}
use Rattle.program_text.specs.declared.statement.DependKind.TheVariants.{DependInOutSet}
use Rattle.program_text.specs.Tokens.{is_run_byte}

abbrev pub is_text : List ℕ → List ℕ → Bool
is_text text word = bytes_eq text word

-- ( ) { } : ,
abbrev pub is_sign : List ℕ → Bool
is_sign text =
    ((is_text text (codes "(") || is_text text (codes ")"))
    || (is_text text (codes "{") || is_text text (codes "}")))
    || (is_text text (codes ":") || is_text text (codes ","))

-- a run of letters, digits and `_`
abbrev pub is_run : List ℕ → Bool
is_run text = not (length text == 0) && list_all is_run_byte text

-- a run that begins with a digit
abbrev pub begins_with_digit : List ℕ → Bool
begins_with_digit [] = false
begins_with_digit (b ∷ bytes) = is_ascii_digit b

abbrev pub is_word : List ℕ → Bool
is_word text = is_run text && not (begins_with_digit text)

abbrev pub is_number : List ℕ → Bool
is_number text = begins_with_digit text && list_all is_ascii_digit text

-- the number that the digits stand for, leading zeros allowed
abbrev pub value_of : List ℕ → ℕ
value_of digits = fold (λ n d. (10 * n) + (d - 48)) 0 digits

abbrev pub is_type : List ℕ → Bool
is_type text =
    (is_text text (codes "in") || is_text text (codes "out"))
    || (is_text text (codes "inout") || is_text text (codes "inoutset"))

abbrev pub type_word : DependKind → List ℕ
type_word DependIn = codes "in"
type_word DependOut = codes "out"
type_word DependInOut = codes "inout"
type_word DependInOutSet = codes "inoutset"

abbrev pub is_statement_word : List ℕ → Bool
is_statement_word text =
    (is_text text (codes "work") || is_text text (codes "task"))
    || (is_text text (codes "taskwait") || is_text text (codes "taskgroup"))

abbrev pub type_of : List ℕ → DependKind
type_of text =
    if is_text text (codes "in")
    then DependIn
    else (if is_text text (codes "out")
    then DependOut
    else (if is_text text (codes "inout") then DependInOut else DependInOutSet))
