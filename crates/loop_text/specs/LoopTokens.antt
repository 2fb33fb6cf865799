-- The signs of a text of version 2, and what is wrong with a token of it by itself.
use Rattle.std.specs.Prelude.{ℕ, Bool, ◌||◌, List, Option, None, codes}
use Rattle.program_text.specs.declared.fault.ReadKind.{ReadKind}
use Rattle.program_text.specs.TokenFaults.{form_fault_by}
use Rattle.program_text.specs.Words.{is_text, is_sign}

-- [ ] + - are signs too
abbrev pub is_loop_sign : List ℕ → Bool
is_loop_sign text =
    is_sign text
    || ((is_text text (codes "[") || is_text text (codes "]"))
    || (is_text text (codes "+") || is_text text (codes "-")))

abbrev pub is_plus_or_minus : List ℕ → Bool
is_plus_or_minus text = is_text text (codes "+") || is_text text (codes "-")

-- what is wrong with the token by itself
abbrev pub form_fault : List ℕ → Option ReadKind
form_fault text = form_fault_by is_loop_sign None text
