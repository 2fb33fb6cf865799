-- The rules of a text of version 1.
use Rattle.std.specs.Prelude.{◌≡◌, ℕ, true, List, ◌∷◌, length, sum_by, Option, codes}
use Rattle.task_program.specs.declared.version.Version.TheVariants.{One}
use Rattle.program_text.specs.declared.fault.ReadKind.{ReadKind}
use Rattle.program_text.specs.declared.limits.TheConstants.{MOST_TOKEN_BYTES}
use Rattle.program_text.specs.declared.limits.TheConstants.{MOST_NESTING, MOST_ITEMS}
use Rattle.program_text.specs.TokenFaults.{form_fault_within}
use Rattle.program_text.specs.Tokens.{Token}
use Rattle.task_program.specs.TokenCounts.{too_many_after, limit_fault_after}
use Rattle.task_program.specs.FirstFault.{Rules}
use Rattle.program_text.specs.Words.{is_number, value_of}
use Rattle.task_program.specs.Grammar.{IsDerived}

-- the header, and tokens that the grammar derives, whatever their numbers are and however deep their
-- blocks
pub record IsSentence (texts : List (List ℕ)) : Type 0 where
  pub version : List ℕ
  pub body : List (List ℕ)
  pub version_is_one : (is_number version ≡ true) × (value_of version ≡ 1)
  pub spelled : texts ≡ codes "omptasks" ∷ version ∷ body
  pub derived : IsDerived One body

-- the rules where all tokens have so many bytes at most, so many blocks may be open, a task may have
-- so many items, and this says whether there are too many tasks or segments; the header is a word
-- and a number
abbrev pub plain_rules : (token_bytes nesting most_items : ℕ)
    → (too_many : List Token → List ℕ → Option ReadKind)
    → Rules
plain_rules token_bytes nesting most_items too_many = record {
  header = 2;
  form_fault = λ before text. form_fault_within token_bytes (sum_by length before) text;
  IsSentence = IsSentence;
  limit_fault = λ body text. limit_fault_after nesting most_items (too_many body text) body text;
}

-- those of a program's text
abbrev pub program_rules : Rules
program_rules = plain_rules MOST_TOKEN_BYTES MOST_NESTING MOST_ITEMS too_many_after
