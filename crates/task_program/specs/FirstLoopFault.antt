-- The fault of a text of version 2, apart from any reading of its tokens: the first of them at
-- which something is wrong, and what it is; or else the fault of its expansion.
use Rattle.std.specs.Prelude.{ℕ, Bool, true, ◌&&◌, ◌||◌, ◌⊎◌, nat_lt}
use Rattle.std.specs.Prelude.{slice_index_or, if◌then◌else◌, List, [], length, reverse, Option}
use Rattle.std.specs.Prelude.{Some, None, codes}
use Rattle.task_program.specs.declared.version.Version.TheVariants.{Two}
use Rattle.program_text.specs.declared.fault.ReadKind.{ReadKind}
use Rattle.program_text.specs.declared.fault.ReadKind.TheVariants.{BadNumber, TooDeep}
use Rattle.program_text.specs.declared.fault.ReadFault.{ReadFault}
use Rattle.program_text.specs.declared.limits.TheConstants.{MOST_NESTING}
use Rattle.program_text.specs.declared.limits.TheConstants.{LARGEST_COST, LARGEST_BOUND}
use Rattle.program_text.specs.Tokens.{Token, texts, line_at_end}
use Rattle.program_text.specs.Words.{is_text, is_word, is_number, value_of}
use Rattle.task_program.specs.TokenCounts.{is_too_deep, open_braces}
use Rattle.loop_text.specs.Loops.{Tree}
use Rattle.loop_text.specs.LoopTokens.{form_fault}
use Rattle.task_program.specs.Versions.{body_of}
use Rattle.task_program.specs.Grammar.{Spelled, IsDerived}
use Rattle.task_program.specs.FirstFault.{Rules, AreRightWhole, IsFirstFault}
use Rattle.task_program.specs.ExpansionFault.{HasExpansionFault}

-- the texts of the tokens after the header are derived by the grammar
abbrev pub IsLoopSentence : List (List ℕ) → Type 0
IsLoopSentence derived = IsDerived Two derived

-- ---- what is asked of a token

-- the token so many before the last of these, of which the last comes first
abbrev pub before_last : List (List ℕ) → ℕ → List ℕ
before_last before n = slice_index_or before n []

-- a `for` and its variable are the last, or these and its first bound
abbrev pub comes_bound : List (List ℕ) → Bool
comes_bound before =
    (is_word (before_last before 0) && is_text (before_last before 1) (codes "for"))
    || (is_number (before_last before 0)
    && (is_word (before_last before 1) && is_text (before_last before 2) (codes "for")))

-- A number is too large for a bound, for the cost of a `work`, or for an `if` or `final`. A variable
-- may be called `work`, so a `for` is looked for first. The number of an index may be of any size: it
-- comes after `[`, `+` or `-`, also where the name or variable before is called `for`.
abbrev pub is_too_large_after : List (List ℕ) → ℕ → Bool
is_too_large_after before value =
    if comes_bound before then nat_lt LARGEST_BOUND value
    else (if is_text (before_last before 0) (codes "work") then nat_lt LARGEST_COST value
    else is_text (before_last before 0) (codes "(") && nat_lt 1 value)

-- the limit that this token passes after these: it is a number, and more than may stand there; or it
-- opens one block more than may be open
abbrev pub loop_limit_after : List Token → List ℕ → Option ReadKind
loop_limit_after before text =
    if is_number text && is_too_large_after (reverse (texts before)) (value_of text)
    then Some BadNumber
    else (if is_too_deep MOST_NESTING (length (open_braces before)) text then Some TooDeep
    else None)

-- the rules of the tokens after the header
abbrev pub loop_rules : Rules
loop_rules = record {
  header = 0;
  form_fault = λ before text. form_fault text;
  IsSentence = IsLoopSentence;
  limit_fault = loop_limit_after;
}

-- ---- what is wrong with a text

-- these are a sentence, each token right, and spell this tree
pub record IsTreeOf (tokens : List Token) (tree : Tree) : Type 0 where
  pub whole : AreRightWhole loop_rules tokens
  pub spelled : Spelled Two true [] MOST_NESTING tokens tree

-- the first fault of the tokens after the header of version 2, or else that of the expansion of the
-- tree that they spell
abbrev pub HasLoopFault : List ℕ → ReadFault → Type 0
HasLoopFault text fault =
    IsFirstFault loop_rules (body_of text) (line_at_end 1 text) fault
    ⊎ ((tree : Tree) × IsTreeOf (body_of text) tree × HasExpansionFault tree fault)
