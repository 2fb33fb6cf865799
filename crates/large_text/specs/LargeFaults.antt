-- Carried out: what a reader of marks tests of a token at its place: what it is by itself, whether
-- the grammar has it there, and which limit it passes.
use Rattle.std.specs.Prelude.{ℕ, Bool, true, false, not, ◌&&◌, ◌==◌, nat_lt}
use Rattle.std.specs.Prelude.{if◌then◌else◌, List, Option, Some, None, codes}
use Rattle.std.specs.Option.{option_or}
use Rattle.program_text.specs.declared.fault.ReadKind.{ReadKind}
use Rattle.program_text.specs.declared.fault.ReadKind.TheVariants.{BadHeader, BadWord, BadNumber}
use Rattle.program_text.specs.declared.fault.ReadKind.TheVariants.{Unopened, TooDeep, TooManyItems}
use Rattle.program_text.specs.declared.fault.ReadKind.TheVariants.{WorkTooLarge}
use Rattle.program_text.specs.TokenFaults.{form_fault_within}
use Rattle.program_text.specs.Words.{is_text}
use Rattle.task_program.specs.declared.place.Place.{Place}
use Rattle.task_program.specs.declared.place.Place.TheVariants.{Statement, IfNumber, IfCloses}
use Rattle.task_program.specs.declared.place.Place.TheVariants.{DependType, DependColon}
use Rattle.task_program.specs.declared.place.Place.TheVariants.{DependName, DependMore}
use Rattle.task_program.specs.Faults.{is_header, is_allowed}
use Rattle.task_program.specs.TokenCounts.{is_value_too_large, is_too_deep, is_work_past}
use Rattle.large_text.specs.declared.limits.TheConstants.{MOST_LARGE_TOKEN_BYTES}
use Rattle.large_text.specs.declared.limits.TheConstants.{MOST_LARGE_NESTING}
use Rattle.large_text.specs.declared.limits.TheConstants.{MOST_TASK_ITEMS}
use Rattle.large_text.specs.LargeTrees.{too_many_items}

-- what is wrong with the token by itself, after so many bytes of tokens
abbrev pub large_form_fault : ℕ → List ℕ → Option ReadKind
large_form_fault bytes text = form_fault_within MOST_LARGE_TOKEN_BYTES bytes text

-- ---- the grammar at a place

-- a `}` where no block is open
abbrev pub closes_no_block : Place → (depth : ℕ) → List ℕ → Bool
closes_no_block Statement depth text = (depth == 0) && is_text text (codes "}")
closes_no_block _ depth text = false

-- why the grammar has not the token there
abbrev pub grammar_fault : Place → (has_if : Bool) (depth : ℕ) → List ℕ → Option ReadKind
grammar_fault place has_if depth text =
    if not (is_header place text) then Some BadHeader
    else (if closes_no_block place depth text then Some Unopened
    else (if not (is_allowed place has_if text) then Some BadWord
    else None))

-- a `(` is open there
abbrev pub is_inside_at : Place → Bool
is_inside_at IfNumber = true
is_inside_at IfCloses = true
is_inside_at DependType = true
is_inside_at (DependColon kind) = true
is_inside_at (DependName kind) = true
is_inside_at (DependMore kind) = true
is_inside_at _ = false

-- the depend item that comes
abbrev pub items_coming : Place → ℕ
items_coming (DependName kind) = 1
items_coming _ = 0

-- ---- the limits

-- the first limit that is passed with this token
abbrev pub large_limit_by : (inside : Bool) (work all_items items open_blocks : ℕ) → List ℕ
    → Option ReadKind
large_limit_by inside work all_items items open_blocks text =
    if is_value_too_large inside text then Some BadNumber
    else (if is_too_deep MOST_LARGE_NESTING open_blocks text then Some TooDeep
    else option_or (too_many_items all_items) (if nat_lt MOST_TASK_ITEMS items then Some TooManyItems
    else (if is_work_past inside work text then Some WorkTooLarge
    else None)))
