-- What a text of any size stands for, and its first fault, apart from any reading.
use Rattle.std.specs.Prelude.{◌≡◌, ℕ, Bool, true, ◌||◌, nat_lt, count_by, if◌then◌else◌}
use Rattle.std.specs.Prelude.{List, [], ◌∷◌, Option, Some, None, codes}
use Rattle.program_text.specs.declared.fault.ReadFault.{ReadFault}
use Rattle.program_text.specs.declared.fault.ReadKind.{ReadKind}
use Rattle.program_text.specs.declared.fault.ReadKind.TheVariants.{TooManyItems}
use Rattle.program_text.specs.Marks.{Mark}
use Rattle.program_text.specs.Tokens.{Token, texts}
use Rattle.program_text.specs.Words.{is_text, is_number, value_of}
use Rattle.task_program.specs.FirstFault.{Rules, AreRightWhole, IsFirstFault}
use Rattle.task_program.specs.FirstPlainFault.{plain_rules}
use Rattle.task_program.specs.Loops.{Tree}
use Rattle.task_program.specs.declared.version.Version.TheVariants.{One}
use Rattle.task_program.specs.Grammar.{Spelled}
use Rattle.task_program.specs.ExpandsTo.{state_after_tree}
use Rattle.task_program.specs.Nested.{IsNested}
use Rattle.task_program.specs.ProgramMarks.{ProgramMarks}
use Rattle.large_text.specs.declared.limits.TheConstants.{MOST_LARGE_TOKEN_BYTES}
use Rattle.large_text.specs.declared.limits.TheConstants.{MOST_LARGE_NESTING}
use Rattle.large_text.specs.declared.limits.TheConstants.{MOST_LARGE_ITEMS, MOST_TASK_ITEMS}

-- these tokens are a text of version 1 that stands for these marks, whatever its size
pub record HasLargeTree (all : List (List ℕ)) (marks : List Mark) : Type 0 where
  pub version : List ℕ
  pub body : List Token
  pub room : ℕ
  pub tree : Tree
  pub version_is_one : (is_number version ≡ true) × (value_of version ≡ 1)
  -- they are the header and what is spelled as a tree, the expansion of which has the marks
  pub header : all ≡ codes "omptasks" ∷ version ∷ texts body
  pub spelled : Spelled One true [] room body tree
  pub marks_are : marks ≡ (state_after_tree tree).tree.marks
  -- tasks and groups stand one inside another
  pub nested : IsNested marks

-- a program of version 1 with these names and marks
abbrev pub plain_program : (names : List (List ℕ)) → List Mark → ProgramMarks
plain_program names marks = record { version = One; marks = marks; names = names }

-- and they are a text that stands for this program: its names are in the order of first mention
pub record HasLargeProgram (all : List (List ℕ)) (program : ProgramMarks) : Type 0 where
  pub tree : HasLargeTree all program.marks
  pub program_is : program ≡ plain_program (state_after_tree tree.tree).names program.marks

-- a `:` or `,`: one stands before each depend item, and nowhere else
abbrev pub comes_before_item : List ℕ → Bool
comes_before_item text = is_text text (codes ":") || is_text text (codes ",")

-- the depend items of all tasks, the one that comes included
abbrev pub all_items_in : List (List ℕ) → ℕ
all_items_in texts = count_by comes_before_item texts

abbrev pub too_many_items : (all_items : ℕ) → Option ReadKind
too_many_items all_items = if nat_lt MOST_LARGE_ITEMS all_items then Some TooManyItems else None

-- in place of those of tasks and segments there is a limit of all depend items
abbrev pub too_many_large : (body : List Token) → List ℕ → Option ReadKind
too_many_large body text = too_many_items (all_items_in (texts body))

abbrev pub large_rules : Rules
large_rules = plain_rules MOST_LARGE_TOKEN_BYTES MOST_LARGE_NESTING MOST_TASK_ITEMS too_many_large

-- a text without a fault: a sentence within the limits, each token right
abbrev pub IsLargeRightWhole : List Token → Type 0
IsLargeRightWhole tokens = AreRightWhole large_rules tokens

-- the first fault of these tokens, where the text ends on this line
abbrev pub IsLargeFirstFault : (tokens : List Token) (end_line : ℕ) → ReadFault → Type 0
IsLargeFirstFault tokens end_line fault = IsFirstFault large_rules tokens end_line fault

-- a text without a fault has no first fault
abbrev pub HasNoFaultWhereRight : List Token → Type 0
HasNoFaultWhereRight tokens =
    IsLargeRightWhole tokens → (end_line : ℕ) (fault : ReadFault)
    → IsLargeFirstFault tokens end_line fault → ⊥

-- and it has a tree
abbrev pub HasTreeWhereRight : List Token → Type 0
HasTreeWhereRight tokens =
    IsLargeRightWhole tokens → (marks : List Mark) × HasLargeTree (texts tokens) marks
