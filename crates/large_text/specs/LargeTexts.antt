-- What a text of any size stands for in its version, and its first fault, apart from any reading.
use Rattle.std.specs.Prelude.{◌≡◌, ℕ, ◌≤◌, ◌++◌, ◌⊎◌, Bool, MatchBool, false, nat_lt, List, [], length}
use Rattle.std.specs.Prelude.{take, None, count_by}
use Rattle.program_text.specs.declared.fault.ReadFault.{ReadFault}
use Rattle.program_text.specs.declared.fault.ReadKind.TheVariants.{TooLong}
use Rattle.program_text.specs.declared.limits.TheConstants.{MOST_TEXT_BYTES}
use Rattle.program_text.specs.Tokens.{is_line_feed, line_at_end, texts, tokens_of}
use Rattle.loop_text.specs.Loops.{Tree}
use Rattle.task_program.specs.declared.version.Version.TheVariants.{Two}
use Rattle.task_program.specs.Expansion.{expansion}
use Rattle.task_program.specs.ExpansionFault.{first_fault_by}
use Rattle.task_program.specs.Expanded.{empty_expansion}
use Rattle.task_program.specs.ExpandsTo.{program_of_state, state_after_tree}
use Rattle.task_program.specs.FirstLoopFault.{IsTreeOf}
use Rattle.task_program.specs.Nested.{IsNested}
use Rattle.task_program.specs.ProgramMarks.{ProgramMarks}
use Rattle.task_program.specs.Versions.{begins_version_two, body_of}
use Rattle.large_text.specs.declared.limits.TheConstants.{LARGEST_TEXT, LARGEST_LINE}
use Rattle.large_text.specs.LargeTrees.{HasLargeProgram, IsLargeFirstFault, IsLargeRightWhole}
use Rattle.large_text.specs.LoopFaults.{large_fault_of}
use Rattle.large_text.specs.LoopTallied.{HasLoopFaultOf}

-- no byte of them is an LF
abbrev pub HasNoLineFeed : List ℕ → Type 0
HasNoLineFeed line = count_by is_line_feed line ≡ 0

-- neither the bytes nor those of a line are too many
pub record FitsText (bytes : List ℕ) : Type 0 where
  pub short : length bytes ≤ LARGEST_TEXT
  pub lines : (front line later : List ℕ) → bytes ≡ front ++ (line ++ later)
      → HasNoLineFeed line → length line ≤ LARGEST_LINE

-- the text is of version 2: that header stands in its first bytes
abbrev pub is_large_two : List ℕ → Bool
is_large_two text = begins_version_two (tokens_of (take MOST_TEXT_BYTES text))

-- ---- version 2

-- a text of version 2 without a fault, and its tree with loops
pub record IsLargeLoopText (text : List ℕ) (tree : Tree) : Type 0 where
  pub fits : length text ≤ MOST_TEXT_BYTES
  pub whole : IsTreeOf (body_of text) tree
  pub expands : first_fault_by large_fault_of empty_expansion (expansion [] false tree) ≡ None

-- the first fault of the tokens behind the header, or else that of the expansion
abbrev pub HasLargeLoopFault : List ℕ → ReadFault → Type 0
HasLargeLoopFault text fault = HasLoopFaultOf (body_of text) (line_at_end 1 text) fault

-- a text of version 2 that has too many bytes has that fault, before all others
abbrev pub IsLargeLoopFault : List ℕ → ReadFault → Type 0
IsLargeLoopFault text fault =
    MatchBool (nat_lt MOST_TEXT_BYTES (length text)) (fault ≡ record { kind = TooLong; line = 1 })
    (HasLargeLoopFault text fault)

-- and it stands for the program of the expansion of its tree
pub record HasLoopProgram (text : List ℕ) (program : ProgramMarks) : Type 0 where
  pub tree : Tree
  pub whole : IsTreeOf (body_of text) tree
  pub program_is : program ≡ program_of_state Two (state_after_tree tree)
  -- tasks and groups stand one inside another
  pub nested : IsNested program.marks

-- ---- either version

-- the text has no fault
abbrev pub IsLargeRight : List ℕ → Type 0
IsLargeRight text =
    MatchBool (is_large_two text) ((tree : Tree) × IsLargeLoopText text tree)
    (IsLargeRightWhole (tokens_of text))

-- the first fault of the text
abbrev pub IsLargeFault : List ℕ → ReadFault → Type 0
IsLargeFault text fault =
    MatchBool (is_large_two text) (IsLargeLoopFault text fault)
    (IsLargeFirstFault (tokens_of text) (line_at_end 1 text) fault)

-- the text stands for this program
abbrev pub StandsForLarge : List ℕ → ProgramMarks → Type 0
StandsForLarge text program =
    MatchBool (is_large_two text) (HasLoopProgram text program)
    (HasLargeProgram (texts (tokens_of text)) program)

-- each text has no fault or a first one, and not both; and where it has none, it stands for a
-- program, and for no other
pub record HasOneLargeReading (text : List ℕ) : Type 0 where
  pub some : IsLargeRight text ⊎ ((fault : ReadFault) × IsLargeFault text fault)
  pub never_both : IsLargeRight text → (fault : ReadFault) → IsLargeFault text fault → ⊥
  pub one : (fault other : ReadFault) → IsLargeFault text fault → IsLargeFault text other
      → fault ≡ other
  pub program : IsLargeRight text → (program : ProgramMarks) × StandsForLarge text program
  pub one_program : (program other : ProgramMarks) → StandsForLarge text program
      → StandsForLarge text other
      → program ≡ other
