-- What is said of a text's program, under its own costs or under others.
use Rattle.std.specs.Prelude.{ℕ, ◌≡◌, ◌<◌, ◌⊎◌, Bool, true, false, List, [], ◌∷◌, ◌≤◌, length, sum}
use Rattle.large_text.specs.LargeTexts.{IsLargeFault, IsLargeRight, StandsForLarge}
use Rattle.large_text.specs.declared.limits.TheConstants.{LARGEST_LINE}
use Rattle.program_text.specs.Marks.{Mark}
use Rattle.program_text.specs.declared.fault.ReadFault.{ReadFault}
use Rattle.program_text.specs.declared.fault.ReadKind.TheVariants.{TooLong}
use Rattle.program_text.specs.declared.limits.TheConstants.{MOST_WORK}
use Rattle.task_program.specs.ProgramMarks.{ProgramMarks}
use Rattle.task_program.specs.Readings.{HasFirstFault}
use Rattle.task_program.specs.Trees.{HasTree}
use Rattle.task_segments.specs.Precedence.{MustPrecede}
use Rattle.task_segments.specs.Table.{Table, costs_of, table_of}

-- a text, and whether it may be of any size or has to keep the limits of programs
pub record Source : Type 0 where
  pub any_size : Bool
  pub text : List ℕ

abbrev pub source : Bool → List ℕ → Source
source any_size text = record { any_size = any_size; text = text }

-- the text is that of a program, whose marks are these
pub record HasProgram (text : List ℕ) (marks : List Mark) : Type 0 where
  pub program : ProgramMarks
  pub tree : HasTree text program
  pub are : program.marks ≡ marks

-- a text of any size stands for these marks, within the limits of such texts
pub record HasLargeText (text : List ℕ) (marks : List Mark) : Type 0 where
  pub short : length text ≤ LARGEST_LINE
  pub program : ProgramMarks
  pub stands : StandsForLarge text program
  pub right : IsLargeRight text
  pub are : program.marks ≡ marks

-- the text stands for these marks
abbrev pub StandsFor : Bool → List ℕ → List Mark → Type 0
StandsFor false text marks = HasProgram text marks
StandsFor true text marks = HasLargeText text marks

-- more bytes than a text of any size may have here: its fault is on line 1
pub record IsTooLong (text : List ℕ) (fault : ReadFault) : Type 0 where
  pub longer : LARGEST_LINE < length text
  pub kind : fault.kind ≡ TooLong
  pub line : fault.line ≡ 1

-- why the text stands for none
abbrev pub IsFaultOf : Bool → List ℕ → ReadFault → Type 0
IsFaultOf false text fault = HasFirstFault text fault
IsFaultOf true text fault =
    IsTooLong text fault ⊎ IsLargeFault text fault

-- the text stands for a program, of whose table something is so
pub record OfText (from : Source) (Says : Table → Type 0) : Type 0 where
  pub marks : List Mark
  pub stands : StandsFor from.any_size from.text marks
  pub says : Says (table_of marks)

-- the costs that are given, or where none are, the program's own
abbrev pub costs_under : List ℕ → List ℕ → List ℕ
costs_under own [] = own
costs_under own (cost ∷ costs) = cost ∷ costs

-- there is a cost for each segment, their sum is within the limit of work, and something is so under
-- the costs and all pairs of segments of which the first must precede the second
pub record IsUnder (given : List ℕ) (Says : List ℕ → (ℕ → ℕ → Type 0) → Type 0) (table : Table)
    : Type 0 where
  pub each : length (costs_under (costs_of table) given) ≡ length table.segments
  pub small : sum (costs_under (costs_of table) given) ≤ MOST_WORK
  pub says : Says (costs_under (costs_of table) given) (MustPrecede table)

-- the text has a program, of which something is so under the costs
abbrev pub OnCosts : Source → List ℕ → (List ℕ → (ℕ → ℕ → Type 0) → Type 0) → Type 0
OnCosts from given Says = OfText from (IsUnder given Says)
