-- Carried out: the grammar of version 1 by itself: a text of it as pieces, each a statement up to its
-- body or the end of one, and what each piece means. Its trees and sentences are those of `Grammar`.
use Rattle.std.specs.Prelude.{◌≡◌, ℕ, zero, suc, ◌≤◌, Bool, true, false, ◌==◌, List, [], ◌∷◌, ◌++◌, length}
use Rattle.std.specs.Prelude.{map, sum_by, count_by, fold, All, Some, slice_get, codes}
use Rattle.std.specs.List.{flat_map, list_any, AllZip}
use Rattle.program_text.specs.declared.statement.DependKind.{DependKind}
use Rattle.program_text.specs.declared.statement.Item.{Item}
use Rattle.task_program.specs.declared.version.Version.TheVariants.{One}
use Rattle.program_text.specs.Marks.{Mark}
use Rattle.program_text.specs.Marks.Mark.{Begins, Ends, Works, Waits, GroupBegins, GroupEnds}
use Rattle.program_text.specs.declared.limits.TheConstants.{MOST_TEXT_BYTES, MOST_TOKEN_BYTES}
use Rattle.program_text.specs.declared.limits.TheConstants.{MOST_TASKS, MOST_SEGMENTS, MOST_WORK}
use Rattle.program_text.specs.declared.limits.TheConstants.{LARGEST_COST}
use Rattle.program_text.specs.Limits.{tasks_of, segments_of, work_of}
use Rattle.task_program.specs.Names.{with_name}
use Rattle.task_program.specs.Programs.{FitsLimits, open_blocks}
use Rattle.program_text.specs.Tokens.{texts, tokens_of}
use Rattle.program_text.specs.Words.{is_word, is_number, value_of, type_word}
use Rattle.task_program.specs.ProgramMarks.{ProgramMarks}
use Rattle.task_program.specs.Grammar.{IsShort}

-- a clause as it is written: the number of an `if`; the type of a `depend`, its names up to the
-- last, and the last
pub data Clause : Type 0 where
  IfClause : (number : List ℕ) → Clause
  DependClause : (kind : DependKind) (names : List (List ℕ)) (last : List ℕ) → Clause

-- a statement up to its body as it is written, or the end of a body
pub data Written : Type 0 where
  WorkWritten : (number : List ℕ) → Written
  TaskWritten : (clauses : List Clause) → Written
  WaitWritten : Written
  GroupWritten : Written
  EndWritten : Written

abbrev pub name_and_comma : List ℕ → List (List ℕ)
name_and_comma name = name ∷ codes "," ∷ []

abbrev pub clause_texts : Clause → List (List ℕ)
clause_texts (IfClause number) = codes "if" ∷ codes "(" ∷ number ∷ codes ")" ∷ []
clause_texts (DependClause kind names last) =
    codes "depend" ∷ codes "(" ∷ type_word kind ∷ codes ":"
    ∷ (flat_map name_and_comma names ++ last ∷ codes ")" ∷ [])

-- the tokens of a piece
abbrev pub texts_of : Written → List (List ℕ)
texts_of (WorkWritten number) = codes "work" ∷ number ∷ []
texts_of (TaskWritten clauses) = codes "task" ∷ (flat_map clause_texts clauses ++ codes "{" ∷ [])
texts_of WaitWritten = codes "taskwait" ∷ []
texts_of GroupWritten = codes "taskgroup" ∷ codes "{" ∷ []
texts_of EndWritten = codes "}" ∷ []

-- ---- what a piece means

abbrev pub named_items : Clause → List (DependKind × List ℕ)
named_items (IfClause number) = []
named_items (DependClause kind names last) = map (λ name. (kind, name)) (names ++ last ∷ [])

abbrev pub is_if : Clause → Bool
is_if (IfClause number) = true
is_if (DependClause kind names last) = false

abbrev pub makes_undeferred : Clause → Bool
makes_undeferred (IfClause number) = value_of number == 0
makes_undeferred (DependClause kind names last) = false

-- the number of an `if` is 0 or 1
abbrev pub IsClause : Clause → Type 0
IsClause (IfClause number) = (is_number number ≡ true) × (value_of number ≤ 1)
IsClause (DependClause kind names last) = Unit {0}

-- the item has this type, and its number is that of this name
abbrev pub IsItem : List (List ℕ) → DependKind × List ℕ → Item → Type 0
IsItem names named item =
    (item.kind ≡ named.0) × (slice_get names item.name ≡ Some named.1) × (is_word named.1 ≡ true)

pub record AreClausesOfTask (names : List (List ℕ)) (clauses : List Clause) (undeferred : Bool)
    (items : List Item)
    : Type 0 where
  pub each : All IsClause clauses
  pub one_if : count_by is_if clauses ≤ 1
  pub undeferred_is : undeferred ≡ list_any makes_undeferred clauses
  pub items_are : AllZip (IsItem names) (flat_map named_items clauses) items

abbrev pub Means : List (List ℕ) → Written → Mark → Type 0
Means names (WorkWritten number) (Works cost) =
    (is_number number ≡ true) × (cost ≡ value_of number) × (value_of number ≤ LARGEST_COST)
Means names (TaskWritten clauses) (Begins undeferred items) =
    AreClausesOfTask names clauses undeferred items
Means names WaitWritten Waits = Unit {0}
Means names GroupWritten GroupBegins = Unit {0}
Means names EndWritten Ends = Unit {0}
Means names EndWritten GroupEnds = Unit {0}
Means names _ _ = ⊥

-- the names that a piece mentions, in order
abbrev pub names_of_piece : Written → List (List ℕ)
names_of_piece (TaskWritten clauses) = map (λ named. named.1) (flat_map named_items clauses)
names_of_piece _ = []

-- ---- limits aside

abbrev pub IsWord : List ℕ → Type 0
IsWord text = is_word text ≡ true

-- the number of an `if` is any, and names are words
abbrev pub HasClauseForm : Clause → Type 0
HasClauseForm (IfClause number) = is_number number ≡ true
HasClauseForm (DependClause kind names last) = All IsWord names × IsWord last

-- the number of a `work` is any, and a task has one `if` at most
abbrev pub HasForm : Written → Type 0
HasForm (WorkWritten number) = is_number number ≡ true
HasForm (TaskWritten clauses) = All HasClauseForm clauses × (count_by is_if clauses ≤ 1)
HasForm _ = Unit {0}

-- the pieces end each block that they begin, and so many more that were open before
abbrev pub EndBlocks : List Written → ℕ → Type 0
EndBlocks [] zero = Unit {0}
EndBlocks [] (suc more) = ⊥
EndBlocks (TaskWritten clauses ∷ pieces) more = EndBlocks pieces (suc more)
EndBlocks (GroupWritten ∷ pieces) more = EndBlocks pieces (suc more)
EndBlocks (EndWritten ∷ pieces) zero = ⊥
EndBlocks (EndWritten ∷ pieces) (suc more) = EndBlocks pieces more
EndBlocks (WorkWritten number ∷ pieces) more = EndBlocks pieces more
EndBlocks (WaitWritten ∷ pieces) more = EndBlocks pieces more

-- ---- a whole text

-- the text of version 1 has this program as its tree
pub record HasPlainTree (text : List ℕ) (program : ProgramMarks) : Type 0 where
  pub in_version : program.version ≡ One
  pub version : List ℕ
  pub written : List Written
  pub version_is_one : (is_number version ≡ true) × (value_of version ≡ 1)
  -- its tokens are the header and the pieces, which mean the marks
  pub spelled : texts (tokens_of text) ≡ codes "omptasks" ∷ version ∷ flat_map texts_of written
  pub means : AllZip (Means program.names) written program.marks
  -- names are numbered in the order of their first mention
  pub names_are : program.names ≡ fold with_name [] (flat_map names_of_piece written)
  -- and the limits hold
  pub nested : open_blocks program.marks ≡ Some []
  pub tasks : tasks_of program.marks ≤ MOST_TASKS
  pub segments : segments_of program.marks ≤ MOST_SEGMENTS
  pub work : work_of program.marks ≤ MOST_WORK
  pub marks_fit : All (FitsLimits (length program.names)) program.marks
  pub text_fits : length text ≤ MOST_TEXT_BYTES
  pub tokens_fit : sum_by length (texts (tokens_of text)) ≤ MOST_TOKEN_BYTES
  pub words_fit : All IsShort (texts (tokens_of text))
