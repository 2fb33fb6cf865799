-- What a text of version 2 spells, piece by piece as it is written.
use Rattle.std.proofs.Common.{◌≡◌, ℕ, ◌+◌, ◌≤◌, Bool, true, false, cond, List, [], ◌∷◌, ◌++◌, refl}
use Rattle.std.proofs.Common.{arith}
use Rattle.std.specs.Prelude.{All, count_by}
use Rattle.std.proofs.lemmas.List.Elements.{All-nil, All-cons}
use Rattle.std.specs.Prelude.{codes}
use Rattle.std.specs.List.{flat_map, list_any}
use Rattle.std.specs.Str.{bytes_eq}
use Rattle.program_text.specs.declared.statement.DependKind.{DependKind}
use Rattle.task_program.specs.declared.version.Version.{Version}
use Rattle.task_program.specs.declared.version.Version.TheVariants.{Two}
use Rattle.loop_text.specs.LoopTokens.{is_plus_or_minus}
use Rattle.program_text.specs.Words.{is_word, is_number, type_word}

-- ---- how a text is written

-- a number, `-` and a number, a variable, or a variable, `+` or `-`, and a number
pub data IndexWritten : Type 0 where
  NumberIndex : (number : List ℕ) → IndexWritten
  MinusIndex : (number : List ℕ) → IndexWritten
  VariableIndex : (variable : List ℕ) → IndexWritten
  SignIndex : (variable sign number : List ℕ) → IndexWritten

pub data ItemWritten : Type 0 where
  PlainItem : (name : List ℕ) → ItemWritten
  IndexedItem : (name : List ℕ) (index : IndexWritten) → ItemWritten

-- a clause: the number of an `if` or `final`; the type of a `depend`, its items up to the last, and
-- the last
pub data LoopClause : Type 0 where
  IfClause : (number : List ℕ) → LoopClause
  FinalClause : (number : List ℕ) → LoopClause
  DependClause : (kind : DependKind) (items : List ItemWritten) (last : ItemWritten) → LoopClause

-- a statement up to its body, or the end of a body
pub data LoopPiece : Type 0 where
  WorkPiece : (number : List ℕ) → LoopPiece
  TaskPiece : (clauses : List LoopClause) → LoopPiece
  WaitPiece : LoopPiece
  GroupPiece : LoopPiece
  ForPiece : (variable first last : List ℕ) → LoopPiece
  EndPiece : LoopPiece

abbrev pub index_texts : IndexWritten → List (List ℕ)
index_texts (NumberIndex number) = number ∷ []
index_texts (MinusIndex number) = codes "-" ∷ number ∷ []
index_texts (VariableIndex variable) = variable ∷ []
index_texts (SignIndex variable sign number) = variable ∷ sign ∷ number ∷ []

abbrev pub item_texts : ItemWritten → List (List ℕ)
item_texts (PlainItem name) = name ∷ []
item_texts (IndexedItem name index) = name ∷ codes "[" ∷ (index_texts index ++ codes "]" ∷ [])

abbrev pub item_and_comma : ItemWritten → List (List ℕ)
item_and_comma item = item_texts item ++ codes "," ∷ []

abbrev pub clause_texts : LoopClause → List (List ℕ)
clause_texts (IfClause number) = codes "if" ∷ codes "(" ∷ number ∷ codes ")" ∷ []
clause_texts (FinalClause number) = codes "final" ∷ codes "(" ∷ number ∷ codes ")" ∷ []
clause_texts (DependClause kind items last) =
    codes "depend" ∷ codes "(" ∷ type_word kind ∷ codes ":"
    ∷ (flat_map item_and_comma items ++ (item_texts last ++ codes ")" ∷ []))

abbrev pub piece_texts : LoopPiece → List (List ℕ)
piece_texts (WorkPiece number) = codes "work" ∷ number ∷ []
piece_texts (TaskPiece clauses) = codes "task" ∷ (flat_map clause_texts clauses ++ codes "{" ∷ [])
piece_texts WaitPiece = codes "taskwait" ∷ []
piece_texts GroupPiece = codes "taskgroup" ∷ codes "{" ∷ []
piece_texts (ForPiece variable first last) = codes "for" ∷ variable ∷ first ∷ last ∷ codes "{" ∷ []
piece_texts EndPiece = codes "}" ∷ []

-- ---- what the grammar has, inside loops with these variables

abbrev pub HasNumberForm : List ℕ → Type 0
HasNumberForm text = is_number text ≡ true

abbrev pub IsWord : List ℕ → Type 0
IsWord text = is_word text ≡ true

-- a variable of a loop around
abbrev pub IsVariableAround : List (List ℕ) → List ℕ → Type 0
IsVariableAround variables text = (is_word text ≡ true) × (list_any (bytes_eq text) variables ≡ true)

-- a variable that no loop around has
abbrev pub IsNewVariable : List (List ℕ) → List ℕ → Type 0
IsNewVariable variables text = (is_word text ≡ true) × (list_any (bytes_eq text) variables ≡ false)

abbrev pub HasIndexForm : List (List ℕ) → IndexWritten → Type 0
HasIndexForm variables (NumberIndex number) = HasNumberForm number
HasIndexForm variables (MinusIndex number) = HasNumberForm number
HasIndexForm variables (VariableIndex variable) = IsVariableAround variables variable
HasIndexForm variables (SignIndex variable sign number) =
    IsVariableAround variables variable × (is_plus_or_minus sign ≡ true) × HasNumberForm number

abbrev pub HasItemForm : List (List ℕ) → ItemWritten → Type 0
HasItemForm variables (PlainItem name) = IsWord name
HasItemForm variables (IndexedItem name index) = IsWord name × HasIndexForm variables index

abbrev pub HasLoopClauseForm : List (List ℕ) → LoopClause → Type 0
HasLoopClauseForm variables (IfClause number) = HasNumberForm number
HasLoopClauseForm variables (FinalClause number) = HasNumberForm number
HasLoopClauseForm variables (DependClause kind items last) =
    All (HasItemForm variables) items × HasItemForm variables last

abbrev pub is_if : LoopClause → Bool
is_if (IfClause number) = true
is_if _ = false

abbrev pub is_final : LoopClause → Bool
is_final (FinalClause number) = true
is_final _ = false

-- one `if` and one `final` at most
abbrev pub HaveClauseForms : List (List ℕ) → List LoopClause → Type 0
HaveClauseForms variables clauses =
    All (HasLoopClauseForm variables) clauses
    × (count_by is_if clauses ≤ 1)
    × (count_by is_final clauses ≤ 1)

-- Pieces inside loops with these variables, which end each block that they begin and those that
-- were open before: for each of these, the innermost first, the variables of the loops around it.
abbrev pub HaveLoopForms : List LoopPiece
    → (variables : List (List ℕ))
    → (around : List (List (List ℕ)))
    → Type 0
HaveLoopForms [] variables [] = Unit {0}
HaveLoopForms [] variables (outer ∷ around) = ⊥
HaveLoopForms (WorkPiece number ∷ pieces) variables around =
    HasNumberForm number × HaveLoopForms pieces variables around
HaveLoopForms (TaskPiece clauses ∷ pieces) variables around =
    HaveClauseForms variables clauses × HaveLoopForms pieces variables (variables ∷ around)
HaveLoopForms (WaitPiece ∷ pieces) variables around = HaveLoopForms pieces variables around
HaveLoopForms (GroupPiece ∷ pieces) variables around =
    HaveLoopForms pieces variables (variables ∷ around)
HaveLoopForms (ForPiece variable first last ∷ pieces) variables around =
    IsNewVariable variables variable
    × HasNumberForm first
    × HasNumberForm last
    × HaveLoopForms pieces (variable ∷ variables) (variables ∷ around)
HaveLoopForms (EndPiece ∷ pieces) variables [] = ⊥
HaveLoopForms (EndPiece ∷ pieces) variables (outer ∷ around) = HaveLoopForms pieces outer around

-- however the task began, it has one `if` at most
pub no_more_than_one : (has_if : Bool) (count : ℕ) → cond has_if 1 0 + count ≤ 1 → count ≤ 1
no_more_than_one true count h = omega (arith, h)
no_more_than_one false count h = omega (arith, h)

-- ---- what a version has: loops, indices and `final` are of version 2

abbrev pub IsItemIn : Version → ItemWritten → Type 0
IsItemIn version (PlainItem name) = Unit {0}
IsItemIn version (IndexedItem name index) = version ≡ Two

abbrev pub IsClauseIn : Version → LoopClause → Type 0
IsClauseIn version (IfClause number) = Unit {0}
IsClauseIn version (FinalClause number) = version ≡ Two
IsClauseIn version (DependClause kind items last) =
    All (IsItemIn version) items × IsItemIn version last

abbrev pub IsPieceIn : Version → LoopPiece → Type 0
IsPieceIn version (TaskPiece clauses) = All (IsClauseIn version) clauses
IsPieceIn version (ForPiece variable first last) = version ≡ Two
IsPieceIn version _ = Unit {0}

all_of : {A : Type 0} (P : A → Type 0) → ((x : A) → P x) → (xs : List A) → All P xs
all_of P every [] = All-nil P
all_of P every (x ∷ xs) = All-cons P x xs (every x) (all_of P every xs)

item_in_two : (item : ItemWritten) → IsItemIn Two item
item_in_two (PlainItem name) = tt
item_in_two (IndexedItem name index) = refl

clause_in_two : (clause : LoopClause) → IsClauseIn Two clause
clause_in_two (IfClause number) = tt
clause_in_two (FinalClause number) = refl
clause_in_two (DependClause kind items last) =
    (all_of (IsItemIn Two) item_in_two items, item_in_two last)

piece_in_two : (piece : LoopPiece) → IsPieceIn Two piece
piece_in_two (TaskPiece clauses) = all_of (IsClauseIn Two) clause_in_two clauses
piece_in_two (ForPiece variable first last) = refl
piece_in_two _ = tt

-- version 2 has all pieces
pub all_in_two : (pieces : List LoopPiece) → All (IsPieceIn Two) pieces
all_in_two pieces = all_of (IsPieceIn Two) piece_in_two pieces
