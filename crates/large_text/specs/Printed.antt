-- Carried out: what a printer has written of the marks and of the items so far.
use Rattle.std.specs.Prelude.{◌≡◌, ℕ, Bool, true, List, [], ◌∷◌, ◌++◌, fold, Option, Some, None, codes}
use Rattle.std.specs.Prelude.{if◌then◌else◌}
use Rattle.std.specs.Option.{IfSome}
use Rattle.std.specs.String.{string_bytes}
use Rattle.program_text.specs.declared.statement.DependKind.{DependKind}
use Rattle.program_text.specs.declared.statement.Item.{Item}
use Rattle.program_text.specs.Marks.{Mark}
use Rattle.program_text.specs.Marks.Mark.{Begins}
use Rattle.program_text.specs.Words.{is_word, type_word}
use Rattle.task_program.specs.Canonical.{canonical_text, item_separator, name_of}
use Rattle.task_program.specs.ProgramMarks.{ProgramMarks}
use Rattle.task_program.specs.declared.version.Version.{Version}
use Rattle.task_program.specs.declared.version.Version.TheVariants.{One}
use Rattle.task_program.specs.Names.{number_of_name, with_name}
use Rattle.task_program.specs.declared.place.Place.{Place}
use Rattle.task_program.specs.declared.place.Place.TheVariants.{DependName}
use Rattle.large_text.specs.declared.printer.Printer.{Printer}

-- ---- the clauses, without the last `)`

-- the items after one of this type
abbrev pub items_open : List (List ℕ) → DependKind → List Item → List ℕ
items_open names kind [] = []
items_open names kind (item ∷ items) =
    item_separator kind item.kind ++ (name_of names item ++ items_open names item.kind items)

-- what stands before an item, behind one of the last type, if one is there
abbrev pub joint : Option DependKind → DependKind → List ℕ
joint None kind = codes " depend(" ++ (type_word kind ++ codes ": ")
joint (Some last) kind = item_separator last kind

abbrev pub clauses_open : List (List ℕ) → List Item → List ℕ
clauses_open names [] = []
clauses_open names (item ∷ items) =
    joint None item.kind ++ (name_of names item ++ items_open names item.kind items)

-- the type of the last item, behind one of this type
abbrev pub last_after : DependKind → List Item → DependKind
last_after kind [] = kind
last_after kind (item ∷ items) = last_after item.kind items

abbrev pub last_of : List Item → Option DependKind
last_of [] = None
last_of (item ∷ items) = Some (last_after item.kind items)

-- ---- the line of a task

abbrev pub task_begins : Bool → List ℕ
task_begins undeferred = if undeferred then codes "task if(0)" else codes "task"

abbrev pub task_ends : Option DependKind → List ℕ
task_ends None = codes " {\n"
task_ends (Some last) = codes ") {\n"

abbrev pub task_line : Bool → (clauses : List ℕ) → Option DependKind → List ℕ
task_line undeferred clauses last = task_begins undeferred ++ (clauses ++ task_ends last)

-- ---- a printer

-- a program of this version with these names and marks
abbrev pub program_in : Version → (names : List (List ℕ)) → List Mark → ProgramMarks
program_in version names marks = record { version = version; marks = marks; names = names }

-- the canonical text of these marks in this version and the clauses of these items have been
-- written, whatever names are mentioned behind these
pub record Prints (version : Version) (printer : Printer) (names : List (List ℕ))
    (items : List Item) (marks : List Mark)
    : Type 0 where
  pub text : (more : List (List ℕ))
      → string_bytes printer.text
      ≡ canonical_text (program_in version (fold with_name names more) marks)
  pub clauses : (more : List (List ℕ))
      → string_bytes printer.clauses ≡ clauses_open (fold with_name names more) items
  pub last : printer.last ≡ last_of items

-- where something is written
abbrev pub PrintsIn : Version → Option Printer → List (List ℕ) → List Item → List Mark → Type 0
PrintsIn version printer names items marks =
    IfSome printer (λ (printer : Printer). Prints version printer names items marks)

-- and the text is of version 1
abbrev pub PrintsBy : Option Printer → List (List ℕ) → List Item → List Mark → Type 0
PrintsBy printer names items marks = PrintsIn One printer names items marks

-- ---- a token and a mark more

-- a name is a word
abbrev pub IsNameAt : Place → List ℕ → Type 0
IsNameAt (DependName kind) text = is_word text ≡ true
IsNameAt place text = Unit {0}

-- the names with that of a token at this place, and the items with its item
abbrev pub names_read : Place → List (List ℕ) → List ℕ → List (List ℕ)
names_read (DependName kind) names text = with_name names text
names_read place names text = names

abbrev pub items_read : Place → (names : List (List ℕ)) → List Item → List ℕ → List Item
items_read (DependName kind) names items text =
    items ++ record { kind = kind; name = number_of_name names text } ∷ []
items_read place names items text = items

-- with this token what was printed goes on
abbrev pub PrintsItem : Place → List ℕ → (before after : Option Printer) → Type 0
PrintsItem place text before after =
    (version : Version) (names : List (List ℕ)) (items : List Item) (marks : List Mark)
    → PrintsIn version before names items marks
    → PrintsIn version after (names_read place names text) (items_read place names items text) marks

-- and so with an item of this type and name
abbrev pub PrintsNamed : DependKind → List ℕ → (before after : Option Printer) → Type 0
PrintsNamed kind name before after = PrintsItem (DependName kind) name before after

-- a task that begins has the items so far
abbrev pub IsOwn : List Item → Mark → Type 0
IsOwn items (Begins undeferred own) = own ≡ items
IsOwn items mark = Unit {0}

-- and behind its beginning none are left
abbrev pub items_behind : List Item → Mark → List Item
items_behind items (Begins undeferred own) = []
items_behind items mark = items

-- with this mark what was printed goes on
abbrev pub PrintsMark : (before after : Option Printer) → Mark → Type 0
PrintsMark before after mark =
    (version : Version) (names : List (List ℕ)) (items : List Item) (marks : List Mark)
    → IsOwn items mark
    → PrintsIn version before names items marks
    → PrintsIn version after names (items_behind items mark) (marks ++ mark ∷ [])
