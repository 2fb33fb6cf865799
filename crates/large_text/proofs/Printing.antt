-- What a printer has written after one token more, and after one mark more.
use Rattle.std.proofs.Common.{◌≡◌, ℕ, Bool, true, false, List, [], ◌∷◌, ◌++◌, append_assoc, Option}
use Rattle.std.proofs.Common.{Some, None, refl, sym, ap, subst, ◌∙◌, codes, append-nil, length, Result, Ok, Err}
use Rattle.std.specs.Prelude.{OnOk, fold}
use Rattle.std.specs.List.{flat_map}
use Rattle.std.specs.Option.{IfSome}
use Rattle.std.specs.String.{string_bytes}
use Rattle.std.proofs.lemmas.List.Concat.{flat_map-append}
use Rattle.std.proofs.lemmas.Option.{get_or_from_slice_get}
use Rattle.program_text.specs.declared.statement.DependKind.{DependKind}
use Rattle.program_text.specs.declared.statement.Item.{Item}
use Rattle.program_text.specs.Marks.{Mark}
use Rattle.program_text.specs.Marks.Mark.{Begins, Ends, GroupBegins, GroupEnds, Waits, Works}
use Rattle.program_text.specs.Tokens.{Token}
use Rattle.program_text.specs.Words.{is_text, type_word, value_of}
use Rattle.program_text.proofs.Bools.{bool_cases}
use Rattle.task_program.specs.declared.place.Place.{Place}
use Rattle.task_program.specs.declared.place.Place.TheVariants.{Statement, WorkNumber, GroupBrace}
use Rattle.task_program.specs.declared.place.Place.TheVariants.{Clause, DependName, DependMore}
use Rattle.task_program.specs.Canonical.{canonical_text, depend_clauses, header_line, item_separator}
use Rattle.task_program.specs.Canonical.{items_after, line_of_mark, name_of}
use Rattle.task_program.specs.Faults.{State, after_at, is_allowed}
use Rattle.task_program.specs.Names.{number_of_name, with_name}
use Rattle.task_program.specs.TreeSoFar.{Block, after_end_of}
use Rattle.task_program.specs.TreeSoFar.Block.{TaskBlock, GroupBlock}
use Rattle.task_program.specs.declared.version.Version.{Version}
use Rattle.task_program.specs.declared.version.Version.TheVariants.{One}
use Rattle.task_program.proofs.FoundPlaces.{own_number}
use Rattle.task_program.proofs.NamesOnce.{names_stay}
use Rattle.large_text.specs.LargeReading.{GoesTo, mark_seen, marks_after, state_of, with_bytes}
use Rattle.large_text.specs.Printed.{IsNameAt, IsOwn, Prints, PrintsBy, PrintsItem, PrintsMark, clauses_open}
use Rattle.large_text.specs.Printed.{PrintsIn, program_in, items_behind, items_open, items_read, joint, last_after, last_of}
use Rattle.large_text.specs.Printed.{names_read, task_ends, task_line}
use Rattle.large_text.specs.Tallied.{Tallies}
use Rattle.large_text.specs.declared.marks.TextMark.{TextMark}
use Rattle.large_text.specs.declared.tally.Tally.{Tally}
use Rattle.large_text.specs.declared.printer.Printer.{Printer}
use Rattle.large_text.specs.declared.reader.MarkReader.{MarkReader}

-- ---- an item more

open_more : (names : List (List ℕ)) (kind : DependKind) (items : List Item) (item : Item)
    → items_open names kind (items ++ item ∷ [])
    ≡ items_open names kind items
    ++ (item_separator (last_after kind items) item.kind ++ name_of names item)
open_more names kind [] item =
    ap (λ (ts : List ℕ). item_separator kind item.kind ++ ts) (append-nil (name_of names item))
open_more names kind (first ∷ items) item =
    let rest : List ℕ = item_separator (last_after first.kind items) item.kind ++ name_of names item
    in
    ap (λ (ts : List ℕ). item_separator kind first.kind ++ (name_of names first ++ ts))
    (open_more names first.kind items item)
    ∙ ap (λ (ts : List ℕ). item_separator kind first.kind ++ ts)
    (sym (append_assoc (name_of names first) (items_open names first.kind items) rest))
    ∙ sym (append_assoc (item_separator kind first.kind)
    (name_of names first ++ items_open names first.kind items) rest)

clauses_more : (names : List (List ℕ)) (items : List Item) (item : Item)
    → clauses_open names (items ++ item ∷ [])
    ≡ clauses_open names items ++ (joint (last_of items) item.kind ++ name_of names item)
clauses_more names [] item =
    ap (λ (ts : List ℕ). joint None item.kind ++ ts) (append-nil (name_of names item))
clauses_more names (first ∷ items) item =
    let rest : List ℕ = item_separator (last_after first.kind items) item.kind ++ name_of names item
    in
    ap (λ (ts : List ℕ). joint None first.kind ++ (name_of names first ++ ts))
    (open_more names first.kind items item)
    ∙ ap (λ (ts : List ℕ). joint None first.kind ++ ts)
    (sym (append_assoc (name_of names first) (items_open names first.kind items) rest))
    ∙ sym (append_assoc (joint None first.kind)
    (name_of names first ++ items_open names first.kind items) rest)

after_more : (kind : DependKind) (items : List Item) (item : Item)
    → last_after kind (items ++ item ∷ []) ≡ item.kind
after_more kind [] item = refl
after_more kind (first ∷ items) item = after_more first.kind items item

last_more : (items : List Item) (item : Item) → last_of (items ++ item ∷ []) ≡ Some item.kind
last_more [] item = refl
last_more (first ∷ items) item =
    ap (λ (k : DependKind). Some k) (after_more first.kind items item)

abbrev item_of : List (List ℕ) → DependKind → List ℕ → Item
item_of names kind name = record { kind = kind; name = number_of_name names name }

-- whatever names follow, the item has this name
own_name : (names more : List (List ℕ)) (kind : DependKind) (name : List ℕ)
    → name_of (fold with_name (with_name names name) more) (item_of names kind name) ≡ name
own_name names more kind name =
    get_or_from_slice_get (fold with_name (with_name names name) more) (number_of_name names name)
    name []
    (names_stay (with_name names name) more name (number_of_name names name)
    (own_number names name))

pub prints_item : (old new : Printer) (kind : DependKind) (name : List ℕ)
    → string_bytes new.text ≡ string_bytes old.text
    → string_bytes new.clauses ≡ (string_bytes old.clauses ++ joint old.last kind) ++ name
    → new.last ≡ Some kind
    → (version : Version) (names : List (List ℕ)) (items : List Item) (marks : List Mark)
    → Prints version old names items marks
    → Prints version new (with_name names name) (items ++ item_of names kind name ∷ []) marks
prints_item old new kind name text clauses last version names items marks h =
    let item = item_of names kind name in
    record {
      text = λ more. text ∙ h.text (name ∷ more);
      clauses = λ more.
          let whole = fold with_name (with_name names name) more in
          clauses
          ∙ ap (λ (ts : List ℕ). (ts ++ joint old.last kind) ++ name) (h.clauses (name ∷ more))
          ∙ ap (λ (k : Option DependKind). (clauses_open whole items ++ joint k kind) ++ name) h.last
          ∙ append_assoc (clauses_open whole items) (joint (last_of items) kind) name
          ∙ ap (λ (n : List ℕ). clauses_open whole items ++ (joint (last_of items) kind ++ n))
          (sym (own_name names more kind name))
          ∙ sym (clauses_more whole items item);
      last = last ∙ sym (last_more items item);
    }

-- where memory for it is at hand, three things together say a fourth
pub all_ok : {E : Type 0} (result : Result (Unit {0}) E) (A B C D : Type 0)
    → (A → B → C → D)
    → OnOk result A
    → OnOk result B
    → OnOk result C
    → OnOk result D
all_ok (Ok u) A B C D then a b c = then a b c
all_ok (Err fault) A B C D then a b c = tt

-- ---- a line more

lines_more : (version : Version) (names : List (List ℕ)) (marks : List Mark) (mark : Mark)
    (text line : List ℕ)
    → text ≡ canonical_text (program_in version names marks)
    → line ≡ line_of_mark names mark
    → text ++ line ≡ canonical_text (program_in version names (marks ++ mark ∷ []))
lines_more version names marks mark text line text_is line_is =
    let lines = flat_map (line_of_mark names) marks in
    ap (λ (ts : List ℕ). ts ++ line) text_is
    ∙ append_assoc (header_line version) lines line
    ∙ ap (λ (ts : List ℕ). header_line version ++ (lines ++ ts))
    (line_is ∙ sym (append-nil (line_of_mark names mark)))
    ∙ ap (λ (ts : List ℕ). header_line version ++ ts)
    (sym (flat_map-append (line_of_mark names) marks (mark ∷ [])))

-- that of a mark that begins no task
pub prints_line : (old new : Printer) (mark : Mark)
    → ((names : List (List ℕ)) → string_bytes new.text
    ≡ string_bytes old.text ++ line_of_mark names mark)
    → string_bytes new.clauses ≡ string_bytes old.clauses
    → new.last ≡ old.last
    → ((items : List Item) → items_behind items mark ≡ items)
    → (version : Version) (names : List (List ℕ)) (items : List Item) (marks : List Mark)
    → IsOwn items mark
    → Prints version old names items marks
    → Prints version new names (items_behind items mark) (marks ++ mark ∷ [])
prints_line old new mark line clauses last behind version names items marks own h =
    subst (λ (is : List Item). Prints version new names is (marks ++ mark ∷ []))
    (sym (behind items))
    (record {
      text = λ more.
          let whole = fold with_name names more in
          line whole ∙ lines_more version whole marks mark _ _ (h.text more) refl;
      clauses = λ more. clauses ∙ h.clauses more;
      last = last ∙ h.last;
    })

closed : (names : List (List ℕ)) (kind : DependKind) (items : List Item)
    → items_open names kind items ++ codes ")" ≡ items_after names kind items
closed names kind [] = refl
closed names kind (item ∷ items) =
    append_assoc (item_separator kind item.kind)
    (name_of names item ++ items_open names item.kind items) (codes ")")
    ∙ ap (λ (ts : List ℕ). item_separator kind item.kind ++ ts)
    (append_assoc (name_of names item) (items_open names item.kind items) (codes ")")
    ∙ ap (λ (ts : List ℕ). name_of names item ++ ts) (closed names item.kind items))

begins_so : (kind : DependKind) (rest : List ℕ)
    → joint None kind ++ rest ≡ codes " depend(" ++ (type_word kind ++ (codes ": " ++ rest))
begins_so kind rest =
    append_assoc (codes " depend(") (type_word kind ++ codes ": ") rest
    ∙ ap (λ (ts : List ℕ). codes " depend(" ++ ts) (append_assoc (type_word kind) (codes ": ") rest)

clauses_closed : (names : List (List ℕ)) (items : List Item)
    → clauses_open names items ++ task_ends (last_of items)
    ≡ depend_clauses names items ++ codes " {\n"
clauses_closed names [] = refl
clauses_closed names (item ∷ items) =
    let begun : List ℕ = joint None item.kind in
    let named : List ℕ = name_of names item in
    let opened : List ℕ = items_open names item.kind items in
    let ends : List ℕ = codes " {\n" in
    append_assoc begun (named ++ opened) (codes ")" ++ ends)
    ∙ ap (λ (ts : List ℕ). begun ++ ts) (append_assoc named opened (codes ")" ++ ends)
    ∙ ap (λ (ts : List ℕ). named ++ ts) (sym (append_assoc opened (codes ")") ends)
    ∙ ap (λ (ts : List ℕ). ts ++ ends) (closed names item.kind items))
    ∙ sym (append_assoc named (items_after names item.kind items) ends))
    ∙ sym (append_assoc begun (named ++ items_after names item.kind items) ends)
    ∙ ap (λ (ts : List ℕ). ts ++ ends)
    (begins_so item.kind (named ++ items_after names item.kind items))

task_line_is : (names : List (List ℕ)) (undeferred : Bool) (items : List Item)
    → task_line undeferred (clauses_open names items) (last_of items)
    ≡ line_of_mark names (Begins undeferred items)
task_line_is names true items =
    ap (λ (ts : List ℕ). codes "task if(0)" ++ ts) (clauses_closed names items)
task_line_is names false items =
    ap (λ (ts : List ℕ). codes "task" ++ ts) (clauses_closed names items)

pub prints_task : (old new : Printer) (undeferred : Bool) (own : List Item)
    → string_bytes new.text
    ≡ string_bytes old.text ++ task_line undeferred (string_bytes old.clauses) old.last
    → string_bytes new.clauses ≡ []
    → new.last ≡ None
    → (version : Version) (names : List (List ℕ)) (items : List Item) (marks : List Mark)
    → own ≡ items
    → Prints version old names items marks
    → Prints version new names [] (marks ++ Begins undeferred own ∷ [])
prints_task old new undeferred own line clauses last version names items marks is h = record {
  text = λ more.
      let whole = fold with_name names more in
      line ∙ lines_more version whole marks (Begins undeferred own) _ _ (h.text more)
      (ap (λ (ts : List ℕ). task_line undeferred ts old.last) (h.clauses more)
      ∙ ap (λ (k : Option DependKind). task_line undeferred (clauses_open whole items) k) h.last
      ∙ task_line_is whole undeferred items
      ∙ ap (λ (own : List Item). line_of_mark whole (Begins undeferred own)) (sym is));
  clauses = λ more. clauses;
  last = last;
}

-- ---- where a token leads

-- the names and the items of the state that is next, and the mark that has come, if one has
data Leads (names : List (List ℕ)) (items : List Item) (next : State) : Type 0 where
  NoMark : next.names ≡ names
      → next.head.items ≡ items
      → next.tree.marks ≡ []
      → Leads names items next
  OneMark : (mark : Mark)
      → next.names ≡ names
      → next.head.items ≡ items_behind items mark
      → IsOwn items mark
      → next.tree.marks ≡ mark ∷ []
      → Leads names items next

-- no mark has come before
abbrev unmarked : State → State
unmarked state = record state { tree = record state.tree { marks = [] } }

abbrev LeadsSo : Place → State → List ℕ → ℕ → Type 0
LeadsSo place state text line =
    Leads (names_read place state.names text) (items_read place state.names state.head.items text)
    (after_at place (unmarked state) text line)

block_ends : (blocks : List Block) (state : State)
    → Leads state.names state.head.items
    (record state { place = Statement; tree = after_end_of blocks [] })
block_ends [] state = NoMark refl refl refl
block_ends (TaskBlock line ∷ blocks) state = OneMark Ends refl refl tt refl
block_ends (GroupBlock line ∷ blocks) state = OneMark GroupEnds refl refl tt refl

statement_leads : (state : State) (text : List ℕ) (line : ℕ) → LeadsSo Statement state text line
statement_leads state text line =
    bool_cases (is_text text (codes "work"))
    (λ work. rw work (NoMark refl refl refl))
    (λ no_work. bool_cases (is_text text (codes "task"))
    (λ task. rw (no_work, task) (NoMark refl refl refl))
    (λ no_task. bool_cases (is_text text (codes "taskwait"))
    (λ wait. rw (no_work, no_task, wait) (OneMark Waits refl refl tt refl))
    (λ no_wait. bool_cases (is_text text (codes "taskgroup"))
    (λ group. rw (no_work, no_task, no_wait, group) (NoMark refl refl refl))
    (λ no_group. rw (no_work, no_task, no_wait, no_group)
    (block_ends state.tree.blocks state)))))

clause_leads : (state : State) (text : List ℕ) (line : ℕ) → LeadsSo Clause state text line
clause_leads state text line =
    bool_cases (is_text text (codes "{"))
    (λ brace. rw brace (OneMark (Begins state.head.undeferred state.head.items) refl refl refl refl))
    (λ no_brace. bool_cases (is_text text (codes "if"))
    (λ if_word. rw (no_brace, if_word) (NoMark refl refl refl))
    (λ no_if. rw (no_brace, no_if) (NoMark refl refl refl)))

leads : (place : Place) (state : State) (text : List ℕ) (line : ℕ) → LeadsSo place state text line
leads Statement state text line = statement_leads state text line
leads Clause state text line = clause_leads state text line
leads (DependMore kind) state text line =
    bool_cases (is_text text (codes ","))
    (λ comma. rw comma (NoMark refl refl refl))
    (λ other. rw other (NoMark refl refl refl))
leads WorkNumber state text line = OneMark (Works (value_of text)) refl refl tt refl
leads GroupBrace state text line = OneMark GroupBegins refl refl tt refl
leads _ state text line = NoMark refl refl refl

-- ---- a token more

moves : (printer : Option Printer) (names others : List (List ℕ)) (items more : List Item)
    (marks : List Mark)
    → names ≡ others
    → items ≡ more
    → PrintsBy printer others more marks
    → PrintsBy printer names items marks
moves printer names others items more marks same_names same_items h =
    subst (λ (ns : List (List ℕ)). PrintsBy printer ns items marks) (sym same_names)
    (subst (λ (is : List Item). PrintsBy printer others is marks) (sym same_items) h)

abbrev LeadsTo : (old new : MarkReader) (token : Token) → List Mark → Type 0
LeadsTo old new token marks =
    Leads (names_read old.place old.names token.text)
    (items_read old.place old.names old.items token.text) (state_of new marks)

led : (old new : MarkReader) (token : Token) (mark : Option TextMark)
    → GoesTo old new token mark
    → LeadsTo old new token (marks_after [] mark)
led old new token mark goes =
    subst
    (Leads (names_read old.place old.names token.text)
    (items_read old.place old.names old.items token.text))
    (goes.leads [])
    (leads old.place (with_bytes (state_of old []) (length token.text)) token.text token.line)

-- with which no mark is whole
pub prints_token : (old new : MarkReader) (token : Token) (marks : List Mark)
    (before after : Option Printer)
    → GoesTo old new token None
    → PrintsItem old.place token.text before after
    → PrintsBy before old.names old.items marks
    → PrintsBy after new.names new.items marks
prints_token old new token marks before after goes item h =
    elim (led old new token None goes) [
      | NoMark names items none ↦
          moves after new.names _ new.items _ marks names items
          (item One old.names old.items marks h)
      | OneMark mark names items own one ↦ absurd cc
    ]

-- or one is
pub prints_mark : (old new : MarkReader) (token : Token) (mark : TextMark) (marks : List Mark)
    (before between after : Option Printer)
    → GoesTo old new token (Some mark)
    → PrintsItem old.place token.text before between
    → PrintsMark between after (mark_seen mark)
    → PrintsBy before old.names old.items marks
    → PrintsBy after new.names new.items (marks ++ mark_seen mark ∷ [])
prints_mark old new token mark marks before between after goes item line h =
    elim (led old new token (Some mark) goes) [
      | NoMark names items none ↦ absurd cc
      | OneMark seen names items own one ↦
          let same : mark_seen mark ≡ seen = cc in
          let all = items_read old.place old.names old.items token.text in
          moves after new.names _ new.items _ (marks ++ mark_seen mark ∷ []) names
          (items ∙ ap (λ (m : Mark). items_behind all m) (sym same))
          (line One _ all marks (subst (IsOwn all) (sym same) own)
          (item One old.names old.items marks h))
    ]

-- where the grammar has a token, a name is a word
pub name_at : (place : Place) (has_if : Bool) (text : List ℕ)
    → is_allowed place has_if text ≡ true
    → IsNameAt place text
name_at (DependName kind) has_if text h = h
name_at _ has_if text h = tt

-- at another place nothing is printed
pub no_item : (place : Place) (text : List ℕ) (printer : Option Printer)
    → ((kind : DependKind) → place ≡ DependName kind → ⊥)
    → PrintsItem place text printer printer
no_item (DependName kind) text printer other = absurd (other kind refl)
no_item _ text printer other = λ version names items marks h. h

-- what a tally measures does not depend on what is printed
pub still_tallies : (tally : Tally) (printer : Option Printer) (e : List Mark)
    → Tallies tally e
    → Tallies (record tally { printer = printer }) e
still_tallies tally printer e h = record { measures = h.measures; rows = h.rows }

-- the canonical text of all marks
pub whole_text : (version : Version) (printer : Option Printer) (names : List (List ℕ))
    (items : List Item) (marks : List Mark)
    → PrintsIn version printer names items marks
    → IfSome printer (λ (printer : Printer). string_bytes printer.text
    ≡ canonical_text (program_in version names marks))
whole_text version None names items marks h = tt
whole_text version (Some printer) names items marks h = h.text []
