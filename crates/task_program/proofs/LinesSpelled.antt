-- Words that spell marks are spelled as a tree without loops, and so are the lines of the canonical
-- text.
use Rattle.std.proofs.Common.{◌≡◌, ℕ, suc, ◌≤◌, Bool, true, false, List, [], ◌∷◌, ◌++◌}
use Rattle.std.proofs.Common.{append_assoc, map, refl, sym, ap, subst, ◌∙◌, arith, codes}
use Rattle.std.specs.Prelude.{All}
use Rattle.std.specs.List.{flat_map, AllZip}
use Rattle.std.specs.Fmt.{decimal}
use Rattle.std.proofs.lemmas.List.{append-nil}
use Rattle.std.proofs.lemmas.List.Elements.{All-head, All-tail}
use Rattle.program_text.specs.declared.statement.DependKind.{DependKind}
use Rattle.program_text.specs.declared.statement.Item.{Item}
use Rattle.loop_text.specs.declared.loops.LoopItem.{LoopItem}
use Rattle.loop_text.specs.declared.loops.LoopTask.{LoopTask}
use Rattle.loop_text.specs.declared.loop_reader.LoopHead.{LoopHead}
use Rattle.loop_text.specs.declared.open_loops.LoopOpening.TheVariants.{TaskOpening, GroupOpening}
use Rattle.program_text.specs.declared.limits.TheConstants.{LARGEST_COST}
use Rattle.program_text.specs.Marks.{Mark}
use Rattle.program_text.specs.Marks.Mark.{Begins, Ends, Works, Waits, GroupBegins, GroupEnds}
use Rattle.task_program.specs.Canonical.{same_kind, name_of}
use Rattle.task_program.specs.Programs.{IsLocation, IsNameIn}
use Rattle.program_text.specs.Tokens.{Token}
use Rattle.program_text.specs.Words.{is_number, type_word, value_of}
use Rattle.loop_text.specs.Parts.{no_clauses}
use Rattle.loop_text.specs.Loops.{Tree}
use Rattle.loop_text.specs.Loops.Tree.{NoStatement, ThenWork, ThenWait, ThenGroup, ThenTask}
use Rattle.task_program.specs.declared.version.Version.{Version}
use Rattle.task_program.specs.Grammar as grammar
use Rattle.task_program.specs.Grammar.{ItemsSpelled, ClausesSpelled, OpeningSpelled, Spelled}
use Rattle.task_program.specs.Grammar.{task_of}
use Rattle.task_program.proofs.Nested as nested
use Rattle.task_program.proofs.Nested.{NestsIn}
use Rattle.task_program.proofs.ReadBack.{same_is}
use Rattle.task_program.proofs.Spelled.{spell, decimal_value, decimal_number, after_texts_by}
use Rattle.task_program.proofs.Spelled.{depend_texts_by, if_texts, line_texts_by}
use Rattle.task_program.proofs.Locations.{with_lines, lines_apart, StandsFor, ItemIs, version_item}
use Rattle.program_text.proofs.Bools.{bool_cases}

-- ---- items

abbrev pub IsItemOf : List (List ℕ) → Item → LoopItem → Type 0
IsItemOf names item loop = StandsFor item.kind (name_of names item) loop

abbrev pub IsLocated : List (List ℕ) → Item → Type 0
IsLocated names item = IsLocation (name_of names item)

abbrev pub HasNameIn : Version → List (List ℕ) → Item → Type 0
HasNameIn version names item = IsNameIn version (name_of names item)

-- the clauses before are followed by these items, and then by more that stand for the rest
record Clauses (version : Version) (names : List (List ℕ)) (tokens : List Token) (head : LoopHead)
    (first : List LoopItem) (items : List Item)
    : Type 0 where
  more : List LoopItem
  all : List LoopItem
  all_are : all ≡ head.items ++ (first ++ more)
  spelled : ClausesSpelled version true [] tokens (record head { items = all })
  stand : AllZip (IsItemOf names) items more

abbrev depend_front : DependKind → (a b c d : ℕ) → List Token → List Token
depend_front kind a b c d inside = record { text = codes "depend"; line = a }
    ∷ record { text = codes "("; line = b } ∷ record { text = type_word kind; line = c }
    ∷ record { text = codes ":"; line = d } ∷ inside

closed_clause : (version : Version) (kind : DependKind) (before inside : List Token) (a b c d e : ℕ) (head : LoopHead)
    (items : List LoopItem)
    → ClausesSpelled version true [] before head
    → ItemsSpelled version [] kind inside items
    → ClausesSpelled version true []
    (before ++ depend_front kind a b c d (inside ++ record { text = codes ")"; line = e } ∷ []))
    (record head { items = head.items ++ items })
closed_clause version kind before inside a b c d e head items clauses all =
    grammar.ClausesSpelled.Depend [] before inside (record { text = codes "depend"; line = a })
    (record { text = codes "("; line = b }) (record { text = type_word kind; line = c })
    (record { text = codes ":"; line = d }) (record { text = codes ")"; line = e })
    kind head items clauses refl refl refl refl all refl

-- the rest of the items of a task is spelled as the grammar with loops has it
items_spelled : (version : Version) (names : List (List ℕ)) (kind : DependKind) (items : List Item)
    (before inside : List Token) (a b c d : ℕ) (head : LoopHead) (first : List LoopItem)
    (lines : ℕ → ℕ)
    → ClausesSpelled version true [] before head
    → ItemsSpelled version [] kind inside first
    → All (HasNameIn version names) items
    → Clauses version names
    (before
    ++ depend_front kind a b c d
    (inside ++ with_lines (after_texts_by (spell false) names kind items) lines))
    head first items
unfolding with_lines
items_spelled version names kind [] before inside a b c d head first lines clauses begun all = record {
  more = [];
  all = head.items ++ first;
  all_are = ap (λ (is : List LoopItem). head.items ++ is) (sym (append-nil first));
  spelled = closed_clause version kind before inside a b c d (lines 0) head first clauses begun;
  stand = tt;
}
items_spelled version names kind (item ∷ items) before inside a b c d head first lines clauses begun all =
    let name : List (List ℕ) = spell false (name_of names item) in
    let after : List (List ℕ) = after_texts_by (spell false) names item.kind items in
    let located : IsNameIn version (name_of names item) = All-head (HasNameIn version names) item items all in
    let others : All (HasNameIn version names) items = All-tail (HasNameIn version names) item items all in
    bool_cases (same_kind kind item.kind)
    (λ same.
    let kind_is : kind ≡ item.kind = same_is kind item.kind same in
    let apart = lines_apart name after (λ i. lines (suc i)) in
    let one : ItemIs version kind (name_of names item)
    (with_lines name (λ i. lines (suc i))) =
    version_item version kind (name_of names item) (λ i. lines (suc i)) located in
    let comma : Token = record { text = codes ","; line = lines 0 } in
    let inside_next : List Token = inside ++ comma ∷ with_lines name (λ i. lines (suc i)) in
    let begun_next : ItemsSpelled version [] kind inside_next
    (first ++ one.item ∷ []) =
    grammar.ItemsSpelled.More [] kind inside
    (with_lines name (λ i. lines (suc i))) comma first one.item begun refl one.spelled in
    let begun_so : ItemsSpelled version [] item.kind inside_next
    (first ++ one.item ∷ []) = subst
    (λ (k : DependKind).
    ItemsSpelled version [] k inside_next (first ++ one.item ∷ []))
    kind_is begun_next in
    let items_so = items_spelled version names item.kind items before inside_next a b c d head
    (first ++ one.item ∷ []) apart.0 clauses begun_so others in
    let tokens_are : before
    ++ depend_front item.kind a b c d (inside_next ++ with_lines after apart.0)
    ≡ before
    ++ depend_front kind a b c d
    (inside ++ comma ∷ with_lines (name ++ after) (λ i. lines (suc i))) =
    ap
    (λ (k : DependKind). before ++ depend_front k a b c d (inside_next ++ with_lines after apart.0))
    (sym kind_is)
    ∙ ap (λ (ts : List Token). before ++ depend_front kind a b c d ts)
    (append_assoc inside (comma ∷ with_lines name (λ i. lines (suc i))) (with_lines after apart.0)
    ∙ ap (λ (ts : List Token). inside ++ comma ∷ ts) (sym apart.1)) in
    let stands : IsItemOf names item one.item = subst
    (λ (k : DependKind). StandsFor k (name_of names item) one.item) kind_is
    one.stands in
    rw same (record {
      more = one.item ∷ items_so.more;
      all = items_so.all;
      all_are = items_so.all_are
          ∙ ap (λ (is : List LoopItem). head.items ++ is)
          (append_assoc first (one.item ∷ []) items_so.more);
      spelled = subst (λ (ts : List Token). ClausesSpelled version true [] ts (record head {
        items = items_so.all;
      }))
          tokens_are items_so.spelled;
      stand = (stands, items_so.stand);
    }))
    (λ other.
    let lines_five : ℕ → ℕ = λ i. lines (suc (suc (suc (suc (suc i))))) in
    let apart = lines_apart name after lines_five in
    let one : ItemIs version item.kind (name_of names item)
    (with_lines name lines_five) =
    version_item version item.kind (name_of names item) lines_five located in
    let closes : Token = record { text = codes ")"; line = lines 0 } in
    let before_next : List Token = before ++ depend_front kind a b c d (inside ++ closes ∷ []) in
    let head_next : LoopHead = record head { items = head.items ++ first } in
    let clauses_next : ClausesSpelled version true [] before_next head_next =
    closed_clause version kind before inside a b c d (lines 0) head first clauses begun in
    let begun_next : ItemsSpelled version [] item.kind (with_lines name lines_five)
    (one.item ∷ []) = grammar.ItemsSpelled.First
    [] item.kind (with_lines name lines_five) one.item one.spelled in
    let items_so = items_spelled version names item.kind items before_next (with_lines name lines_five)
    (lines 1)
    (lines 2) (lines 3) (lines 4) head_next (one.item ∷ []) apart.0 clauses_next begun_next
    others in
    let later : List Token = depend_front item.kind (lines 1) (lines 2) (lines 3) (lines 4)
    (with_lines (name ++ after) lines_five) in
    let tokens_are : before_next
    ++ depend_front item.kind (lines 1) (lines 2) (lines 3) (lines 4)
    (with_lines name lines_five ++ with_lines after apart.0)
    ≡ before ++ depend_front kind a b c d (inside ++ closes ∷ later) =
    ap
    (λ (ts : List Token).
    before_next ++ depend_front item.kind (lines 1) (lines 2) (lines 3) (lines 4) ts)
    (sym apart.1)
    ∙ append_assoc before (depend_front kind a b c d (inside ++ closes ∷ [])) later
    ∙ ap (λ (ts : List Token). before ++ depend_front kind a b c d ts)
    (append_assoc inside (closes ∷ []) later) in
    let stands : IsItemOf names item one.item = one.stands in
    rw other (record {
      more = one.item ∷ items_so.more;
      all = items_so.all;
      all_are = items_so.all_are ∙ append_assoc head.items first (one.item ∷ items_so.more);
      spelled = subst (λ (ts : List Token). ClausesSpelled version true [] ts (record head {
        items = items_so.all;
      }))
          tokens_are items_so.spelled;
      stand = (stands, items_so.stand);
    }))

-- ---- the clauses of a task

pub record IsHead (version : Version) (names : List (List ℕ)) (undeferred : Bool) (items : List Item) (tokens : List Token)
    : Type 0 where
  pub head : LoopHead
  pub spelled : ClausesSpelled version true [] tokens head
  pub undeferred_is : head.undeferred ≡ undeferred
  pub not_final : head.is_final ≡ false
  pub stand : AllZip (IsItemOf names) items head.items

-- the clauses, after these
depends_spelled : (version : Version) (names : List (List ℕ)) (items : List Item) (before : List Token)
    (head : LoopHead) (lines : ℕ → ℕ)
    → ClausesSpelled version true [] before head
    → head.is_final ≡ false
    → head.items ≡ []
    → All (HasNameIn version names) items
    → IsHead version names head.undeferred items
    (before ++ with_lines (depend_texts_by (spell false) names items) lines)
unfolding with_lines
depends_spelled version names [] before head lines clauses not_final none all = record {
  head = head;
  spelled =
      subst (λ (ts : List Token). ClausesSpelled version true [] ts head) (sym (append-nil before)) clauses;
  undeferred_is = refl;
  not_final = not_final;
  stand = subst (λ (is : List LoopItem). AllZip (IsItemOf names) [] is) (sym none) tt;
}
depends_spelled version names (item ∷ items) before head lines clauses not_final none all =
    let name : List (List ℕ) = spell false (name_of names item) in
    let after : List (List ℕ) = after_texts_by (spell false) names item.kind items in
    let lines_four : ℕ → ℕ = λ i. lines (suc (suc (suc (suc i)))) in
    let apart = lines_apart name after lines_four in
    let one : ItemIs version item.kind (name_of names item)
    (with_lines name lines_four) = version_item version
    item.kind (name_of names item) lines_four
    (All-head (HasNameIn version names) item items all) in
    let items_so = items_spelled version names item.kind items before (with_lines name lines_four) (lines 0)
    (lines 1) (lines 2) (lines 3) head (one.item ∷ []) apart.0 clauses
    (grammar.ItemsSpelled.First [] item.kind (with_lines name lines_four)
    one.item one.spelled)
    (All-tail (HasNameIn version names) item items all) in
    let stands : IsItemOf names item one.item = one.stands in
    let all_are : items_so.all ≡ one.item ∷ items_so.more =
    items_so.all_are ∙ ap (λ (is : List LoopItem). is ++ one.item ∷ items_so.more) none in
    record {
      head = record head { items = items_so.all };
      spelled = subst
          (λ (ts : List Token). ClausesSpelled version true []
          (before ++ depend_front item.kind (lines 0) (lines 1) (lines 2) (lines 3) ts)
          (record head { items = items_so.all }))
          (sym apart.1) items_so.spelled;
      undeferred_is = refl;
      not_final = not_final;
      stand = subst (λ (is : List LoopItem). AllZip (IsItemOf names) (item ∷ items) is)
          (sym all_are) (stands, items_so.stand);
    }

zero_is : (value_of (codes "0") ≤ 1)
zero_is = omega arith

-- the clauses of a task are spelled so
clauses_spelled : (version : Version) (names : List (List ℕ)) (undeferred : Bool) (items : List Item) (lines : ℕ → ℕ)
    → All (HasNameIn version names) items
    → IsHead version names undeferred items
    (with_lines (if_texts undeferred ++ depend_texts_by (spell false) names items) lines)
unfolding with_lines
clauses_spelled version names false items lines all =
    depends_spelled version names items [] no_clauses lines (grammar.ClausesSpelled.NoClause []) refl refl
    all
clauses_spelled version names true items lines all =
    let head : LoopHead = record no_clauses { has_if = true; undeferred = true } in
    let number : grammar.IsNumber true (codes "0") 1 = record { is_number = refl; fits = λ h. zero_is } in
    let first : ClausesSpelled version true []
    (record { text = codes "if"; line = lines 0 } ∷ record { text = codes "("; line = lines 1 }
    ∷ record { text = codes "0"; line = lines 2 } ∷ record { text = codes ")"; line = lines 3 }
    ∷ [])
    head =
    grammar.ClausesSpelled.If [] [] (record { text = codes "if"; line = lines 0 })
    (record { text = codes "("; line = lines 1 }) (record { text = codes "0"; line = lines 2 })
    (record { text = codes ")"; line = lines 3 }) no_clauses
    (grammar.ClausesSpelled.NoClause []) refl refl refl number refl in
    depends_spelled version names items _ head (λ i. lines (suc (suc (suc (suc i))))) first refl refl all

-- ---- a task up to its `{`

pub record IsOpening (version : Version) (names : List (List ℕ)) (undeferred : Bool) (items : List Item)
    (tokens : List Token)
    : Type 0 where
  pub task : LoopTask
  pub spelled : OpeningSpelled version true [] tokens (TaskOpening task)
  pub undeferred_is : task.undeferred ≡ undeferred
  pub not_final : task.is_final ≡ false
  pub stand : AllZip (IsItemOf names) items task.items

-- and a task up to its `{`
opening_spelled : (version : Version) (names : List (List ℕ)) (undeferred : Bool) (items : List Item) (lines : ℕ → ℕ)
    → All (HasNameIn version names) items
    → IsOpening version names undeferred items
    (with_lines (line_texts_by (spell false) names (Begins undeferred items)) lines)
unfolding with_lines
opening_spelled version names undeferred items lines all =
    let clauses : List (List ℕ) =
    if_texts undeferred ++ depend_texts_by (spell false) names items in
    let apart = lines_apart clauses (codes "{" ∷ []) (λ i. lines (suc i)) in
    let clauses_so = clauses_spelled version names undeferred items (λ i. lines (suc i)) all in
    let word : Token = record { text = codes "task"; line = lines 0 } in
    let brace : Token = record { text = codes "{"; line = apart.0 0 } in
    let grouped : clauses ++ codes "{" ∷ []
    ≡ if_texts undeferred
    ++ (depend_texts_by (spell false) names items ++ codes "{" ∷ []) = append_assoc
    (if_texts undeferred) (depend_texts_by (spell false) names items) (codes "{" ∷ []) in
    let tokens_are : word ∷ (with_lines clauses (λ i. lines (suc i)) ++ brace ∷ [])
    ≡ word
    ∷ with_lines
    (if_texts undeferred ++ (depend_texts_by (spell false) names items ++ codes "{" ∷ []))
    (λ i. lines (suc i)) =
    ap (λ (ts : List Token). word ∷ ts)
    (sym apart.1 ∙ ap (λ (ts : List (List ℕ)). with_lines ts (λ i. lines (suc i))) grouped) in
    record {
      task = task_of clauses_so.head (lines 0) (apart.0 0);
      spelled = subst
          (λ (ts : List Token).
          OpeningSpelled version true [] ts (TaskOpening (task_of clauses_so.head (lines 0) (apart.0 0))))
          tokens_are
          (grammar.OpeningSpelled.Task [] (with_lines clauses (λ i. lines (suc i))) word brace
          clauses_so.head refl clauses_so.spelled refl);
      undeferred_is = clauses_so.undeferred_is;
      not_final = clauses_so.not_final;
      stand = clauses_so.stand;
    }

-- ---- statements

-- a tree without loops that stands for these marks, with these names
pub data Stands : (names : List (List ℕ)) → List Mark → Tree → Type 0 where
  Nothing : (names : List (List ℕ)) → Stands names [] NoStatement
  Work : (names : List (List ℕ)) (marks : List Mark) (tree : Tree) (cost line : ℕ)
      → Stands names marks tree
      → Stands names (marks ++ Works cost ∷ []) (ThenWork tree cost line)
  Wait : (names : List (List ℕ)) (marks : List Mark) (tree : Tree) (line : ℕ)
      → Stands names marks tree
      → Stands names (marks ++ Waits ∷ []) (ThenWait tree line)
  Task : (names : List (List ℕ)) (marks inside : List Mark) (tree body : Tree) (task : LoopTask)
      (items : List Item)
      → Stands names marks tree
      → Stands names inside body
      → task.is_final ≡ false
      → AllZip (IsItemOf names) items task.items
      → Stands names (marks ++ (Begins task.undeferred items ∷ (inside ++ Ends ∷ [])))
      (ThenTask tree task body)
  Group : (names : List (List ℕ)) (marks inside : List Mark) (tree body : Tree)
      (line brace_line : ℕ)
      → Stands names marks tree
      → Stands names inside body
      → Stands names (marks ++ (GroupBegins ∷ (inside ++ GroupEnds ∷ [])))
      (ThenGroup tree line brace_line body)

pub record HasMarks (version : Version) (names : List (List ℕ)) (room : ℕ) (tokens : List Token) (marks : List Mark)
    : Type 0 where
  pub tree : Tree
  pub spelled : Spelled version true [] room tokens tree
  pub stands : Stands names marks tree

abbrev pub HasLocations : List (List ℕ) → Mark → Type 0
HasLocations names (Works cost) = cost ≤ LARGEST_COST
HasLocations names (Begins undeferred items) = All (IsLocated names) items
HasLocations names _ = Unit {0}

abbrev pub HasNamesIn : Version → List (List ℕ) → Mark → Type 0
HasNamesIn version names (Works cost) = cost ≤ LARGEST_COST
HasNamesIn version names (Begins undeferred items) = All (HasNameIn version names) items
HasNamesIn version names _ = Unit {0}

abbrev words_of : List (List ℕ) → Mark → List (List ℕ)
words_of names mark = line_texts_by (spell false) names mark

has_marks_of_same : (version : Version) (names : List (List ℕ)) (room : ℕ) (tokens other : List Token)
    (marks more : List Mark)
    → tokens ≡ other
    → marks ≡ more
    → HasMarks version names room tokens marks
    → HasMarks version names room other more
has_marks_of_same version names room tokens other marks more same equal h = record {
  tree = h.tree;
  spelled = subst (λ (ts : List Token). Spelled version true [] room ts h.tree) same h.spelled;
  stands = subst (λ (ms : List Mark). Stands names ms h.tree) equal h.stands;
}

-- statements with a `work` behind them
work_added : (version : Version) (names : List (List ℕ)) (room cost a b : ℕ) (text : List ℕ)
    (before : List Token) (done : List Mark)
    → is_number text ≡ true
    → value_of text ≡ cost
    → cost ≤ LARGEST_COST
    → HasMarks version names room before done
    → HasMarks version names room
    (before ++ record { text = codes "work"; line = a } ∷ record { text = text; line = b } ∷ [])
    (done ++ Works cost ∷ [])
work_added version names room cost a b text before done is_num is fits h =
    let word : Token = record { text = codes "work"; line = a } in
    let number : Token = record { text = text; line = b } in
    let within : grammar.IsNumber true text LARGEST_COST = record {
      is_number = is_num;
      fits = λ h. omega (arith, is, fits);
    } in
    record {
      tree = ThenWork h.tree cost b;
      spelled = subst
          (λ (n : ℕ). Spelled version true [] room (before ++ word ∷ number ∷ [])
          (ThenWork h.tree n b)) is
          (grammar.Spelled.Work [] room before word number h.tree h.spelled refl within);
      stands = Work names done h.tree cost b h.stands;
    }

wait_added : (version : Version) (names : List (List ℕ)) (room a : ℕ) (before : List Token) (done : List Mark)
    → HasMarks version names room before done
    → HasMarks version names room (before ++ record { text = codes "taskwait"; line = a } ∷ [])
    (done ++ Waits ∷ [])
wait_added version names room a before done h = record {
  tree = ThenWait h.tree a;
  spelled = grammar.Spelled.Wait [] room before (record { text = codes "taskwait"; line = a })
      h.tree h.spelled refl;
  stands = Wait names done h.tree a h.stands;
}

-- statements with a `taskgroup` behind them
group_added : (version : Version) (names : List (List ℕ)) (room a b c : ℕ) (before body : List Token)
    (done inside : List Mark)
    → HasMarks version names (suc room) before done
    → HasMarks version names room body inside
    → HasMarks version names (suc room)
    (before
    ++ ((record { text = codes "taskgroup"; line = a } ∷ record { text = codes "{"; line = b } ∷ [])
    ++ (body ++ record { text = codes "}"; line = c } ∷ [])))
    (done ++ (GroupBegins ∷ (inside ++ GroupEnds ∷ [])))
group_added version names room a b c before body done inside h g =
    let word : Token = record { text = codes "taskgroup"; line = a } in
    let brace : Token = record { text = codes "{"; line = b } in
    record {
      tree = ThenGroup h.tree a b g.tree;
      spelled = grammar.Spelled.Block [] room before (word ∷ brace ∷ []) body
          (record { text = codes "}"; line = c }) (GroupOpening a b) h.tree g.tree h.spelled
          (grammar.OpeningSpelled.Group [] word brace refl refl) g.spelled refl;
      stands = Group names done inside h.tree g.tree a b h.stands g.stands;
    }

-- statements with a task behind them
task_added : (version : Version) (names : List (List ℕ)) (room c : ℕ) (before opens body : List Token)
    (done inside : List Mark) (undeferred : Bool) (items : List Item)
    → HasMarks version names (suc room) before done
    → IsOpening version names undeferred items opens
    → HasMarks version names room body inside
    → HasMarks version names (suc room)
    (before ++ (opens ++ (body ++ record { text = codes "}"; line = c } ∷ [])))
    (done ++ (Begins undeferred items ∷ (inside ++ Ends ∷ [])))
task_added version names room c before opens body done inside undeferred items h o g = record {
  tree = ThenTask h.tree o.task g.tree;
  spelled = grammar.Spelled.Block [] room before opens body (record { text = codes "}"; line = c })
      (TaskOpening o.task) h.tree g.tree h.spelled o.spelled g.spelled refl;
  stands = subst
      (λ (u : Bool). Stands names (done ++ (Begins u items ∷ (inside ++ Ends ∷ [])))
      (ThenTask h.tree o.task g.tree))
      o.undeferred_is
      (Task names done inside h.tree g.tree o.task items h.stands g.stands o.not_final o.stand);
}

pub no_marks : (version : Version) (names : List (List ℕ)) (room : ℕ) → HasMarks version names room [] []
no_marks version names
    room = record {
      tree = NoStatement;
      spelled = grammar.Spelled.Nothing [] room;
      stands = Nothing names;
    }

append_of_block : {A : Type 0} (before opens inside : List A) (closes : A) (rest : List A)
    → (before ++ (opens ++ (inside ++ closes ∷ []))) ++ rest
    ≡ before ++ (opens ++ (inside ++ closes ∷ rest))
append_of_block before opens inside closes rest =
    append_assoc before (opens ++ (inside ++ closes ∷ [])) rest
    ∙ ap (λ xs. before ++ xs) (append_assoc opens (inside ++ closes ∷ []) rest
    ∙ ap (λ xs. opens ++ xs) (append_assoc inside (closes ∷ []) rest))

-- the lines of a block and of what follows it
record Block (opens inside rest : List (List ℕ)) (lines : ℕ → ℕ) : Type 0 where
  inside_lines : ℕ → ℕ
  close_line : ℕ
  rest_lines : ℕ → ℕ
  tokens_are : with_lines (opens ++ (inside ++ codes "}" ∷ rest)) lines
      ≡ with_lines opens lines
      ++ (with_lines inside inside_lines ++ record { text = codes "}"; line = close_line }
      ∷ with_lines rest rest_lines)

block_lines : (opens inside rest : List (List ℕ)) (lines : ℕ → ℕ) → Block opens inside rest lines
unfolding with_lines
block_lines opens inside rest lines =
    let one = lines_apart opens (inside ++ codes "}" ∷ rest) lines in
    let two = lines_apart inside (codes "}" ∷ rest) one.0 in
    record {
      inside_lines = one.0;
      close_line = two.0 0;
      rest_lines = λ i. two.0 (suc i);
      tokens_are = one.1 ∙ ap (λ (ts : List Token). with_lines opens lines ++ ts) two.1;
    }

-- ---- words that spell marks

-- these words spell the mark, or what it begins up to its `{`
abbrev pub Spells : Version → List (List ℕ) → List (List ℕ) → Mark → Type 0
Spells version names words (Works cost) =
    (number : List ℕ)
    × (words ≡ codes "work" ∷ number ∷ [])
    × (is_number number ≡ true)
    × (value_of number ≡ cost)
    × (cost ≤ LARGEST_COST)
Spells version names words (Begins undeferred items) =
    (lines : ℕ → ℕ) → IsOpening version names undeferred items (with_lines words lines)
Spells version names words Waits = words ≡ codes "taskwait" ∷ []
Spells version names words GroupBegins = words ≡ codes "taskgroup" ∷ codes "{" ∷ []
Spells version names words Ends = words ≡ codes "}" ∷ []
Spells version names words GroupEnds = words ≡ codes "}" ∷ []

abbrev pub joined : List (List (List ℕ)) → List (List ℕ)
joined all = flat_map (λ words. words) all

-- what spells a block and what follows it, in parts
record BlockWords (version : Version) (names : List (List ℕ)) (all : List (List (List ℕ)))
    (body : List Mark) (end : Mark) (rest : List Mark)
    : Type 0 where
  inside : List (List (List ℕ))
  closes : List (List ℕ)
  after : List (List (List ℕ))
  all_are : joined all ≡ joined inside ++ (closes ++ joined after)
  spell_body : AllZip (Spells version names) inside body
  spells_end : Spells version names closes end
  spell_rest : AllZip (Spells version names) after rest

block_words : (version : Version) (names : List (List ℕ)) (all : List (List (List ℕ)))
    (body : List Mark) (end : Mark) (rest : List Mark)
    → AllZip (Spells version names) all (body ++ end ∷ rest)
    → BlockWords version names all body end rest
block_words version names [] [] end rest h = absurd h
block_words version names (words ∷ all) [] end rest h = record {
  inside = [];
  closes = words;
  after = all;
  all_are = refl;
  spell_body = tt;
  spells_end = h.0;
  spell_rest = h.1;
}
block_words version names [] (mark ∷ body) end rest h = absurd h
block_words version names (words ∷ all) (mark ∷ body) end rest h =
    let later = block_words version names all body end rest h.1 in
    record {
      inside = words ∷ later.inside;
      closes = later.closes;
      after = later.after;
      all_are = ap (λ (ts : List (List ℕ)). words ++ ts) later.all_are
          ∙ sym (append_assoc words (joined later.inside) (later.closes ++ joined later.after));
      spell_body = (h.0, later.spell_body);
      spells_end = later.spells_end;
      spell_rest = later.spell_rest;
    }

-- the texts of a block and of what follows it
block_texts : (first inside closes after all : List (List ℕ))
    → all ≡ inside ++ (closes ++ after)
    → closes ≡ codes "}" ∷ []
    → first ++ (inside ++ codes "}" ∷ after) ≡ first ++ all
block_texts first inside closes after all all_are is_close =
    ap (λ (end : List (List ℕ)). first ++ (inside ++ (end ++ after))) (sym is_close)
    ∙ ap (λ (ts : List (List ℕ)). first ++ ts) (sym all_are)

-- these words spell the marks, after what is spelled already
pub words_spelled : (version : Version) (names : List (List ℕ)) (room : ℕ) (marks : List Mark)
    → NestsIn room marks
    → (all : List (List (List ℕ)))
    → AllZip (Spells version names) all marks
    → (before : List Token) (done : List Mark) (lines : ℕ → ℕ)
    → HasMarks version names room before done
    → HasMarks version names room (before ++ with_lines (joined all) lines) (done ++ marks)
unfolding with_lines
words_spelled version names _ _ (nested.NestsIn.Nothing room) [] spell before done lines h =
    has_marks_of_same version names room before (before ++ []) done (done ++ [])
    (sym (append-nil before)) (sym (append-nil done)) h
words_spelled version names _ _ (nested.NestsIn.Nothing room) (words ∷ all) spell before done lines
    h =
    absurd spell
words_spelled version names _ _ (nested.NestsIn.Work room cost rest n) [] spell before done lines h =
    absurd spell
words_spelled version names _ _ (nested.NestsIn.Work room cost rest n) (words ∷ all) spell before
    done lines h =
    let own = spell.0 in
    let number : List ℕ = own.0 in
    let front : List Token = record { text = codes "work"; line = lines 0 }
    ∷ record { text = number; line = lines 1 } ∷ [] in
    let later = words_spelled version names room rest n all spell.1 (before ++ front)
    (done ++ Works cost ∷ []) (λ i. lines (suc (suc i)))
    (work_added version names room cost (lines 0) (lines 1) number before done own.2 own.3 own.4 h)
    in
    has_marks_of_same version names room _ _ _ _
    (append_assoc before front (with_lines (joined all) (λ i. lines (suc (suc i))))
    ∙ ap (λ (ts : List (List ℕ)). before ++ with_lines (ts ++ joined all) lines) (sym own.1))
    (append_assoc done (Works cost ∷ []) rest) later
words_spelled version names _ _ (nested.NestsIn.Wait room rest n) [] spell before done lines h =
    absurd spell
words_spelled version names _ _ (nested.NestsIn.Wait room rest n) (words ∷ all) spell before done
    lines h =
    let front : List Token = record { text = codes "taskwait"; line = lines 0 } ∷ [] in
    let later = words_spelled version names room rest n all spell.1 (before ++ front)
    (done ++ Waits ∷ []) (λ i. lines (suc i))
    (wait_added version names room (lines 0) before done h) in
    has_marks_of_same version names room _ _ _ _
    (append_assoc before front (with_lines (joined all) (λ i. lines (suc i)))
    ∙ ap (λ (ts : List (List ℕ)). before ++ with_lines (ts ++ joined all) lines) (sym spell.0))
    (append_assoc done (Waits ∷ []) rest) later
words_spelled version names _ _ (nested.NestsIn.Task room undeferred items body rest inside n) []
    spell before done lines h =
    absurd spell
words_spelled version names _ _ (nested.NestsIn.Task room undeferred items body rest inside n)
    (opens ∷ all) spell before done lines h =
    let parts = block_words version names all body Ends rest spell.1 in
    let within : List (List ℕ) = joined parts.inside in
    let after : List (List ℕ) = joined parts.after in
    let numbering = block_lines opens within after lines in
    let closes : Token = record { text = codes "}"; line = numbering.close_line } in
    let in_body = words_spelled version names room body inside parts.inside parts.spell_body [] []
    numbering.inside_lines (no_marks version names room) in
    let front = task_added version names room numbering.close_line before (with_lines opens lines)
    (with_lines within numbering.inside_lines) done body undeferred items h (spell.0 lines) in_body
    in
    let later = words_spelled version names (suc room) rest n parts.after parts.spell_rest
    (before ++ (with_lines opens lines ++ (with_lines within numbering.inside_lines ++ closes ∷
    [])))
    (done ++ (Begins undeferred items ∷ (body ++ Ends ∷ []))) numbering.rest_lines front in
    has_marks_of_same version names (suc room) _ _ _ _
    (append_of_block before (with_lines opens lines) (with_lines within numbering.inside_lines)
    closes
    (with_lines after numbering.rest_lines)
    ∙ ap (λ (ts : List Token). before ++ ts)
    (sym numbering.tokens_are
    ∙ ap (λ (ts : List (List ℕ)). with_lines ts lines)
    (block_texts opens within parts.closes after (joined all) parts.all_are parts.spells_end)))
    (append_of_block done (Begins undeferred items ∷ []) body Ends rest) later
words_spelled version names _ _ (nested.NestsIn.Group room body rest inside n) [] spell before done
    lines h =
    absurd spell
words_spelled version names _ _ (nested.NestsIn.Group room body rest inside n) (words ∷ all) spell
    before done lines h =
    let opens : List (List ℕ) = codes "taskgroup" ∷ codes "{" ∷ [] in
    let parts = block_words version names all body GroupEnds rest spell.1 in
    let within : List (List ℕ) = joined parts.inside in
    let after : List (List ℕ) = joined parts.after in
    let numbering = block_lines opens within after lines in
    let closes : Token = record { text = codes "}"; line = numbering.close_line } in
    let in_body = words_spelled version names room body inside parts.inside parts.spell_body [] []
    numbering.inside_lines (no_marks version names room) in
    let front = group_added version names room (lines 0) (lines 1) numbering.close_line before
    (with_lines within numbering.inside_lines) done body h in_body in
    let later = words_spelled version names (suc room) rest n parts.after parts.spell_rest
    (before ++ (with_lines opens lines ++ (with_lines within numbering.inside_lines ++ closes ∷
    [])))
    (done ++ (GroupBegins ∷ (body ++ GroupEnds ∷ []))) numbering.rest_lines front in
    has_marks_of_same version names (suc room) _ _ _ _
    (append_of_block before (with_lines opens lines) (with_lines within numbering.inside_lines)
    closes
    (with_lines after numbering.rest_lines)
    ∙ ap (λ (ts : List Token). before ++ ts)
    (sym numbering.tokens_are
    ∙ ap (λ (ts : List (List ℕ)). with_lines ts lines)
    (block_texts opens within parts.closes after (joined all) parts.all_are parts.spells_end
    ∙ ap (λ (ts : List (List ℕ)). ts ++ joined all) (sym spell.0))))
    (append_of_block done (GroupBegins ∷ []) body GroupEnds rest) later

-- ---- the lines of the canonical text

line_spells : (version : Version) (names : List (List ℕ)) (mark : Mark) → HasNamesIn version names mark
    → Spells version names (words_of names mark) mark
line_spells version names (Works cost) fits =
    (decimal cost, refl, decimal_number cost fits, decimal_value cost fits, fits)
line_spells version names (Begins undeferred items) all =
    λ lines. opening_spelled version names undeferred items lines all
line_spells version names Waits all = refl
line_spells version names GroupBegins all = refl
line_spells version names Ends all = refl
line_spells version names GroupEnds all = refl

lines_spell : (version : Version) (names : List (List ℕ)) (marks : List Mark) → All (HasNamesIn version names) marks
    → AllZip (Spells version names) (map (λ mark. words_of names mark) marks) marks
lines_spell version names [] all = tt
lines_spell version names (mark ∷ marks) all = (
  line_spells version names mark (All-head (HasNamesIn version names) mark marks all),
  lines_spell version names marks (All-tail (HasNamesIn version names) mark marks all),
)

joined_lines : (names : List (List ℕ)) (marks : List Mark)
    → joined (map (λ mark. words_of names mark) marks) ≡ flat_map (words_of names) marks
joined_lines names [] = refl
joined_lines names (mark ∷ marks) =
    ap (λ (ts : List (List ℕ)). words_of names mark ++ ts) (joined_lines names marks)

-- the lines of these marks
pub lines_spelled : (version : Version) (names : List (List ℕ)) (room : ℕ) (marks : List Mark)
    → NestsIn room marks
    → All (HasNamesIn version names) marks
    → (lines : ℕ → ℕ)
    → HasMarks version names room (with_lines (flat_map (words_of names) marks) lines) marks
lines_spelled version names room marks n all lines =
    has_marks_of_same version names room _ _ marks marks
    (ap (λ (ts : List (List ℕ)). with_lines ts lines) (joined_lines names marks)) refl
    (words_spelled version names room marks n (map (λ mark. words_of names mark) marks)
    (lines_spell version names marks all) [] [] lines (no_marks version names room))
