-- Pieces of version 1 that mean the marks of a program are spelled as a tree, which expands to the
-- program.
use Rattle.std.proofs.Common.{◌≡◌, ℕ, suc, ◌+◌, ◌≤◌, Bool, true, false, ◌||◌, cond, List, [], ◌∷◌}
use Rattle.std.proofs.Common.{◌++◌, append_assoc, map, None, refl, sym, ap, subst, ◌∙◌, arith}
use Rattle.std.proofs.Common.{eqb, codes}
use Rattle.std.specs.Prelude.{All, count_by}
use Rattle.std.specs.List.{flat_map, list_any, AllZip}
use Rattle.std.proofs.lemmas.List.{append-nil}
use Rattle.std.proofs.lemmas.List.Sums.{sum_by-cons}
use Rattle.std.proofs.lemmas.List.Elements.{All-head, All-tail}
use Rattle.std.proofs.Math.Bool.{or-false}
use Rattle.program_text.specs.declared.statement.DependKind.{DependKind}
use Rattle.program_text.specs.declared.statement.Item.{Item}
use Rattle.loop_text.specs.declared.loops.LoopItem.{LoopItem}
use Rattle.loop_text.specs.declared.loop_reader.LoopHead.{LoopHead}
use Rattle.loop_text.specs.declared.open_loops.LoopOpening.TheVariants.{TaskOpening}
use Rattle.task_program.specs.declared.version.Version.TheVariants.{One}
use Rattle.program_text.specs.Marks.{Mark}
use Rattle.program_text.specs.Marks.Mark.{Begins, Ends, Works, Waits, GroupBegins, GroupEnds}
use Rattle.program_text.specs.Tokens.{Token}
use Rattle.program_text.specs.Words.{type_word, value_of}
use Rattle.loop_text.specs.Parts.{no_clauses}
use Rattle.task_program.specs.PlainGrammar as plain
use Rattle.task_program.specs.PlainGrammar.{Written, name_and_comma, clause_texts, texts_of, named_items}
use Rattle.task_program.specs.PlainGrammar.{is_if, makes_undeferred, IsClause, IsItem, Means}
use Rattle.task_program.specs.PlainGrammar.{AreClausesOfTask}
use Rattle.task_program.specs.PlainGrammar.Clause.{IfClause, DependClause}
use Rattle.task_program.specs.PlainGrammar.Written.{WorkWritten, TaskWritten, WaitWritten, GroupWritten}
use Rattle.task_program.specs.PlainGrammar.Written.{EndWritten}
use Rattle.task_program.specs.Grammar as grammar
use Rattle.task_program.specs.Grammar.{ItemsSpelled, ClausesSpelled, OpeningSpelled, task_of}
use Rattle.task_program.proofs.Locations.{with_lines, lines_apart}
use Rattle.task_program.proofs.ReadPieces.{zip_split}
use Rattle.task_program.proofs.Shorter.{named_is}
use Rattle.task_program.proofs.LinesSpelled.{IsItemOf, IsHead, IsOpening, Spells}
use Rattle.task_program.proofs.LoopPiecesSpelled.{none_left}
use Rattle.task_program.proofs.PlainPieces.{zip_append}

abbrev token_of : List ℕ → ℕ → Token
token_of text line = record { text = text; line = line }

-- ---- items

-- items of a type that stand for these
record ItemsAre (names : List (List ℕ)) (kind : DependKind) (tokens : List Token)
    (items : List Item)
    : Type 0 where
  loops : List LoopItem
  spelled : ItemsSpelled One [] kind tokens loops
  stand : AllZip (IsItemOf names) items loops

-- a name without an index stands for the item that names it
item_stands : (names : List (List ℕ)) (kind named_kind : DependKind) (name : List ℕ) (line : ℕ)
    (item : Item)
    → kind ≡ named_kind
    → IsItem names (named_kind, name) item
    → IsItemOf names item (grammar.item_of kind (token_of name line) None)
item_stands names kind named_kind name line item same h = record {
  kind_is = same ∙ sym h.0;
  location_is = append-nil name ∙ sym (named_is names (named_kind, name) item h);
  in_range = refl;
}

-- some names more, each after a comma
names_more : (names : List (List ℕ)) (kind named_kind : DependKind) (commas : List (List ℕ))
    (last : List ℕ) (before : List Token) (first : List LoopItem) (done items : List Item)
    (lines : ℕ → ℕ)
    → kind ≡ named_kind
    → ItemsSpelled One [] kind before first
    → AllZip (IsItemOf names) done first
    → AllZip (IsItem names) (map (λ name. (named_kind, name)) (commas ++ last ∷ [])) items
    → ItemsAre names kind
    (before ++ with_lines (codes "," ∷ (flat_map name_and_comma commas ++ last ∷ [])) lines)
    (done ++ items)
unfolding with_lines
names_more names kind named_kind [] last before first done [] lines same s stand h = absurd h
names_more names kind named_kind [] last before first done (item ∷ second ∷ items) lines same s
    stand h =
    absurd h.1
names_more names kind named_kind [] last before first done (item ∷ []) lines same s stand h = record {
  loops = first ++ grammar.item_of kind (token_of last (lines 1)) None ∷ [];
  spelled = grammar.ItemsSpelled.More [] kind before (token_of last (lines 1) ∷ [])
      (token_of (codes ",") (lines 0)) first
      (grammar.item_of kind (token_of last (lines 1)) None) s refl
      (grammar.ItemSpelled.Plain [] kind (token_of last (lines 1)) h.0.2);
  stand = zip_append (IsItemOf names) done (item ∷ []) first
      (grammar.item_of kind (token_of last (lines 1)) None ∷ []) stand
      (item_stands names kind named_kind last (lines 1) item same h.0, tt);
}
names_more names kind named_kind (name ∷ commas) last before first done [] lines same s stand h =
    absurd h
names_more names kind named_kind (name ∷ commas) last before first done (item ∷ items) lines same s
    stand h =
    let one : LoopItem = grammar.item_of kind (token_of name (lines 1)) None in
    let here : List Token = token_of (codes ",") (lines 0) ∷ token_of name (lines 1) ∷ [] in
    let later = names_more names kind named_kind commas last (before ++ here) (first ++ one ∷ [])
    (done ++ item ∷ []) items (λ i. lines (suc (suc i))) same
    (grammar.ItemsSpelled.More [] kind before (token_of name (lines 1) ∷ [])
    (token_of (codes ",") (lines 0)) first one s refl
    (grammar.ItemSpelled.Plain [] kind (token_of name (lines 1)) h.0.2))
    (zip_append (IsItemOf names) done (item ∷ []) first (one ∷ []) stand
    (item_stands names kind named_kind name (lines 1) item same h.0, tt))
    h.1 in
    record {
      loops = later.loops;
      spelled = subst (λ (ts : List Token). ItemsSpelled One [] kind ts later.loops)
          (append_assoc before here _) later.spelled;
      stand = subst (λ (is : List Item). AllZip (IsItemOf names) is later.loops)
          (append_assoc done (item ∷ []) items) later.stand;
    }

-- the names of a `depend`
names_spelled : (names : List (List ℕ)) (kind named_kind : DependKind) (commas : List (List ℕ))
    (last : List ℕ) (items : List Item) (lines : ℕ → ℕ)
    → kind ≡ named_kind
    → AllZip (IsItem names) (map (λ name. (named_kind, name)) (commas ++ last ∷ [])) items
    → ItemsAre names kind (with_lines (flat_map name_and_comma commas ++ last ∷ []) lines) items
unfolding with_lines
names_spelled names kind named_kind [] last [] lines same h = absurd h
names_spelled names kind named_kind [] last (item ∷ second ∷ items) lines same h = absurd h.1
names_spelled names kind named_kind [] last (item ∷ []) lines same h = record {
  loops = grammar.item_of kind (token_of last (lines 0)) None ∷ [];
  spelled = grammar.ItemsSpelled.First [] kind (token_of last (lines 0) ∷ [])
      (grammar.item_of kind (token_of last (lines 0)) None)
      (grammar.ItemSpelled.Plain [] kind (token_of last (lines 0)) h.0.2);
  stand = (item_stands names kind named_kind last (lines 0) item same h.0, tt);
}
names_spelled names kind named_kind (name ∷ commas) last [] lines same h = absurd h
names_spelled names kind named_kind (name ∷ commas) last (item ∷ items) lines same h =
    let one : LoopItem = grammar.item_of kind (token_of name (lines 0)) None in
    names_more names kind named_kind commas last (token_of name (lines 0) ∷ []) (one ∷ [])
    (item ∷ []) items (λ i. lines (suc i)) same
    (grammar.ItemsSpelled.First [] kind (token_of name (lines 0) ∷ []) one
    (grammar.ItemSpelled.Plain [] kind (token_of name (lines 0)) h.0.2))
    (item_stands names kind named_kind name (lines 0) item same h.0, tt) h.1

-- ---- clauses

-- a `depend` in front of further clauses
depend_apart : (names : List (List ℕ)) (last : List ℕ) (later : List (List ℕ))
    → (flat_map name_and_comma names ++ last ∷ codes ")" ∷ []) ++ later
    ≡ (flat_map name_and_comma names ++ last ∷ []) ++ codes ")" ∷ later
depend_apart names last later =
    append_assoc (flat_map name_and_comma names) (last ∷ codes ")" ∷ []) later
    ∙ sym (append_assoc (flat_map name_and_comma names) (last ∷ []) (codes ")" ∷ later))

-- the clauses of a task, after some that are spelled
clauses_spelled : (names : List (List ℕ)) (clauses : List plain.Clause) (before : List Token)
    (head : LoopHead) (done items : List Item) (lines : ℕ → ℕ)
    → ClausesSpelled One true [] before head
    → head.is_final ≡ false
    → cond head.has_if 1 0 + count_by is_if clauses ≤ 1
    → (head.has_if ≡ false → head.undeferred ≡ false)
    → All IsClause clauses
    → AllZip (IsItemOf names) done head.items
    → AllZip (IsItem names) (flat_map named_items clauses) items
    → IsHead One names (head.undeferred || list_any makes_undeferred clauses) (done ++ items)
    (before ++ with_lines (flat_map clause_texts clauses) lines)
unfolding with_lines
clauses_spelled names [] before head done (item ∷ items) lines s not_final one_if none_yet each stand
    h =
    absurd h
clauses_spelled names [] before head done [] lines s not_final one_if none_yet each stand h = record {
  head = head;
  spelled = subst (λ (ts : List Token). ClausesSpelled One true [] ts head)
      (sym (append-nil before)) s;
  undeferred_is = sym (or-false head.undeferred);
  not_final = not_final;
  stand = subst (λ (is : List Item). AllZip (IsItemOf names) is head.items)
      (sym (append-nil done)) stand;
}
clauses_spelled names (IfClause number ∷ clauses) before head done items lines s not_final one_if
    none_yet each stand h =
    let ifs : cond head.has_if 1 0 + suc (count_by is_if clauses) ≤ 1 = omega (
      arith,
      one_if,
      sum_by-cons (λ clause. cond (is_if clause) 1 0) (IfClause number) clauses,
    ) in
    let no_such : head.has_if ≡ false = none_left head.has_if (count_by is_if clauses) ifs in
    let form : IsClause (IfClause number) = All-head IsClause (IfClause number) clauses each in
    let here : List Token = token_of (codes "if") (lines 0) ∷ token_of (codes "(") (lines 1)
    ∷ token_of number (lines 2) ∷ token_of (codes ")") (lines 3) ∷ [] in
    let next : LoopHead = record head {
      has_if = true;
      undeferred = eqb (value_of number) 0;
    } in
    let later = clauses_spelled names clauses (before ++ here) next done items
    (λ i. lines (suc (suc (suc (suc i)))))
    (grammar.ClausesSpelled.If [] before (token_of (codes "if") (lines 0))
    (token_of (codes "(") (lines 1)) (token_of number (lines 2)) (token_of (codes ")") (lines 3))
    head s no_such refl refl (record { is_number = form.0; fits = λ is. form.1 }) refl)
    not_final (omega (arith, ifs)) (λ none. absurd cc)
    (All-tail IsClause (IfClause number) clauses each) stand h in
    let undeferred : (eqb (value_of number) 0 || list_any makes_undeferred clauses)
    ≡ (head.undeferred || (eqb (value_of number) 0 || list_any makes_undeferred clauses)) =
    ap (λ (u : Bool). u || (eqb (value_of number) 0 || list_any makes_undeferred clauses))
    (sym (none_yet no_such)) in
    record {
      head = later.head;
      spelled = subst (λ (ts : List Token). ClausesSpelled One true [] ts later.head)
          (append_assoc before here _) later.spelled;
      undeferred_is = later.undeferred_is ∙ undeferred;
      not_final = later.not_final;
      stand = later.stand;
    }
clauses_spelled names (DependClause kind commas last ∷ clauses) before head done items lines s
    not_final one_if none_yet each stand h =
    let clause = DependClause kind commas last in
    let split = zip_split names (named_items clause) (flat_map named_items clauses) items h in
    let lines_four : ℕ → ℕ = λ i. lines (suc (suc (suc (suc i)))) in
    let inside_texts : List (List ℕ) = flat_map name_and_comma commas ++ last ∷ [] in
    let rest : List (List ℕ) = flat_map clause_texts clauses in
    let apart = lines_apart inside_texts (codes ")" ∷ rest) lines_four in
    let inside : List Token = with_lines inside_texts lines_four in
    let closes : Token = token_of (codes ")") (apart.0 0) in
    let own = names_spelled names kind kind commas last split.0 lines_four refl split.3 in
    let front : List Token = token_of (codes "depend") (lines 0) ∷ token_of (codes "(") (lines 1)
    ∷ token_of (type_word kind) (lines 2) ∷ token_of (codes ":") (lines 3) ∷ [] in
    let here : List Token = front ++ (inside ++ closes ∷ []) in
    let next : LoopHead = record head { items = head.items ++ own.loops } in
    let later = clauses_spelled names clauses (before ++ here) next (done ++ split.0) split.1
    (λ i. apart.0 (suc i))
    (grammar.ClausesSpelled.Depend [] before inside (token_of (codes "depend") (lines 0))
    (token_of (codes "(") (lines 1)) (token_of (type_word kind) (lines 2))
    (token_of (codes ":") (lines 3)) closes kind head own.loops s refl refl refl refl
    own.spelled refl)
    not_final
    (omega (arith, one_if, sum_by-cons (λ clause. cond (is_if clause) 1 0) clause clauses))
    none_yet (All-tail IsClause clause clauses each)
    (zip_append (IsItemOf names) done split.0 head.items own.loops stand own.stand) split.4 in
    let tokens_are : (before ++ here) ++ with_lines rest (λ i. apart.0 (suc i))
    ≡ before ++ (front ++ with_lines
    ((flat_map name_and_comma commas ++ last ∷ codes ")" ∷ []) ++ rest) lines_four) =
    append_assoc before here (with_lines rest (λ i. apart.0 (suc i)))
    ∙ ap (λ (ts : List Token). before ++ (front ++ ts))
    (append_assoc inside (closes ∷ []) (with_lines rest (λ i. apart.0 (suc i)))
    ∙ sym apart.1
    ∙ ap (λ (ts : List (List ℕ)). with_lines ts lines_four) (sym (depend_apart commas last rest)))
    in
    record {
      head = later.head;
      spelled = subst (λ (ts : List Token). ClausesSpelled One true [] ts later.head)
          tokens_are later.spelled;
      undeferred_is = later.undeferred_is;
      not_final = later.not_final;
      stand = subst (λ (is : List Item). AllZip (IsItemOf names) is later.head.items)
          (append_assoc done split.0 split.1
          ∙ ap (λ (is : List Item). done ++ is) (sym split.2)) later.stand;
    }

-- a task up to its `{`
task_spelled : (names : List (List ℕ)) (clauses : List plain.Clause) (undeferred : Bool)
    (items : List Item) (lines : ℕ → ℕ)
    → AreClausesOfTask names clauses undeferred items
    → IsOpening One names undeferred items (with_lines (texts_of (TaskWritten clauses)) lines)
unfolding with_lines
task_spelled names clauses undeferred items lines h =
    let apart = lines_apart (flat_map clause_texts clauses) (codes "{" ∷ []) (λ i. lines (suc i)) in
    let tokens : List Token = with_lines (flat_map clause_texts clauses) (λ i. lines (suc i)) in
    let word : Token = token_of (codes "task") (lines 0) in
    let brace : Token = token_of (codes "{") (apart.0 0) in
    let one_if = h.one_if in
    let parts = clauses_spelled names clauses [] no_clauses [] items (λ i. lines (suc i))
    (grammar.ClausesSpelled.NoClause []) refl (omega (arith, one_if)) (λ none. refl) h.each tt
    h.items_are in
    record {
      task = task_of parts.head (lines 0) (apart.0 0);
      spelled = subst
          (λ (ts : List Token).
          OpeningSpelled One true [] ts (TaskOpening (task_of parts.head (lines 0) (apart.0 0))))
          (ap (λ (ts : List Token). word ∷ ts) (sym apart.1))
          (grammar.OpeningSpelled.Task [] tokens word brace parts.head refl parts.spelled refl);
      undeferred_is = parts.undeferred_is ∙ sym h.undeferred_is;
      not_final = parts.not_final;
      stand = parts.stand;
    }

-- ---- pieces

piece_spells : (names : List (List ℕ)) (piece : Written) (mark : Mark)
    → Means names piece mark
    → Spells One names (texts_of piece) mark
piece_spells names (WorkWritten number) (Works cost) h =
    let value = h.1 in
    let few = h.2 in
    (number, refl, h.0, sym value, omega (arith, value, few))
piece_spells names (TaskWritten clauses) (Begins undeferred items) h =
    λ lines. task_spelled names clauses undeferred items lines h
piece_spells names WaitWritten Waits h = refl
piece_spells names GroupWritten GroupBegins h = refl
piece_spells names EndWritten Ends h = refl
piece_spells names EndWritten GroupEnds h = refl
piece_spells names _ _ h = absurd h

pub pieces_spell : (names : List (List ℕ)) (written : List Written) (marks : List Mark)
    → AllZip (Means names) written marks
    → AllZip (Spells One names) (map (λ piece. texts_of piece) written) marks
pieces_spell names [] [] h = tt
pieces_spell names [] (mark ∷ marks) h = absurd h
pieces_spell names (piece ∷ written) [] h = absurd h
pieces_spell names (piece ∷ written) (mark ∷ marks) h = (
  piece_spells names piece mark h.0,
  pieces_spell names written marks h.1,
)
