-- What the grammar of version 1 derives is written in pieces, and its expansion is what they mean.
use Rattle.std.proofs.Common.{◌≡◌, ℕ, suc, ◌≤◌, Bool, true, false, ◌||◌, cond, List, [], ◌∷◌}
use Rattle.std.proofs.Common.{◌++◌, append_assoc, map, Option, None, refl, sym, ap, subst, ◌∙◌, arith}
use Rattle.std.proofs.Common.{codes}
use Rattle.std.specs.Prelude.{All, fold, count_by}
use Rattle.std.specs.List.{flat_map, list_any, AllZip}
use Rattle.std.proofs.lemmas.List.{append-nil, map_push}
use Rattle.std.proofs.lemmas.List.Sums.{fold-append}
use Rattle.std.proofs.lemmas.Grind.{flat_map-append}
use Rattle.std.proofs.lemmas.List.Elements.{All-nil, All-cons, All-append, All-push}
use Rattle.std.proofs.Math.Bool.{or-false}
use Rattle.program_text.specs.declared.statement.DependKind.{DependKind}
use Rattle.program_text.specs.declared.statement.Item.{Item}
use Rattle.loop_text.specs.declared.loops.Index.{Index}
use Rattle.loop_text.specs.declared.loops.LoopItem.{LoopItem}
use Rattle.loop_text.specs.declared.loops.LoopTask.{LoopTask}
use Rattle.loop_text.specs.declared.loop_reader.LoopHead.{LoopHead}
use Rattle.loop_text.specs.declared.open_loops.LoopOpening.{LoopOpening}
use Rattle.task_program.specs.declared.version.Version.TheVariants.{One}
use Rattle.program_text.specs.declared.limits.TheConstants.{LARGEST_COST}
use Rattle.program_text.specs.Marks.{Mark}
use Rattle.program_text.specs.Marks.Mark.{Begins, Ends, Works, Waits, GroupBegins, GroupEnds}
use Rattle.program_text.specs.Tokens.{Token, texts}
use Rattle.program_text.specs.Words.{is_word, type_word, value_of}
use Rattle.task_program.specs.Names.{number_of_name, with_name}
use Rattle.loop_text.specs.Loops.{Tree}
use Rattle.loop_text.specs.Loops.Tree.{ThenWork, ThenWait, ThenTask}
use Rattle.loop_text.specs.OpenBlocks.{variables_around, with_block}
use Rattle.task_program.specs.TreeSoFar.{Block, after_end_of}
use Rattle.task_program.specs.TreeSoFar.Block.{TaskBlock, GroupBlock}
use Rattle.task_program.specs.Expansion.{Piece, subscript_of, item_comes, task_pieces, expansion}
use Rattle.task_program.specs.Expansion.Piece.{TaskOpens, GroupComes, GroupOpens, BlockEnds, WorkIs}
use Rattle.task_program.specs.Expansion.Piece.{WaitIs}
use Rattle.task_program.specs.Expanded.{ExpansionState, after_piece, after_pieces}
use Rattle.task_program.specs.Grammar.{ItemSpelled, ItemsSpelled, ClausesSpelled}
use Rattle.task_program.specs.Grammar.{IsNumber, OpeningSpelled, Spelled, task_of}
use Rattle.task_program.specs.Grammar.ItemSpelled.{Plain, Indexed}
use Rattle.task_program.specs.Grammar.ItemsSpelled.{First, More}
use Rattle.task_program.specs.Grammar.ClausesSpelled.{NoClause, If, Final, Depend}
use Rattle.task_program.specs.Grammar.OpeningSpelled.{Group, Task, For}
use Rattle.task_program.specs.Grammar.Spelled.{Nothing, Work, Wait, Block as BlockSpelled}
use Rattle.task_program.specs.PlainGrammar as plain
use Rattle.task_program.specs.PlainGrammar.{Written, name_and_comma, clause_texts, texts_of, named_items}
use Rattle.task_program.specs.PlainGrammar.{is_if, makes_undeferred, IsClause, IsItem, Means}
use Rattle.task_program.specs.PlainGrammar.{names_of_piece}
use Rattle.task_program.specs.PlainGrammar.Clause.{IfClause, DependClause}
use Rattle.task_program.specs.PlainGrammar.Written.{WorkWritten, TaskWritten, WaitWritten, GroupWritten}
use Rattle.task_program.specs.PlainGrammar.Written.{EndWritten}
use Rattle.task_program.specs.PlainGrammar.{IsWord, HasClauseForm, HasForm, EndBlocks}
use Rattle.task_program.proofs.FoundPlaces.{AllZip-more, AllZip-weaker, flat_map-push, own_number}
use Rattle.task_program.proofs.FoundPlaces.{means_stable, list_any-more, list_any-same, count-push}
use Rattle.task_program.proofs.FoundPlaces.{items-if}
use Rattle.task_program.proofs.NamesOnce.{names_stay}
use Rattle.task_program.proofs.LinesExpand.{in_four}
use Rattle.task_program.proofs.LoopSpelledPieces.{texts_append, at_most_one}

pub zip_append : {A B : Type 0} (R : A → B → Type 0) (xs more : List A) (ys others : List B)
    → AllZip R xs ys
    → AllZip R more others
    → AllZip R (xs ++ more) (ys ++ others)
zip_append R [] more [] others h g = g
zip_append R [] more (y ∷ ys) others h g = absurd h
zip_append R (x ∷ xs) more [] others h g = absurd h
zip_append R (x ∷ xs) more (y ∷ ys) others h g = (h.0, zip_append R xs more ys others h.1 g)

-- ---- items

-- a location without an index
abbrev IsPlainItem : DependKind × List ℕ → LoopItem → Type 0
IsPlainItem named item =
    (item.kind ≡ named.0) × (item.name ≡ named.1) × (item.index ≡ None) × (is_word named.1 ≡ true)

record PlainItem (kind : DependKind) (tokens : List Token) (item : LoopItem) : Type 0 where
  pub name : List ℕ
  pub texts_are : texts tokens ≡ name ∷ []
  pub is_plain : IsPlainItem (kind, name) item

item_plain : (variables : List (List ℕ)) (kind : DependKind) (tokens : List Token) (item : LoopItem)
    → ItemSpelled One variables kind tokens item
    → PlainItem kind tokens item
item_plain _ _ _ _ (Plain variables kind name word) = record {
  name = name.text;
  texts_are = refl;
  is_plain = (refl, refl, refl, word);
}
item_plain _ _ _ _
    (Indexed variables kind name opens closes inside index two word is_open i is_close) =
    absurd cc

record PlainItems (kind : DependKind) (tokens : List Token) (items : List LoopItem)
    : Type 0 where
  pub names : List (List ℕ)
  pub last : List ℕ
  pub texts_are : texts tokens ≡ flat_map name_and_comma names ++ last ∷ []
  pub words : All IsWord names
  pub last_word : IsWord last
  pub are_plain : AllZip IsPlainItem (map (λ name. (kind, name)) (names ++ last ∷ [])) items

items_plain : (variables : List (List ℕ)) (kind : DependKind) (tokens : List Token)
    (items : List LoopItem)
    → ItemsSpelled One variables kind tokens items
    → PlainItems kind tokens items
items_plain _ _ _ _ (First variables kind tokens item i) =
    let one = item_plain variables kind tokens item i in
    record {
      names = [];
      last = one.name;
      texts_are = one.texts_are;
      words = All-nil IsWord;
      last_word = one.is_plain.3;
      are_plain = (one.is_plain, tt);
    }
items_plain _ _ _ _ (More variables kind before tokens comma items item all is_comma i) =
    let earlier = items_plain variables kind before items all in
    let one = item_plain variables kind tokens item i in
    let names : List (List ℕ) = earlier.names ++ earlier.last ∷ [] in
    record {
      names = names;
      last = one.name;
      texts_are = texts_append before (comma ∷ tokens)
          ∙ rw (earlier.texts_are, is_comma, one.texts_are) (simp (flat_map-append, append_assoc));
      words = All-push IsWord earlier.names earlier.last earlier.words earlier.last_word;
      last_word = one.is_plain.3;
      are_plain = subst (λ (ns : List (DependKind × List ℕ)). AllZip IsPlainItem ns (items ++ item ∷ []))
          (sym (map_push (λ (name : List ℕ). (kind, name)) names one.name))
          (AllZip-more IsPlainItem _ items (kind, one.name) item earlier.are_plain one.is_plain);
    }

-- ---- clauses

record PlainClauses (limited : Bool) (tokens : List Token) (head : LoopHead) : Type 0 where
  pub clauses : List plain.Clause
  pub texts_are : texts tokens ≡ flat_map clause_texts clauses
  pub forms : All HasClauseForm clauses
  pub each : limited ≡ true → All IsClause clauses
  pub ifs : count_by is_if clauses ≤ cond head.has_if 1 0
  pub undeferred_is : head.undeferred ≡ list_any makes_undeferred clauses
  pub none_yet : head.has_if ≡ false → list_any makes_undeferred clauses ≡ false
  pub not_final : head.is_final ≡ false
  pub are_plain : AllZip IsPlainItem (flat_map named_items clauses) head.items

-- the texts of clauses with one more behind them
clause_texts_more : (before tokens : List Token) (clauses : List plain.Clause)
    (clause : plain.Clause)
    → texts before ≡ flat_map clause_texts clauses
    → texts tokens ≡ clause_texts clause
    → texts (before ++ tokens) ≡ flat_map clause_texts (clauses ++ clause ∷ [])
clause_texts_more before tokens clauses clause earlier same =
    texts_append before tokens ∙ rw (earlier, same) (sym (flat_map-push clause_texts clauses clause))

depend_texts : (type : DependKind) (before : List (List ℕ)) (last : List ℕ)
    → codes "depend" ∷ codes "(" ∷ type_word type ∷ codes ":"
    ∷ ((before ++ last ∷ []) ++ codes ")" ∷ [])
    ≡ codes "depend" ∷ codes "(" ∷ type_word type ∷ codes ":" ∷ (before ++ last ∷ codes ")" ∷ [])
depend_texts type before last =
    ap (λ (inside : List (List ℕ)). codes "depend" ∷ codes "(" ∷ type_word type
    ∷ codes ":" ∷ inside) (append_assoc before (last ∷ []) (codes ")" ∷ []))

clauses_plain : (limited : Bool) (variables : List (List ℕ)) (tokens : List Token) (head : LoopHead)
    → ClausesSpelled One limited variables tokens head
    → PlainClauses limited tokens head
clauses_plain limited _ _ _ (NoClause variables) = record {
  clauses = [];
  texts_are = refl;
  forms = All-nil HasClauseForm;
  each = λ is. All-nil IsClause;
  ifs = omega arith;
  undeferred_is = refl;
  none_yet = λ h. refl;
  not_final = refl;
  are_plain = tt;
}
clauses_plain limited _ _ _
    (If variables before word opens number closes head c no_such is_word is_open is_num is_close) =
    let p = clauses_plain limited variables before head c in
    let clause = IfClause number.text in
    let none : count_by is_if p.clauses ≤ 0 =
    subst (λ (b : Bool). count_by is_if p.clauses ≤ cond b 1 0) no_such p.ifs in
    record {
      clauses = p.clauses ++ clause ∷ [];
      texts_are = clause_texts_more before (word ∷ opens ∷ number ∷ closes ∷ []) p.clauses clause
          p.texts_are (rw (is_word, is_open, is_close) refl);
      forms = All-push HasClauseForm p.clauses clause p.forms is_num.is_number;
      each = λ is. All-push IsClause p.clauses clause (p.each is) (is_num.is_number, is_num.fits is);
      ifs = omega (arith, none, count-push p.clauses clause);
      undeferred_is = sym (list_any-more makes_undeferred p.clauses clause (p.none_yet no_such));
      none_yet = λ h. absurd cc;
      not_final = p.not_final;
      are_plain = subst (λ (ns : List (DependKind × List ℕ)). AllZip IsPlainItem ns head.items)
          (sym (items-if p.clauses number.text)) p.are_plain;
    }
clauses_plain limited _ _ _ (Final variables before word opens number closes head two c no_such
    is_word is_open is_num is_close) =
    absurd cc
clauses_plain limited _ _ _
    (Depend variables before inside word opens kind colon closes type head items c is_word is_open
    is_kind is_colon all is_close) =
    let p = clauses_plain limited variables before head c in
    let parts = items_plain variables type inside items all in
    let clause = DependClause type parts.names parts.last in
    record {
      clauses = p.clauses ++ clause ∷ [];
      texts_are = clause_texts_more before
          (word ∷ opens ∷ kind ∷ colon ∷ (inside ++ closes ∷ [])) p.clauses clause p.texts_are
          (rw (
            is_word,
            is_open,
            is_kind,
            is_colon,
            texts_append inside (closes ∷ []),
            parts.texts_are,
            is_close,
          )
          (depend_texts type (flat_map name_and_comma parts.names) parts.last));
      forms = All-push HasClauseForm p.clauses clause p.forms (parts.words, parts.last_word);
      each = λ is. All-push IsClause p.clauses clause (p.each is) tt;
      ifs = omega (arith, p.ifs, count-push p.clauses clause);
      undeferred_is = p.undeferred_is ∙ sym (list_any-same makes_undeferred p.clauses clause refl);
      none_yet = λ h. list_any-same makes_undeferred p.clauses clause refl ∙ p.none_yet h;
      not_final = p.not_final;
      are_plain = subst
          (λ (ns : List (DependKind × List ℕ)). AllZip IsPlainItem ns (head.items ++ items))
          (sym (flat_map-push named_items p.clauses clause))
          (zip_append IsPlainItem (flat_map named_items p.clauses) (named_items clause) head.items
          items p.are_plain parts.are_plain);
    }

-- ---- the expansion of items

abbrev named_after : ExpansionState → List (DependKind × List ℕ) → List (List ℕ)
named_after state named = fold with_name state.names (map (λ pair. pair.1) named)

record Named (state next : ExpansionState) (named : List (DependKind × List ℕ)) : Type 0 where
  pub items : List Item
  pub next_is : next
      ≡ record state { names = named_after state named; items = state.items ++ items }
  pub are_items : AllZip (IsItem (named_after state named)) named items

items_named : (named : List (DependKind × List ℕ)) (items : List LoopItem)
    → AllZip IsPlainItem named items
    → (state : ExpansionState)
    → Named state (after_pieces state (map (item_comes []) items)) named
items_named [] [] all state = record {
  items = [];
  next_is = ap (λ (is : List Item). record state { items = is }) (sym (append-nil state.items));
  are_items = tt;
}
items_named [] (item ∷ items) all state = absurd all
items_named (pair ∷ named) [] all state = absurd all
items_named (pair ∷ named) (item ∷ items) all state =
    let location_is : item.name ++ subscript_of [] item.index ≡ pair.1 =
    ap (λ (i : Option Index). item.name ++ subscript_of [] i) all.0.2 ∙ append-nil item.name
    ∙ all.0.1 in
    let one : Item = record { kind = pair.0; name = number_of_name state.names pair.1 } in
    let middle : ExpansionState = record state {
      names = with_name state.names pair.1;
      items = state.items ++ one ∷ [];
    } in
    let first_is : after_piece state (item_comes [] item) ≡ middle =
    ap
    (λ (l : List ℕ). record state {
      names = with_name state.names l;
      items = state.items ++ record { kind = item.kind; name = number_of_name state.names l } ∷ [];
    })
    location_is
    ∙ ap
    (λ (k : DependKind). record state {
      names = with_name state.names pair.1;
      items = state.items ++ record { kind = k; name = number_of_name state.names pair.1 } ∷ [];
    })
    all.0.0 in
    let later = items_named named items all.1 middle in
    record {
      items = one ∷ later.items;
      next_is = ap (λ (s : ExpansionState). after_pieces s (map (item_comes []) items)) first_is
          ∙ later.next_is
          ∙ ap (λ (is : List Item). record state { names = named_after middle named; items = is })
          (append_assoc state.items (one ∷ []) later.items);
      are_items = (
        (
          refl,
          names_stay (with_name state.names pair.1) (map (λ other. other.1) named) pair.1 one.name
              (own_number state.names pair.1),
          all.0.3,
        ),
        later.are_items,
      );
    }

-- ---- the expansion of pieces

-- the pieces lead from one state to another, in which these blocks are open
pub record Goes (written : List Written) (blocks : List Block) (state next : ExpansionState)
    : Type 0 where
  pub marks : List Mark
  pub marks_are : next.tree.marks ≡ state.tree.marks ++ marks
  pub blocks_are : next.tree.blocks ≡ blocks
  pub no_items : next.items ≡ []
  pub names_are : next.names ≡ fold with_name state.names (flat_map names_of_piece written)
  pub means : AllZip (Means next.names) written marks

-- pieces keep their meaning when names are added
all_stay : (names later : List (List ℕ)) (written : List Written) (marks : List Mark)
    → AllZip (Means names) written marks
    → AllZip (Means (fold with_name names later)) written marks
all_stay names [] written marks h = h
all_stay names (name ∷ later) written marks h =
    all_stay (with_name names name) later written marks
    (AllZip-weaker (Means names) (Means (with_name names name)) (means_stable names name) written
    marks h)

goes_on : (one other : List Written) (inner blocks : List Block) (first second third : ExpansionState)
    → Goes one inner first second
    → Goes other blocks second third
    → Goes (one ++ other) blocks first third
goes_on one other inner blocks first second third g h =
    let some : List (List ℕ) = flat_map names_of_piece one in
    let more : List (List ℕ) = flat_map names_of_piece other in
    record {
      marks = g.marks ++ h.marks;
      marks_are = h.marks_are ∙ ap (λ (ms : List Mark). ms ++ h.marks) g.marks_are
          ∙ append_assoc first.tree.marks g.marks h.marks;
      blocks_are = h.blocks_are;
      no_items = h.no_items;
      names_are = h.names_are ∙ ap (λ (ns : List (List ℕ)). fold with_name ns more) g.names_are
          ∙ sym (fold-append with_name first.names some more)
          ∙ ap (λ (ns : List (List ℕ)). fold with_name first.names ns)
          (sym (flat_map-append names_of_piece one other));
      means = zip_append (Means third.names) one other g.marks h.marks
          (subst (λ (ns : List (List ℕ)). AllZip (Means ns) one g.marks) (sym h.names_are)
          (all_stay second.names more one g.marks g.means))
          h.means;
    }

end_goes_at : (block : Block) (blocks : List Block) (state : ExpansionState)
    → state.items ≡ []
    → Goes (EndWritten ∷ []) blocks state
    (record state { tree = after_end_of (block ∷ blocks) state.tree.marks })
end_goes_at (TaskBlock line) blocks state none = record {
  marks = Ends ∷ [];
  marks_are = refl;
  blocks_are = refl;
  no_items = none;
  names_are = refl;
  means = (tt, tt);
}
end_goes_at (GroupBlock line) blocks state none = record {
  marks = GroupEnds ∷ [];
  marks_are = refl;
  blocks_are = refl;
  no_items = none;
  names_are = refl;
  means = (tt, tt);
}

end_goes : (block : Block) (blocks : List Block) (state : ExpansionState)
    → state.tree.blocks ≡ block ∷ blocks
    → state.items ≡ []
    → Goes (EndWritten ∷ []) blocks state (after_piece state BlockEnds)
end_goes block blocks state same none =
    subst
    (λ (bs : List Block). Goes (EndWritten ∷ []) blocks state
    (record state { tree = after_end_of bs state.tree.marks }))
    (sym same) (end_goes_at block blocks state none)

-- a block: what opens it, its body and its end
block_goes : (opens : Written) (written : List Written) (block : Block)
    (state second third : ExpansionState)
    → Goes (opens ∷ []) (block ∷ state.tree.blocks) state second
    → Goes written second.tree.blocks second third
    → Goes (opens ∷ (written ++ EndWritten ∷ [])) state.tree.blocks state
    (after_piece third BlockEnds)
block_goes opens written block state second third g h =
    goes_on (opens ∷ []) (written ++ EndWritten ∷ []) (block ∷ state.tree.blocks) state.tree.blocks
    state second (after_piece third BlockEnds) g
    (goes_on written (EndWritten ∷ []) second.tree.blocks state.tree.blocks second third
    (after_piece third BlockEnds) h
    (end_goes block state.tree.blocks third (h.blocks_are ∙ g.blocks_are) h.no_items))

task_goes : (limited : Bool) (tokens : List Token) (head : LoopHead) (line brace_line : ℕ)
    (state : ExpansionState) (c : PlainClauses limited tokens head)
    → limited ≡ true
    → state.items ≡ []
    → Goes (TaskWritten c.clauses ∷ []) (TaskBlock brace_line ∷ state.tree.blocks) state
    (after_pieces state (task_pieces [] false (task_of head line brace_line)))
task_goes limited tokens head line brace_line state c is none =
    let named : List (DependKind × List ℕ) = flat_map named_items c.clauses in
    let expanded = items_named named head.items c.are_plain state in
    let opens : Piece = TaskOpens (head.undeferred || false) brace_line in
    let base : ExpansionState = record state {
      names = named_after state named;
      items = state.items ++ expanded.items;
    } in
    let next_is : after_pieces state (task_pieces [] false (task_of head line brace_line))
    ≡ after_piece base opens =
    fold-append after_piece state (map (item_comes []) head.items) (opens ∷ [])
    ∙ ap (λ (s : ExpansionState). after_piece s opens) expanded.next_is in
    subst
    (λ (s : ExpansionState).
    Goes (TaskWritten c.clauses ∷ []) (TaskBlock brace_line ∷ state.tree.blocks) state s)
    (sym next_is) (record {
      marks = Begins (head.undeferred || false) (state.items ++ expanded.items) ∷ [];
      marks_are = refl;
      blocks_are = refl;
      no_items = refl;
      names_are = ap (λ (ns : List (List ℕ)). fold with_name state.names ns)
          (sym (append-nil (map (λ pair. pair.1) named)));
      means = (
        record {
          each = c.each is;
          one_if = at_most_one head.has_if (count_by is_if c.clauses) c.ifs;
          undeferred_is = or-false head.undeferred ∙ c.undeferred_is;
          items_are = subst
              (λ (is : List Item). AllZip (IsItem (named_after state named)) named
              (is ++ expanded.items))
              (sym none) expanded.are_items;
        },
        tt,
      );
    })

-- ---- statements

-- what is derived: the pieces, their forms, and where limits hold that its expansion is what they
-- mean
pub record IsPlain (limited : Bool) (tokens : List Token) (tree : Tree) : Type 0 where
  pub written : List Written
  pub texts_are : texts tokens ≡ flat_map texts_of written
  pub forms : All HasForm written
  pub nested : (later : List Written) (more : ℕ) → EndBlocks later more
      → EndBlocks (written ++ later) more
  pub goes : limited ≡ true → (state : ExpansionState) → state.items ≡ []
      → Goes written state.tree.blocks state (after_pieces state (expansion [] false tree))

-- where the expansion of some statements leads
abbrev expanded_to : ExpansionState → Tree → ExpansionState
expanded_to state tree = after_pieces state (expansion [] false tree)

-- some pieces more
plain_more : (limited : Bool) (before tokens : List Token) (tree next : Tree) (more : List Written)
    → IsPlain limited before tree
    → texts tokens ≡ flat_map texts_of more
    → All HasForm more
    → ((later : List Written) (n : ℕ) → EndBlocks later n → EndBlocks (more ++ later) n)
    → (limited ≡ true → (state : ExpansionState) → (expanded_to state tree).items ≡ []
    → Goes more (expanded_to state tree).tree.blocks (expanded_to state tree)
    (expanded_to state next))
    → IsPlain limited (before ++ tokens) next
plain_more limited before tokens tree next more p same forms nested goes = record {
  written = p.written ++ more;
  texts_are = texts_append before tokens
      ∙ rw (p.texts_are, same) (sym (flat_map-append texts_of p.written more));
  forms = All-append HasForm p.written more p.forms forms;
  nested = λ later n h. subst (λ (all : List Written). EndBlocks all n)
      (sym (append_assoc p.written more later)) (p.nested (more ++ later) n (nested later n h));
  goes = λ is state none. let first = p.goes is state none in
      goes_on p.written more state.tree.blocks state.tree.blocks state (expanded_to state tree)
      (expanded_to state next) first
      (subst (λ (bs : List Block). Goes more bs (expanded_to state tree) (expanded_to state next))
      first.blocks_are (goes is state first.no_items));
}

work_more : (limited : Bool) (before : List Token) (word number : Token) (tree : Tree)
    → IsPlain limited before tree
    → word.text ≡ codes "work"
    → IsNumber limited number.text LARGEST_COST
    → IsPlain limited (before ++ word ∷ number ∷ []) (ThenWork tree (value_of number.text) number.line)
unfolding expansion
work_more limited before word number tree p is_word is_num =
    let piece = WorkIs (value_of number.text) number.line in
    plain_more limited before (word ∷ number ∷ []) tree _ (WorkWritten number.text ∷ []) p
    (rw is_word refl) (All-cons HasForm (WorkWritten number.text) [] is_num.is_number
    (All-nil HasForm))
    (λ later n h. h)
    (λ is state none. subst
    (λ (s : ExpansionState). Goes (WorkWritten number.text ∷ [])
    (expanded_to state tree).tree.blocks (expanded_to state tree) s)
    (sym (fold-append after_piece state (expansion [] false tree) (piece ∷ [])))
    (record {
      marks = Works (value_of number.text) ∷ [];
      marks_are = refl;
      blocks_are = refl;
      no_items = none;
      names_are = refl;
      means = ((is_num.is_number, refl, is_num.fits is), tt);
    }))

wait_more : (limited : Bool) (before : List Token) (word : Token) (tree : Tree)
    → IsPlain limited before tree
    → word.text ≡ codes "taskwait"
    → IsPlain limited (before ++ word ∷ []) (ThenWait tree word.line)
unfolding expansion
wait_more limited before word tree p is_word =
    plain_more limited before (word ∷ []) tree _ (WaitWritten ∷ []) p
    (rw is_word refl) (All-cons HasForm WaitWritten [] tt (All-nil HasForm))
    (λ later n h. h)
    (λ is state none. subst
    (λ (s : ExpansionState). Goes (WaitWritten ∷ []) (expanded_to state tree).tree.blocks
    (expanded_to state tree) s)
    (sym (fold-append after_piece state (expansion [] false tree) (WaitIs word.line ∷ [])))
    (record {
      marks = Waits ∷ [];
      marks_are = refl;
      blocks_are = refl;
      no_items = none;
      names_are = refl;
      means = (tt, tt);
    }))

-- the texts of a block
block_texts : (opens inside : List Token) (closes : Token) (piece : Written)
    (written : List Written)
    → texts opens ≡ texts_of piece
    → texts inside ≡ flat_map texts_of written
    → closes.text ≡ codes "}"
    → texts (opens ++ (inside ++ closes ∷ [])) ≡ flat_map texts_of (piece ∷ (written ++ EndWritten ∷ []))
block_texts opens inside closes piece written first body is_close =
    texts_append opens (inside ++ closes ∷ [])
    ∙ rw (first, texts_append inside (closes ∷ []), body, is_close)
    (ap (λ (ts : List (List ℕ)). texts_of piece ++ ts)
    (sym (flat_map-append texts_of written (EndWritten ∷ []))))

-- a block's pieces end what they begin
block_nests : (written later : List Written) (n : ℕ)
    → ((others : List Written) (more : ℕ) → EndBlocks others more → EndBlocks (written ++ others) more)
    → EndBlocks later n
    → EndBlocks ((written ++ EndWritten ∷ []) ++ later) (suc n)
block_nests written later n nested h =
    subst (λ (all : List Written). EndBlocks all (suc n))
    (sym (append_assoc written (EndWritten ∷ []) later)) (nested (EndWritten ∷ later) (suc n) h)

block_forms : (piece : Written) (written : List Written) → HasForm piece → All HasForm written
    → All HasForm (piece ∷ (written ++ EndWritten ∷ []))
block_forms piece written form forms =
    All-cons HasForm piece (written ++ EndWritten ∷ []) form
    (All-push HasForm written EndWritten forms tt)

block_more : (limited : Bool) (variables : List (List ℕ)) (before opens inside : List Token)
    (closes : Token) (opening : LoopOpening) (tree body : Tree)
    → OpeningSpelled One limited variables opens opening
    → IsPlain limited before tree
    → IsPlain limited inside body
    → closes.text ≡ codes "}"
    → IsPlain limited (before ++ (opens ++ (inside ++ closes ∷ []))) (with_block tree opening body)
unfolding expansion
block_more limited _ before _ inside closes _ tree body (Group variables word brace is_word is_brace)
    p b is_close =
    let more = GroupWritten ∷ (b.written ++ EndWritten ∷ []) in
    let front : List Piece = GroupComes word.line ∷ GroupOpens brace.line ∷ [] in
    plain_more limited before ((word ∷ brace ∷ []) ++ (inside ++ closes ∷ [])) tree _ more p
    (block_texts (word ∷ brace ∷ []) inside closes GroupWritten b.written
    (rw (is_word, is_brace) refl) b.texts_are is_close)
    (block_forms GroupWritten b.written tt b.forms)
    (λ later n h. block_nests b.written later n b.nested h)
    (λ is state none.
    let middle = expanded_to state tree in
    let second = after_pieces middle front in
    subst (λ (s : ExpansionState). Goes more middle.tree.blocks middle s)
    (in_four state (expansion [] false tree) front (expansion [] false body) (BlockEnds ∷ []))
    (block_goes GroupWritten b.written (GroupBlock brace.line) middle second
    (expanded_to second body)
    (record {
      marks = GroupBegins ∷ [];
      marks_are = refl;
      blocks_are = refl;
      no_items = none;
      names_are = refl;
      means = (tt, tt);
    })
    (b.goes is second none)))
block_more limited _ before _ inside closes _ tree body
    (Task variables clauses word brace head is_word c is_brace) p b is_close =
    let parts = clauses_plain limited variables clauses head c in
    let piece = TaskWritten parts.clauses in
    let more = piece ∷ (b.written ++ EndWritten ∷ []) in
    let task : LoopTask = task_of head word.line brace.line in
    let front : List Piece = task_pieces [] false task in
    plain_more limited before ((word ∷ (clauses ++ brace ∷ [])) ++ (inside ++ closes ∷ [])) tree _
    more p
    (block_texts (word ∷ (clauses ++ brace ∷ [])) inside closes piece b.written
    (rw (is_word, texts_append clauses (brace ∷ []), parts.texts_are, is_brace) refl) b.texts_are
    is_close)
    (block_forms piece b.written
    (parts.forms, at_most_one head.has_if (count_by is_if parts.clauses) parts.ifs) b.forms)
    (λ later n h. block_nests b.written later n b.nested h)
    (λ is state none.
    let middle = expanded_to state tree in
    let second = after_pieces middle front in
    let first = task_goes limited clauses head word.line brace.line middle parts is none in
    let pieces_are : expansion [] false tree
    ++ (front ++ (expansion [] false body ++ BlockEnds ∷ []))
    ≡ expansion [] false (ThenTask tree task body) =
    ap (λ (f : Bool). expansion [] false tree
    ++ (front ++ (expansion [] (f || false) body ++ BlockEnds ∷ []))) (sym parts.not_final) in
    subst (λ (s : ExpansionState). Goes more middle.tree.blocks middle s)
    (in_four state (expansion [] false tree) front (expansion [] false body) (BlockEnds ∷ [])
    ∙ ap (λ (ps : List Piece). after_pieces state ps) pieces_are)
    (block_goes piece b.written (TaskBlock brace.line) middle second (expanded_to second body)
    first
    (b.goes is second first.no_items)))
block_more limited _ before _ inside closes _ tree body
    (For variables word variable from to brace two is_for is_var new is_from is_to is_brace) p b
    is_close =
    absurd cc

-- statements of version 1 are written in pieces, which mean their expansion
pub tree_plain : (limited : Bool) (variables : List (List ℕ)) (room : ℕ) (tokens : List Token)
    (tree : Tree)
    → Spelled One limited variables room tokens tree
    → IsPlain limited tokens tree
unfolding expansion
tree_plain limited _ _ _ _ (Nothing variables room) = record {
  written = [];
  texts_are = refl;
  forms = All-nil HasForm;
  nested = λ later more h. h;
  goes = λ is state none. record {
    marks = [];
    marks_are = sym (append-nil state.tree.marks);
    blocks_are = refl;
    no_items = none;
    names_are = refl;
    means = tt;
  };
}
tree_plain limited _ _ _ _ (Work variables room before word number tree s is_word is_num) =
    work_more limited before word number tree (tree_plain limited variables room before tree s)
    is_word is_num
tree_plain limited _ _ _ _ (Wait variables room before word tree s is_word) =
    wait_more limited before word tree (tree_plain limited variables room before tree s) is_word
tree_plain limited _ _ _ _
    (BlockSpelled variables room before opens inside closes opening tree body s o b is_close) =
    block_more limited variables before opens inside closes opening tree body o
    (tree_plain limited variables (suc room) before tree s)
    (tree_plain limited (variables_around opening variables) room inside body b) is_close
