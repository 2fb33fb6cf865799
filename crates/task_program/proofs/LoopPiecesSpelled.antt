-- What is written in pieces of a version, whose blocks nest, is spelled by the grammar of it.
use Rattle.std.proofs.Common.{◌≡◌, ℕ, zero, suc, ◌+◌, ◌≤◌, Bool, true, false, cond, List, []}
use Rattle.std.proofs.Common.{◌∷◌, ◌++◌, append_assoc, append-nil, length, Some, refl, sym, ap, subst}
use Rattle.std.proofs.Common.{◌∙◌, arith, codes}
use Rattle.std.specs.Prelude.{All, count_by, map}
use Rattle.std.specs.List.{flat_map, position_or_len}
use Rattle.std.specs.Str.{bytes_eq}
use Rattle.std.proofs.lemmas.List.{map-append}
use Rattle.std.proofs.lemmas.List.Elements.{All-head, All-tail}
use Rattle.std.proofs.lemmas.List.Sums.{sum_by-cons}
use Rattle.program_text.specs.declared.statement.DependKind.{DependKind}
use Rattle.loop_text.specs.declared.loops.Index.{Index}
use Rattle.loop_text.specs.declared.loops.LoopItem.{LoopItem}
use Rattle.loop_text.specs.declared.loop_reader.LoopHead.{LoopHead}
use Rattle.loop_text.specs.declared.open_loops.LoopOpening.{LoopOpening}
use Rattle.loop_text.specs.declared.open_loops.LoopOpening.TheVariants.{TaskOpening, GroupOpening}
use Rattle.loop_text.specs.declared.open_loops.LoopOpening.TheVariants.{ForOpening}
use Rattle.program_text.specs.Tokens.{Token, texts}
use Rattle.program_text.specs.Words.{is_text, value_of, type_word}
use Rattle.loop_text.specs.Loops.{Tree}
use Rattle.loop_text.specs.Loops.Tree.{NoStatement}
use Rattle.loop_text.specs.OpenBlocks.{variables_around}
use Rattle.loop_text.specs.Parts.{no_clauses}
use Rattle.task_program.specs.declared.version.Version.{Version}
use Rattle.task_program.specs.declared.version.Version.TheVariants.{Two}
use Rattle.task_program.specs.FirstLoopFault.{IsLoopSentence}
use Rattle.task_program.specs.Grammar as grammar
use Rattle.task_program.specs.Grammar.{IndexSpelled, ItemSpelled, ItemsSpelled, ClausesSpelled}
use Rattle.task_program.specs.Grammar.{OpeningSpelled, Spelled, IsDerived, item_of, task_of}
use Rattle.task_program.specs.Grammar.IndexSpelled.{Number, Minus, Variable, Moved}
use Rattle.task_program.specs.Grammar.ItemSpelled.{Plain, Indexed}
use Rattle.task_program.specs.Grammar.ItemsSpelled.{First, More}
use Rattle.task_program.specs.Grammar.ClausesSpelled.{NoClause, If, Final, Depend}
use Rattle.task_program.specs.Grammar.OpeningSpelled.{Group, Task, For}
use Rattle.task_program.specs.Grammar.Spelled.{Nothing, Work, Wait, Block}
use Rattle.program_text.proofs.Bools.{or_true_right, bool_cases}
use Rattle.task_program.proofs.FoundPlaces.{same_text}
use Rattle.task_program.proofs.LoopPieces.{IndexWritten, ItemWritten, LoopClause, LoopPiece}
use Rattle.task_program.proofs.LoopPieces.{index_texts, item_texts, item_and_comma, clause_texts}
use Rattle.task_program.proofs.LoopPieces.{piece_texts, HasIndexForm, HasItemForm, IsVariableAround}
use Rattle.task_program.proofs.LoopPieces.{HasLoopClauseForm, HaveClauseForms, HaveLoopForms}
use Rattle.task_program.proofs.LoopPieces.{is_if, is_final, IsItemIn, IsClauseIn, IsPieceIn}
use Rattle.task_program.proofs.LoopPieces.{all_in_two}
use Rattle.task_program.proofs.LoopPieces.IndexWritten.{NumberIndex, MinusIndex, VariableIndex}
use Rattle.task_program.proofs.LoopPieces.IndexWritten.{SignIndex}
use Rattle.task_program.proofs.LoopPieces.ItemWritten.{PlainItem, IndexedItem}
use Rattle.task_program.proofs.LoopPieces.LoopClause.{IfClause, FinalClause, DependClause}
use Rattle.task_program.proofs.LoopPieces.LoopPiece.{WorkPiece, TaskPiece, WaitPiece, GroupPiece}
use Rattle.task_program.proofs.LoopPieces.LoopPiece.{ForPiece, EndPiece}
use Rattle.task_program.proofs.LoopShapes.{Rest}

-- the token of a text, on any line
abbrev token_of : List ℕ → Token
token_of text = record { text = text; line = 0 }

abbrev tokens_of_texts : List (List ℕ) → List Token
tokens_of_texts all = map token_of all

tokens_append : (one other : List (List ℕ))
    → tokens_of_texts (one ++ other) ≡ tokens_of_texts one ++ tokens_of_texts other
tokens_append one other = map-append token_of one other

texts_of_tokens : (all : List (List ℕ)) → texts (tokens_of_texts all) ≡ all
texts_of_tokens [] = refl
texts_of_tokens (text ∷ all) = ap (λ (ts : List (List ℕ)). text ∷ ts) (texts_of_tokens all)

-- ---- items

known_variable : (variables : List (List ℕ)) (text : List ℕ)
    → IsVariableAround variables text
    → grammar.IsVariable variables text (position_or_len (bytes_eq text) variables)
known_variable variables text h = (h.0, rw h.1 refl)

record IndexIs (variables : List (List ℕ)) (tokens : List Token) : Type 0 where
  pub index : Index
  pub spelled : IndexSpelled variables tokens index

index_spelled : (variables : List (List ℕ)) (index : IndexWritten)
    → HasIndexForm variables index
    → IndexIs variables (tokens_of_texts (index_texts index))
index_spelled variables (NumberIndex number) form = record {
  index = _;
  spelled = Number variables (token_of number) form;
}
index_spelled variables (MinusIndex number) form = record {
  index = _;
  spelled = Minus variables (token_of (codes "-")) (token_of number) refl form;
}
index_spelled variables (VariableIndex variable) form = record {
  index = _;
  spelled = Variable variables (token_of variable) _ (known_variable variables variable form);
}
index_spelled variables (SignIndex variable sign number) form =
    bool_cases (is_text sign (codes "+"))
    (λ is_plus. record {
      index = _;
      spelled = Moved variables (token_of variable) (token_of sign) (token_of number) _ false
          (known_variable variables variable form.0) (same_text sign (codes "+") is_plus) form.2;
    })
    (λ no_plus. record {
      index = _;
      spelled = Moved variables (token_of variable) (token_of sign) (token_of number) _ true
          (known_variable variables variable form.0)
          (same_text sign (codes "-") (or_true_right (is_text sign (codes "+")) _ form.1 no_plus))
          form.2;
    })

record ItemIs (version : Version) (variables : List (List ℕ)) (kind : DependKind) (tokens : List Token)
    : Type 0 where
  pub item : LoopItem
  pub spelled : ItemSpelled version variables kind tokens item

item_spelled : (version : Version) (variables : List (List ℕ)) (kind : DependKind) (item : ItemWritten)
    → HasItemForm variables item
    → IsItemIn version item
    → ItemIs version variables kind (tokens_of_texts (item_texts item))
item_spelled version variables kind (PlainItem name) form has = record {
  item = _;
  spelled = Plain variables kind (token_of name) form;
}
item_spelled version variables kind (IndexedItem name index) form has =
    let inside = index_spelled variables index form.1 in
    record {
      item = item_of kind (token_of name) (Some inside.index);
      spelled = subst (λ (ts : List Token).
          ItemSpelled version variables kind (token_of name ∷ token_of (codes "[") ∷ ts)
          (item_of kind (token_of name) (Some inside.index)))
          (sym (tokens_append (index_texts index) (codes "]" ∷ [])))
          (Indexed variables kind (token_of name) (token_of (codes "[")) (token_of (codes "]"))
          (tokens_of_texts (index_texts index)) inside.index has form.0 refl inside.spelled refl);
    }

record ItemsAre (version : Version) (variables : List (List ℕ)) (kind : DependKind) (tokens : List Token)
    : Type 0 where
  pub items : List LoopItem
  pub spelled : ItemsSpelled version variables kind tokens items

-- one item more, behind some that are spelled
item_added : (version : Version) (variables : List (List ℕ)) (kind : DependKind) (last : ItemWritten)
    (before : List (List ℕ))
    → HasItemForm variables last
    → IsItemIn version last
    → ItemsAre version variables kind (tokens_of_texts before)
    → ItemsAre version variables kind (tokens_of_texts (before ++ codes "," ∷ item_texts last))
item_added version variables kind last before form has earlier =
    let one = item_spelled version variables kind last form has in
    record {
      items = earlier.items ++ one.item ∷ [];
      spelled = subst
          (λ (ts : List Token). ItemsSpelled version variables kind ts (earlier.items ++ one.item ∷ []))
          (sym (tokens_append before (codes "," ∷ item_texts last)))
          (More variables kind (tokens_of_texts before) (tokens_of_texts (item_texts last))
          (token_of (codes ",")) earlier.items one.item earlier.spelled refl one.spelled);
    }

-- the items up to the last, behind some that are spelled
items_after : (version : Version) (variables : List (List ℕ)) (kind : DependKind) (items : List ItemWritten)
    (last : ItemWritten) (before : List (List ℕ))
    → All (HasItemForm variables) items
    → HasItemForm variables last
    → All (IsItemIn version) items
    → IsItemIn version last
    → ItemsAre version variables kind (tokens_of_texts before)
    → ItemsAre version variables kind (tokens_of_texts (before
    ++ codes "," ∷ (flat_map item_and_comma items ++ item_texts last)))
items_after version variables kind [] last before forms form have has earlier =
    item_added version variables kind last before form has earlier
items_after version variables kind (item ∷ items) last before forms form have has earlier =
    let one = item_added version variables kind item before
    (All-head (HasItemForm variables) item items forms)
    (All-head (IsItemIn version) item items have) earlier in
    let later = items_after version variables kind items last
    (before ++ codes "," ∷ item_texts item)
    (All-tail (HasItemForm variables) item items forms) form
    (All-tail (IsItemIn version) item items have) has one in
    subst (λ (ts : List (List ℕ)). ItemsAre version variables kind (tokens_of_texts ts))
    (simp append_assoc) later

items_spelled : (version : Version) (variables : List (List ℕ)) (kind : DependKind) (items : List ItemWritten)
    (last : ItemWritten)
    → All (HasItemForm variables) items
    → HasItemForm variables last
    → All (IsItemIn version) items
    → IsItemIn version last
    → ItemsAre version variables kind (tokens_of_texts (flat_map item_and_comma items ++ item_texts last))
items_spelled version variables kind [] last forms form have has =
    let one = item_spelled version variables kind last form has in
    record {
      items = one.item ∷ [];
      spelled = First variables kind (tokens_of_texts (item_texts last)) one.item one.spelled;
    }
items_spelled version variables kind (item ∷ items) last forms form have has =
    let one = item_spelled version variables kind item
    (All-head (HasItemForm variables) item items forms)
    (All-head (IsItemIn version) item items have) in
    let first : ItemsAre version variables kind (tokens_of_texts (item_texts item)) = record {
      items = one.item ∷ [];
      spelled = First variables kind (tokens_of_texts (item_texts item)) one.item one.spelled;
    } in
    let later = items_after version variables kind items last (item_texts item)
    (All-tail (HasItemForm variables) item items forms) form
    (All-tail (IsItemIn version) item items have) has first in
    subst (λ (ts : List (List ℕ)). ItemsAre version variables kind (tokens_of_texts ts))
    (simp append_assoc) later

-- ---- clauses

record ClausesAre (version : Version) (variables : List (List ℕ)) (tokens : List Token) : Type 0 where
  pub head : LoopHead
  pub spelled : ClausesSpelled version false variables tokens head

abbrev if_weight : LoopClause → ℕ
if_weight clause = cond (is_if clause) 1 0

abbrev final_weight : LoopClause → ℕ
final_weight clause = cond (is_final clause) 1 0

pub none_left : (has : Bool) (n : ℕ) → cond has 1 0 + suc n ≤ 1 → has ≡ false
none_left true n h = absurd (omega (arith, h))
none_left false n h = refl

-- clauses behind some that are spelled
clauses_after : (version : Version) (variables : List (List ℕ)) (clauses : List LoopClause) (before : List Token)
    (head : LoopHead)
    → ClausesSpelled version false variables before head
    → All (HasLoopClauseForm variables) clauses
    → All (IsClauseIn version) clauses
    → cond head.has_if 1 0 + count_by is_if clauses ≤ 1
    → cond head.has_final 1 0 + count_by is_final clauses ≤ 1
    → ClausesAre version variables (before ++ tokens_of_texts (flat_map clause_texts clauses))
clauses_after version variables [] before head earlier forms have one_if one_final = record {
  head = head;
  spelled = subst (λ (ts : List Token). ClausesSpelled version false variables ts head)
      (sym (append-nil before)) earlier;
}
clauses_after version variables (IfClause number ∷ clauses) before head earlier forms have one_if one_final =
    let ifs : cond head.has_if 1 0 + suc (count_by is_if clauses) ≤ 1 =
    omega (arith, one_if, sum_by-cons if_weight (IfClause number) clauses) in
    let finals : cond head.has_final 1 0 + count_by is_final clauses ≤ 1 =
    omega (arith, one_final, sum_by-cons final_weight (IfClause number) clauses) in
    let form = All-head (HasLoopClauseForm variables) (IfClause number) clauses forms in
    let here = tokens_of_texts (clause_texts (IfClause number)) in
    let later = clauses_after version variables clauses (before ++ here) _
    (If variables before (token_of (codes "if")) (token_of (codes "(")) (token_of number)
    (token_of (codes ")")) head earlier (none_left head.has_if (count_by is_if clauses) ifs) refl
    refl (record { is_number = form; fits = λ h. absurd cc }) refl)
    (All-tail (HasLoopClauseForm variables) (IfClause number) clauses forms)
    (All-tail (IsClauseIn version) (IfClause number) clauses have)
    (omega (arith, ifs)) finals in
    subst (λ (ts : List Token). ClausesAre version variables ts)
    (append_assoc before here (tokens_of_texts (flat_map clause_texts clauses))) later
clauses_after version variables (FinalClause number ∷ clauses) before head earlier forms have one_if one_final =
    let ifs : cond head.has_if 1 0 + count_by is_if clauses ≤ 1 =
    omega (arith, one_if, sum_by-cons if_weight (FinalClause number) clauses) in
    let finals : cond head.has_final 1 0 + suc (count_by is_final clauses) ≤ 1 =
    omega (arith, one_final, sum_by-cons final_weight (FinalClause number) clauses) in
    let form = All-head (HasLoopClauseForm variables) (FinalClause number) clauses forms in
    let here = tokens_of_texts (clause_texts (FinalClause number)) in
    let later = clauses_after version variables clauses (before ++ here) _
    (Final variables before (token_of (codes "final")) (token_of (codes "(")) (token_of number)
    (token_of (codes ")")) head (All-head (IsClauseIn version) (FinalClause number) clauses have) earlier
    (none_left head.has_final (count_by is_final clauses) finals)
    refl refl (record { is_number = form; fits = λ h. absurd cc }) refl)
    (All-tail (HasLoopClauseForm variables) (FinalClause number) clauses forms)
    (All-tail (IsClauseIn version) (FinalClause number) clauses have)
    ifs (omega (arith, finals)) in
    subst (λ (ts : List Token). ClausesAre version variables ts)
    (append_assoc before here (tokens_of_texts (flat_map clause_texts clauses))) later
clauses_after version variables (DependClause kind items last ∷ clauses) before head earlier forms have one_if
    one_final =
    let clause = DependClause kind items last in
    let ifs : cond head.has_if 1 0 + count_by is_if clauses ≤ 1 =
    omega (arith, one_if, sum_by-cons if_weight clause clauses) in
    let finals : cond head.has_final 1 0 + count_by is_final clauses ≤ 1 =
    omega (arith, one_final, sum_by-cons final_weight clause clauses) in
    let form : HasLoopClauseForm variables clause = All-head (HasLoopClauseForm variables) clause
    clauses forms in
    let own : IsClauseIn version clause = All-head (IsClauseIn version) clause clauses have in
    let inside_texts = flat_map item_and_comma items ++ item_texts last in
    let inside : ItemsAre version variables kind (tokens_of_texts inside_texts) =
    items_spelled version variables kind items last form.0 form.1 own.0 own.1 in
    let here = token_of (codes "depend") ∷ token_of (codes "(") ∷ token_of (type_word kind)
    ∷ token_of (codes ":") ∷ (tokens_of_texts inside_texts ++ token_of (codes ")") ∷ []) in
    let here_is : here ≡ tokens_of_texts (clause_texts clause) =
    ap (λ (ts : List Token). token_of (codes "depend") ∷ token_of (codes "(")
    ∷ token_of (type_word kind) ∷ token_of (codes ":") ∷ ts)
    (sym (tokens_append inside_texts (codes ")" ∷ []))
    ∙ ap tokens_of_texts
    (append_assoc (flat_map item_and_comma items) (item_texts last) (codes ")" ∷ []))) in
    let later = clauses_after version variables clauses (before ++ here) _
    (Depend variables before (tokens_of_texts inside_texts) (token_of (codes "depend"))
    (token_of (codes "(")) (token_of (type_word kind)) (token_of (codes ":"))
    (token_of (codes ")")) kind head inside.items earlier refl refl refl refl
    inside.spelled refl)
    (All-tail (HasLoopClauseForm variables) clause clauses forms)
    (All-tail (IsClauseIn version) clause clauses have) ifs finals in
    subst (λ (ts : List Token). ClausesAre version variables ts)
    (append_assoc before here (tokens_of_texts (flat_map clause_texts clauses))
    ∙ ap (λ (ts : List Token). before ++ ts)
    (ap (λ (ts : List Token). ts ++ tokens_of_texts (flat_map clause_texts clauses)) here_is
    ∙ sym (tokens_append (clause_texts clause) (flat_map clause_texts clauses))))
    later

-- ---- statements

abbrev piece_tokens : List LoopPiece → List Token
piece_tokens pieces = tokens_of_texts (flat_map piece_texts pieces)

-- where blocks are open, their end and the pieces after it; where none is, nothing is left over
abbrev EndsAt : Version → (around : List (List (List ℕ))) → List LoopPiece → List Token → Type 0
EndsAt version [] pieces inside = piece_tokens pieces ≡ inside
EndsAt version (outer ∷ around) pieces inside =
    (rest : List LoopPiece)
    × (piece_tokens pieces ≡ inside ++ token_of (codes "}") ∷ piece_tokens rest)
    × HaveLoopForms rest outer around
    × All (IsPieceIn version) rest
    × (suc (length rest) ≤ length pieces)

-- the pieces up to the end of the block spell statements, behind others
record Run (version : Version) (variables : List (List ℕ)) (around : List (List (List ℕ))) (room : ℕ)
    (before : List Token) (pieces : List LoopPiece)
    : Type 0 where
  pub inside : List Token
  pub tree : Tree
  pub spelled : Spelled version false variables room (before ++ inside) tree
  pub ends : EndsAt version around pieces inside

ends_later : (version : Version) (around : List (List (List ℕ))) (pieces later : List LoopPiece)
    (first inside : List Token)
    → piece_tokens pieces ≡ first ++ piece_tokens later
    → suc (length later) ≤ length pieces
    → EndsAt version around later inside
    → EndsAt version around pieces (first ++ inside)
ends_later version [] pieces later first inside same shorter ends =
    same ∙ ap (λ (ts : List Token). first ++ ts) ends
ends_later version (outer ∷ around) pieces later first inside same shorter ends = (
  ends.0,
  same ∙ ap (λ (ts : List Token). first ++ ts) ends.1
      ∙ sym (append_assoc first inside (token_of (codes "}") ∷ piece_tokens ends.0)),
  ends.2,
  ends.3,
  omega (arith, shorter, ends.4),
)

-- what comes first, and the run of the pieces after it
run_later : (version : Version) (variables : List (List ℕ)) (around : List (List (List ℕ))) (room : ℕ)
    (before first : List Token) (pieces later : List LoopPiece)
    → piece_tokens pieces ≡ first ++ piece_tokens later
    → suc (length later) ≤ length pieces
    → Run version variables around room (before ++ first) later
    → Run version variables around room before pieces
run_later version variables around room before first pieces later same shorter run = record {
  inside = first ++ run.inside;
  tree = run.tree;
  spelled = subst (λ (ts : List Token). Spelled version false variables room ts run.tree)
      (append_assoc before first run.inside) run.spelled;
  ends = ends_later version around pieces later first run.inside same shorter run.ends;
}

-- what opens a block
record OpeningIs (version : Version) (variables : List (List ℕ)) (piece : LoopPiece) (inner : List (List ℕ))
    : Type 0 where
  pub opening : LoopOpening
  pub spelled : OpeningSpelled version false variables (tokens_of_texts (piece_texts piece)) opening
  pub inner_is : variables_around opening variables ≡ inner

abbrev RunOf : Version → ℕ → Type 0
RunOf version n = (variables : List (List ℕ)) (around : List (List (List ℕ))) (room : ℕ)
    (before : List Token) (tree : Tree) (pieces : List LoopPiece)
    → length pieces ≤ n
    → length pieces ≤ room
    → Spelled version false variables room before tree
    → HaveLoopForms pieces variables around
    → All (IsPieceIn version) pieces
    → Run version variables around room before pieces

-- a block, and the run of the pieces after it
block_run : (version : Version) (n : ℕ) → RunOf version n
    → (variables : List (List ℕ)) (around : List (List (List ℕ))) (room : ℕ)
    (before : List Token) (tree : Tree) (piece : LoopPiece) (pieces : List LoopPiece)
    (inner : List (List ℕ))
    → length pieces ≤ n
    → suc (length pieces) ≤ room
    → Spelled version false variables room before tree
    → OpeningIs version variables piece inner
    → HaveLoopForms pieces inner (variables ∷ around)
    → All (IsPieceIn version) pieces
    → Run version variables around room before (piece ∷ pieces)
block_run version n runs variables around zero before tree piece pieces inner fewer shallow s o forms have =
    absurd (omega (arith, shallow))
block_run version n runs variables around (suc room) before tree piece pieces inner fewer shallow s o forms have
    =
    let body = runs inner (variables ∷ around) room [] NoStatement pieces fewer
    (omega (arith, shallow)) (Nothing inner room) forms have in
    let rest : List LoopPiece = body.ends.0 in
    let opens = tokens_of_texts (piece_texts piece) in
    let first = opens ++ (body.inside ++ token_of (codes "}") ∷ []) in
    let block = Block variables room before opens body.inside (token_of (codes "}")) o.opening tree
    body.tree s o.spelled
    (subst (λ (vs : List (List ℕ)). Spelled version false vs room body.inside body.tree) (sym o.inner_is)
    body.spelled)
    refl in
    let shorter : suc (length rest) ≤ length pieces = body.ends.4 in
    let later = runs variables around (suc room) (before ++ first) _ rest
    (omega (arith, fewer, shorter)) (omega (arith, shallow, shorter)) block body.ends.2
    body.ends.3 in
    run_later version variables around (suc room) before first (piece ∷ pieces) rest
    (tokens_append (piece_texts piece) (flat_map piece_texts pieces)
    ∙ ap (λ (ts : List Token). opens ++ ts) (body.ends.1
    ∙ sym (append_assoc body.inside (token_of (codes "}") ∷ []) (piece_tokens rest)))
    ∙ sym (append_assoc opens (body.inside ++ token_of (codes "}") ∷ []) (piece_tokens rest)))
    (omega (arith, shorter)) later

task_opening : (version : Version) (variables : List (List ℕ)) (clauses : List LoopClause)
    → HaveClauseForms variables clauses
    → All (IsClauseIn version) clauses
    → OpeningIs version variables (TaskPiece clauses) variables
task_opening version variables clauses forms have =
    let head = clauses_after version variables clauses [] no_clauses (NoClause variables) forms.0 have
    (omega (arith, forms.1)) (omega (arith, forms.2)) in
    record {
      opening = TaskOpening (task_of head.head 0 0);
      spelled = subst (λ (ts : List Token). OpeningSpelled version false variables
          (token_of (codes "task") ∷ ts) (TaskOpening (task_of head.head 0 0)))
          (sym (tokens_append (flat_map clause_texts clauses) (codes "{" ∷ [])))
          (Task variables (tokens_of_texts (flat_map clause_texts clauses))
          (token_of (codes "task")) (token_of (codes "{")) head.head refl head.spelled refl);
      inner_is = refl;
    }

-- the pieces after the first
pieces_left : (version : Version) (piece : LoopPiece) (pieces : List LoopPiece)
    → All (IsPieceIn version) (piece ∷ pieces)
    → All (IsPieceIn version) pieces
pieces_left version piece pieces have = All-tail (IsPieceIn version) piece pieces have

-- the first piece is one of the version
first_in : (version : Version) (piece : LoopPiece) (pieces : List LoopPiece)
    → All (IsPieceIn version) (piece ∷ pieces)
    → IsPieceIn version piece
first_in version piece pieces have = All-head (IsPieceIn version) piece pieces have

pieces_run : (version : Version) (n : ℕ) → RunOf version n
pieces_run version n variables [] room before tree [] fewer shallow s forms have = record {
  inside = [];
  tree = tree;
  spelled = subst (λ (ts : List Token). Spelled version false variables room ts tree)
      (sym (append-nil before)) s;
  ends = refl;
}
pieces_run version n variables (outer ∷ around) room before tree [] fewer shallow s forms have = absurd forms
pieces_run version zero variables around room before tree (piece ∷ pieces) fewer shallow s forms have =
    absurd (omega (arith, fewer))
pieces_run version (suc n) variables around room before tree (WorkPiece number ∷ pieces) fewer shallow s
    forms have =
    let first = token_of (codes "work") ∷ token_of number ∷ [] in
    run_later version variables around room before first (WorkPiece number ∷ pieces) pieces refl
    (omega arith)
    (pieces_run version n variables around room (before ++ first) _ pieces (omega (arith, fewer))
    (omega (arith, shallow))
    (Work variables room before (token_of (codes "work")) (token_of number) tree s refl
    (record { is_number = forms.0; fits = λ h. absurd cc }))
    forms.1 (pieces_left version (WorkPiece number) pieces have))
pieces_run version (suc n) variables around room before tree (TaskPiece clauses ∷ pieces) fewer shallow s
    forms have =
    block_run version n (pieces_run version n) variables around room before tree (TaskPiece clauses) pieces
    variables (omega (arith, fewer)) shallow s
    (task_opening version variables clauses forms.0
    (first_in version (TaskPiece clauses) pieces have))
    forms.1 (pieces_left version (TaskPiece clauses) pieces have)
pieces_run version (suc n) variables around room before tree (WaitPiece ∷ pieces) fewer shallow s forms have =
    let first = token_of (codes "taskwait") ∷ [] in
    run_later version variables around room before first (WaitPiece ∷ pieces) pieces refl (omega arith)
    (pieces_run version n variables around room (before ++ first) _ pieces (omega (arith, fewer))
    (omega (arith, shallow))
    (Wait variables room before (token_of (codes "taskwait")) tree s refl)
    forms (pieces_left version WaitPiece pieces have))
pieces_run version (suc n) variables around room before tree (GroupPiece ∷ pieces) fewer shallow s forms have =
    block_run version n (pieces_run version n) variables around room before tree GroupPiece pieces
    variables (omega (arith, fewer)) shallow s
    (record {
      opening = GroupOpening 0 0;
      spelled = Group variables (token_of (codes "taskgroup")) (token_of (codes "{")) refl refl;
      inner_is = refl;
    })
    forms (pieces_left version GroupPiece pieces have)
pieces_run version (suc n) variables around room before tree (ForPiece variable from to ∷ pieces) fewer
    shallow s forms have =
    block_run version n (pieces_run version n) variables around room before tree (ForPiece variable from to) pieces
    (variable ∷ variables) (omega (arith, fewer)) shallow s
    (record {
      opening = ForOpening variable (value_of from) (value_of to) 0 0;
      spelled = For variables (token_of (codes "for")) (token_of variable) (token_of from)
          (token_of to) (token_of (codes "{"))
          (first_in version (ForPiece variable from to) pieces have) refl forms.0.0 forms.0.1
          (record { is_number = forms.1; fits = λ h. absurd cc })
          (record { is_number = forms.2; fits = λ h. absurd cc }) refl;
      inner_is = refl;
    })
    forms.3 (pieces_left version (ForPiece variable from to) pieces have)
pieces_run version (suc n) variables [] room before tree (EndPiece ∷ pieces) fewer shallow s forms have =
    absurd forms
pieces_run version (suc n) variables (outer ∷ around) room before tree (EndPiece ∷ pieces) fewer shallow s
    forms have = record {
      inside = [];
      tree = tree;
      spelled = subst (λ (ts : List Token). Spelled version false variables room ts tree)
          (sym (append-nil before)) s;
      ends = (pieces, refl, forms, pieces_left version EndPiece pieces have, omega arith);
    }

-- pieces of a version whose blocks nest are derived by its grammar
pub derived_of_pieces : (version : Version) (derived : List (List ℕ)) (r : Rest [] [] derived)
    → All (IsPieceIn version) r.pieces
    → IsDerived version derived
derived_of_pieces version derived r have =
    let n = length r.pieces in
    let run = pieces_run version n [] [] n [] NoStatement r.pieces (omega arith) (omega arith)
    (Nothing [] n) r.forms have in
    record {
      tokens = run.inside;
      room = n;
      tree = run.tree;
      texts_are = r.texts_are ∙ sym (texts_of_tokens (flat_map piece_texts r.pieces))
          ∙ ap texts run.ends;
      spelled = run.spelled;
    }

-- version 2 has all pieces
pub sentence_of_pieces : (derived : List (List ℕ)) → Rest [] [] derived → IsLoopSentence derived
sentence_of_pieces derived r = derived_of_pieces Two derived r (all_in_two r.pieces)
