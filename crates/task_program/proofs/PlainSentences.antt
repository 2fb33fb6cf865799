-- What the grammar of version 1 derives is the header and pieces, each of its form, whose blocks
-- nest.
use Rattle.std.proofs.Common.{◌≡◌, ℕ, zero, suc, true, false, List, [], ◌∷◌}
use Rattle.std.proofs.Common.{map, cond, refl, sym, ap, subst, ◌∙◌, arith, codes}
use Rattle.std.specs.Prelude.{All, count_by}
use Rattle.std.specs.List.{flat_map}
use Rattle.std.proofs.lemmas.List.{append-nil}
use Rattle.std.proofs.lemmas.List.Sums.{sum_by-cons}
use Rattle.std.proofs.lemmas.List.Elements.{All-nil, All-cons, All-head, All-tail}
use Rattle.task_program.specs.declared.version.Version.TheVariants.{One}
use Rattle.program_text.specs.Words.{is_number, value_of}
use Rattle.task_program.specs.Grammar.{IsDerived}
use Rattle.task_program.specs.PlainGrammar as plain
use Rattle.task_program.specs.PlainGrammar.{Written, name_and_comma, texts_of}
use Rattle.task_program.specs.PlainGrammar.Written.{WorkWritten, TaskWritten, WaitWritten, GroupWritten}
use Rattle.task_program.specs.PlainGrammar.Written.{EndWritten}
use Rattle.task_program.specs.PlainGrammar.{HasForm, EndBlocks}
use Rattle.task_program.specs.FirstPlainFault.{IsSentence}
use Rattle.task_program.proofs.LoopPieces.{ItemWritten, LoopClause, LoopPiece, item_and_comma}
use Rattle.task_program.proofs.LoopPieces.{clause_texts, piece_texts, HasItemForm, HasLoopClauseForm}
use Rattle.task_program.proofs.LoopPieces.{HaveLoopForms, is_if, is_final, IsItemIn, IsClauseIn}
use Rattle.task_program.proofs.LoopPieces.{IsPieceIn}
use Rattle.task_program.proofs.LoopPieces.ItemWritten.{PlainItem}
use Rattle.task_program.proofs.LoopPieces.LoopClause.{IfClause, DependClause}
use Rattle.task_program.proofs.LoopPieces.LoopPiece.{WorkPiece, TaskPiece, WaitPiece, GroupPiece}
use Rattle.task_program.proofs.LoopPieces.LoopPiece.{EndPiece}
use Rattle.task_program.proofs.LoopPiecesSpelled.{derived_of_pieces}
use Rattle.task_program.proofs.PlainPieces.{tree_plain}

-- ---- the pieces of version 1 among those of version 2

abbrev loop_items : List (List ℕ) → List ItemWritten
loop_items names = map (λ name. PlainItem name) names

abbrev loop_clause : plain.Clause → LoopClause
loop_clause (plain.Clause.IfClause number) = IfClause number
loop_clause (plain.Clause.DependClause kind names last) =
    DependClause kind (loop_items names) (PlainItem last)

abbrev loop_clauses : List plain.Clause → List LoopClause
loop_clauses clauses = map (λ clause. loop_clause clause) clauses

abbrev loop_piece : Written → LoopPiece
loop_piece (WorkWritten number) = WorkPiece number
loop_piece (TaskWritten clauses) = TaskPiece (loop_clauses clauses)
loop_piece WaitWritten = WaitPiece
loop_piece GroupWritten = GroupPiece
loop_piece EndWritten = EndPiece

abbrev loop_pieces : List Written → List LoopPiece
loop_pieces written = map (λ piece. loop_piece piece) written

-- ---- their texts

items_texts : (names : List (List ℕ))
    → flat_map item_and_comma (loop_items names) ≡ flat_map name_and_comma names
items_texts [] = refl
items_texts (name ∷ names) =
    ap (λ (ts : List (List ℕ)). name ∷ codes "," ∷ ts) (items_texts names)

one_clause_texts : (clause : plain.Clause)
    → clause_texts (loop_clause clause) ≡ plain.clause_texts clause
one_clause_texts (plain.Clause.IfClause number) = refl
one_clause_texts (plain.Clause.DependClause kind names last) = rw (items_texts names) refl

clauses_texts : (clauses : List plain.Clause)
    → flat_map clause_texts (loop_clauses clauses) ≡ flat_map plain.clause_texts clauses
clauses_texts [] = refl
clauses_texts (clause ∷ clauses) = rw (one_clause_texts clause, clauses_texts clauses) refl

one_piece_texts : (piece : Written) → piece_texts (loop_piece piece) ≡ texts_of piece
one_piece_texts (WorkWritten number) = refl
one_piece_texts (TaskWritten clauses) = rw (clauses_texts clauses) refl
one_piece_texts WaitWritten = refl
one_piece_texts GroupWritten = refl
one_piece_texts EndWritten = refl

pieces_texts : (written : List Written)
    → flat_map piece_texts (loop_pieces written) ≡ flat_map texts_of written
pieces_texts [] = refl
pieces_texts (piece ∷ written) = rw (one_piece_texts piece, pieces_texts written) refl

-- ---- their forms

items_forms : (names : List (List ℕ))
    → All plain.IsWord names
    → All (HasItemForm []) (loop_items names) × All (IsItemIn One) (loop_items names)
items_forms [] words = (All-nil (HasItemForm []), All-nil (IsItemIn One))
items_forms (name ∷ names) words =
    let later = items_forms names (All-tail plain.IsWord name names words) in (
      All-cons (HasItemForm []) (PlainItem name) (loop_items names)
          (All-head plain.IsWord name names words) later.0,
      All-cons (IsItemIn One) (PlainItem name) (loop_items names) tt later.1,
    )

clause_form : (clause : plain.Clause)
    → plain.HasClauseForm clause
    → HasLoopClauseForm [] (loop_clause clause) × IsClauseIn One (loop_clause clause)
clause_form (plain.Clause.IfClause number) form = (form, tt)
clause_form (plain.Clause.DependClause kind names last) form =
    let items = items_forms names form.0 in
    ((items.0, form.1), (items.1, tt))

record HaveForms (clauses : List plain.Clause) : Type 0 where
  pub forms : All (HasLoopClauseForm []) (loop_clauses clauses)
  pub have : All (IsClauseIn One) (loop_clauses clauses)
  pub ifs : count_by is_if (loop_clauses clauses) ≡ count_by plain.is_if clauses
  pub finals : count_by is_final (loop_clauses clauses) ≡ 0

no_more : (clause : plain.Clause) (clauses : List plain.Clause)
    → count_by is_final (loop_clauses clauses) ≡ 0
    → count_by is_final (loop_clauses (clause ∷ clauses)) ≡ 0
no_more (plain.Clause.IfClause number) clauses h = h
no_more (plain.Clause.DependClause kind names last) clauses h = h

ifs_more : (clause : plain.Clause) (clauses : List plain.Clause)
    → count_by is_if (loop_clauses clauses) ≡ count_by plain.is_if clauses
    → count_by is_if (loop_clauses (clause ∷ clauses)) ≡ count_by plain.is_if (clause ∷ clauses)
ifs_more (plain.Clause.IfClause number) clauses h = omega (
  arith,
  h,
  sum_by-cons (λ clause. cond (is_if clause) 1 0) (IfClause number) (loop_clauses clauses),
  sum_by-cons (λ clause. cond (plain.is_if clause) 1 0) (plain.Clause.IfClause number) clauses,
)
ifs_more (plain.Clause.DependClause kind names last) clauses h = h

have_forms : (clauses : List plain.Clause) → All plain.HasClauseForm clauses → HaveForms clauses
have_forms [] forms = record {
  forms = All-nil (HasLoopClauseForm []);
  have = All-nil (IsClauseIn One);
  ifs = refl;
  finals = refl;
}
have_forms (clause ∷ clauses) forms =
    let later = have_forms clauses (All-tail plain.HasClauseForm clause clauses forms) in
    let first = clause_form clause (All-head plain.HasClauseForm clause clauses forms) in
    record {
      forms = All-cons (HasLoopClauseForm []) (loop_clause clause) (loop_clauses clauses) first.0
          later.forms;
      have = All-cons (IsClauseIn One) (loop_clause clause) (loop_clauses clauses) first.1 later.have;
      ifs = ifs_more clause clauses later.ifs;
      finals = no_more clause clauses later.finals;
    }

-- no loop is around so many blocks
abbrev no_loops : ℕ → List (List (List ℕ))
no_loops zero = []
no_loops (suc n) = [] ∷ no_loops n

pieces_forms : (written : List Written) (more : ℕ)
    → All HasForm written
    → EndBlocks written more
    → HaveLoopForms (loop_pieces written) [] (no_loops more)
pieces_forms [] zero forms nested = tt
pieces_forms [] (suc more) forms nested = absurd nested
pieces_forms (WorkWritten number ∷ written) more forms nested = (
  All-head HasForm (WorkWritten number) written forms,
  pieces_forms written more (All-tail HasForm (WorkWritten number) written forms) nested,
)
pieces_forms (TaskWritten clauses ∷ written) more forms nested =
    let form : HasForm (TaskWritten clauses) = All-head HasForm (TaskWritten clauses) written forms
    in
    let own = have_forms clauses form.0 in
    let one_if = form.1 in (
      (own.forms, omega (arith, own.ifs, one_if), omega (arith, own.finals)),
      pieces_forms written (suc more) (All-tail HasForm (TaskWritten clauses) written forms) nested,
    )
pieces_forms (WaitWritten ∷ written) more forms nested =
    pieces_forms written more (All-tail HasForm WaitWritten written forms) nested
pieces_forms (GroupWritten ∷ written) more forms nested =
    pieces_forms written (suc more) (All-tail HasForm GroupWritten written forms) nested
pieces_forms (EndWritten ∷ written) zero forms nested = absurd nested
pieces_forms (EndWritten ∷ written) (suc more) forms nested =
    pieces_forms written more (All-tail HasForm EndWritten written forms) nested

piece_in_one : (piece : Written) → HasForm piece → IsPieceIn One (loop_piece piece)
piece_in_one (WorkWritten number) form = tt
piece_in_one (TaskWritten clauses) form = (have_forms clauses form.0).have
piece_in_one WaitWritten form = tt
piece_in_one GroupWritten form = tt
piece_in_one EndWritten form = tt

pieces_in_one : (written : List Written) → All HasForm written
    → All (IsPieceIn One) (loop_pieces written)
pieces_in_one [] forms = All-nil (IsPieceIn One)
pieces_in_one (piece ∷ written) forms =
    All-cons (IsPieceIn One) (loop_piece piece) (loop_pieces written)
    (piece_in_one piece (All-head HasForm piece written forms))
    (pieces_in_one written (All-tail HasForm piece written forms))

-- ---- sentences

-- the header, and pieces of their forms that end each block that they begin
pub record IsWritten (texts : List (List ℕ)) : Type 0 where
  pub version : List ℕ
  pub written : List Written
  pub version_is_one : (is_number version ≡ true) × (value_of version ≡ 1)
  pub spelled : texts ≡ codes "omptasks" ∷ version ∷ flat_map texts_of written
  pub forms : All HasForm written
  pub nested : EndBlocks written 0

-- pieces of their forms, whose blocks nest, are derived by the grammar
pub derived_of_written : (derived : List (List ℕ)) (written : List Written)
    → derived ≡ flat_map texts_of written
    → All HasForm written
    → EndBlocks written 0
    → IsDerived One derived
derived_of_written derived written same forms nested =
    derived_of_pieces One derived
    (record {
      pieces = loop_pieces written;
      texts_are = same ∙ sym (pieces_texts written);
      forms = pieces_forms written 0 forms nested;
    })
    (pieces_in_one written forms)

-- and each sentence is the header and such pieces
pub written_of_sentence : (texts : List (List ℕ)) → IsSentence texts → IsWritten texts
written_of_sentence texts s =
    let derived = s.derived in
    let parts = tree_plain false [] derived.room derived.tokens derived.tree derived.spelled in
    record {
      version = s.version;
      written = parts.written;
      version_is_one = s.version_is_one;
      spelled = s.spelled
          ∙ ap (λ (body : List (List ℕ)). codes "omptasks" ∷ s.version ∷ body)
          (derived.texts_are ∙ parts.texts_are);
      forms = parts.forms;
      nested = subst (λ (all : List Written). EndBlocks all 0) (append-nil parts.written)
          (parts.nested [] 0 tt);
    }
