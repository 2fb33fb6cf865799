-- What is spelled by the grammar of version 2 is written in pieces.
use Rattle.std.proofs.Common.{◌≡◌, ℕ, suc, ◌+◌, ◌≤◌, Bool, true, false, cond, List, [], ◌∷◌, ◌++◌}
use Rattle.std.proofs.Common.{append_assoc, append-nil, Some, None, refl, sym, ap, subst, ◌∙◌, arith}
use Rattle.std.proofs.Common.{codes}
use Rattle.std.specs.Prelude.{All, count_by}
use Rattle.std.specs.List.{flat_map, list_any}
use Rattle.std.specs.Str.{bytes_eq}
use Rattle.std.proofs.lemmas.List.{map-append}
use Rattle.std.proofs.lemmas.Grind.{flat_map-append}
use Rattle.std.proofs.lemmas.List.Elements.{All-nil, All-cons, All-append}
use Rattle.std.proofs.lemmas.List.Sums.{sum_by-append}
use Rattle.program_text.specs.declared.statement.DependKind.{DependKind}
use Rattle.loop_text.specs.declared.loops.Index.{Index}
use Rattle.loop_text.specs.declared.loops.LoopItem.{LoopItem}
use Rattle.loop_text.specs.declared.loop_reader.LoopHead.{LoopHead}
use Rattle.loop_text.specs.declared.open_loops.LoopOpening.{LoopOpening}
use Rattle.program_text.specs.Tokens.{Token, texts}
use Rattle.program_text.specs.Words.{type_word}
use Rattle.loop_text.specs.Loops.{Tree}
use Rattle.loop_text.specs.OpenBlocks.{variables_around, variable_number}
use Rattle.task_program.specs.declared.version.Version.TheVariants.{Two}
use Rattle.task_program.specs.Grammar.{IndexSpelled, ItemSpelled, ItemsSpelled, ClausesSpelled}
use Rattle.task_program.specs.Grammar.{OpeningSpelled, Spelled}
use Rattle.task_program.specs.Grammar.IndexSpelled.{Number, Minus, Variable, Moved}
use Rattle.task_program.specs.Grammar.ItemSpelled.{Plain, Indexed}
use Rattle.task_program.specs.Grammar.ItemsSpelled.{First, More}
use Rattle.task_program.specs.Grammar.ClausesSpelled.{NoClause, If, Final, Depend}
use Rattle.task_program.specs.Grammar.OpeningSpelled.{Group, Task, For}
use Rattle.task_program.specs.Grammar.Spelled.{Nothing, Work, Wait, Block}
use Rattle.task_program.specs.FirstLoopFault.{IsLoopSentence}
use Rattle.task_program.proofs.LoopPieces.{IndexWritten, ItemWritten, LoopClause, LoopPiece}
use Rattle.task_program.proofs.LoopPieces.{index_texts, item_texts, item_and_comma, clause_texts}
use Rattle.task_program.proofs.LoopPieces.{piece_texts, HasIndexForm, HasItemForm}
use Rattle.task_program.proofs.LoopPieces.{HasLoopClauseForm, HaveLoopForms, is_if, is_final}
use Rattle.task_program.proofs.LoopPieces.IndexWritten.{NumberIndex, MinusIndex, VariableIndex}
use Rattle.task_program.proofs.LoopPieces.IndexWritten.{SignIndex}
use Rattle.task_program.proofs.LoopPieces.ItemWritten.{PlainItem, IndexedItem}
use Rattle.task_program.proofs.LoopPieces.LoopClause.{IfClause, FinalClause, DependClause}
use Rattle.task_program.proofs.LoopPieces.LoopPiece.{WorkPiece, TaskPiece, WaitPiece, GroupPiece}
use Rattle.task_program.proofs.LoopPieces.LoopPiece.{ForPiece, EndPiece}
use Rattle.task_program.proofs.LoopShapes.{Rest}

pub texts_append : (one other : List Token) → texts (one ++ other) ≡ texts one ++ texts other
texts_append one other = map-append (λ (token : Token). token.text) one other

-- ---- items

some_found : (found : Bool) (number n : ℕ) → cond found (Some number) None ≡ Some n → found ≡ true
some_found true number n h = refl
some_found false number n h = absurd cc

pub around_us : (variables : List (List ℕ)) (text : List ℕ) (n : ℕ)
    → variable_number variables text ≡ Some n
    → list_any (bytes_eq text) variables ≡ true
around_us variables text n h = some_found (list_any (bytes_eq text) variables) _ n h

record IndexParts (variables : List (List ℕ)) (tokens : List Token) : Type 0 where
  pub index : IndexWritten
  pub texts_are : texts tokens ≡ index_texts index
  pub form : HasIndexForm variables index

index_parts : (variables : List (List ℕ)) (tokens : List Token) (index : Index)
    → IndexSpelled variables tokens index
    → IndexParts variables tokens
index_parts _ _ _ (Number variables number is) = record {
  index = NumberIndex number.text;
  texts_are = refl;
  form = is;
}
index_parts _ _ _ (Minus variables minus number is_minus is) = record {
  index = MinusIndex number.text;
  texts_are = rw is_minus refl;
  form = is;
}
index_parts _ _ _ (Variable variables word n is) = record {
  index = VariableIndex word.text;
  texts_are = refl;
  form = (is.0, around_us variables word.text n is.1);
}
index_parts _ _ _ (Moved variables word plus number n false is is_plus is_num) = record {
  index = SignIndex word.text plus.text number.text;
  texts_are = refl;
  form = ((is.0, around_us variables word.text n is.1), rw is_plus refl, is_num);
}
index_parts _ _ _ (Moved variables word minus number n true is is_minus is_num) = record {
  index = SignIndex word.text minus.text number.text;
  texts_are = refl;
  form = ((is.0, around_us variables word.text n is.1), rw is_minus refl, is_num);
}

record ItemParts (variables : List (List ℕ)) (tokens : List Token) : Type 0 where
  pub item : ItemWritten
  pub texts_are : texts tokens ≡ item_texts item
  pub form : HasItemForm variables item

item_parts : (variables : List (List ℕ)) (kind : DependKind) (tokens : List Token) (item : LoopItem)
    → ItemSpelled Two variables kind tokens item
    → ItemParts variables tokens
item_parts _ _ _ _ (Plain variables kind name word) = record {
  item = PlainItem name.text;
  texts_are = refl;
  form = word;
}
item_parts _ _ _ _ (Indexed variables kind name opens closes inside index two word is_open i is_close) =
    let parts = index_parts variables inside index i in
    record {
      item = IndexedItem name.text parts.index;
      texts_are = rw (is_open, texts_append inside (closes ∷ []), parts.texts_are, is_close) refl;
      form = (word, parts.form);
    }

record ItemsParts (variables : List (List ℕ)) (tokens : List Token) : Type 0 where
  pub items : List ItemWritten
  pub last : ItemWritten
  pub texts_are : texts tokens ≡ flat_map item_and_comma items ++ item_texts last
  pub forms : All (HasItemForm variables) items
  pub last_form : HasItemForm variables last

items_parts : (variables : List (List ℕ)) (kind : DependKind) (tokens : List Token)
    (items : List LoopItem)
    → ItemsSpelled Two variables kind tokens items
    → ItemsParts variables tokens
items_parts _ _ _ _ (First variables kind tokens item i) =
    let parts = item_parts variables kind tokens item i in
    record {
      items = [];
      last = parts.item;
      texts_are = parts.texts_are;
      forms = All-nil (HasItemForm variables);
      last_form = parts.form;
    }
items_parts _ _ _ _ (More variables kind before tokens comma items item all is_comma i) =
    let earlier = items_parts variables kind before items all in
    let parts = item_parts variables kind tokens item i in
    record {
      items = earlier.items ++ earlier.last ∷ [];
      last = parts.item;
      texts_are = texts_append before (comma ∷ tokens)
          ∙ rw (earlier.texts_are, is_comma, parts.texts_are)
          (simp (flat_map-append, append_assoc));
      forms = All-append (HasItemForm variables) earlier.items (earlier.last ∷ []) earlier.forms
          (All-cons (HasItemForm variables) earlier.last [] earlier.last_form
          (All-nil (HasItemForm variables)));
      last_form = parts.form;
    }

-- ---- clauses

abbrev if_weight : LoopClause → ℕ
if_weight clause = cond (is_if clause) 1 0

abbrev final_weight : LoopClause → ℕ
final_weight clause = cond (is_final clause) 1 0

record ClausesParts (variables : List (List ℕ)) (tokens : List Token) (head : LoopHead)
    : Type 0 where
  pub clauses : List LoopClause
  pub texts_are : texts tokens ≡ flat_map clause_texts clauses
  pub forms : All (HasLoopClauseForm variables) clauses
  pub ifs : count_by is_if clauses ≤ cond head.has_if 1 0
  pub finals : count_by is_final clauses ≤ cond head.has_final 1 0

-- clauses with one more behind them
clause_more : (variables : List (List ℕ)) (before tokens : List Token) (head next : LoopHead)
    (clause : LoopClause)
    → ClausesParts variables before head
    → texts tokens ≡ clause_texts clause
    → HasLoopClauseForm variables clause
    → cond head.has_if 1 0 + if_weight clause ≤ cond next.has_if 1 0
    → cond head.has_final 1 0 + final_weight clause ≤ cond next.has_final 1 0
    → ClausesParts variables (before ++ tokens) next
clause_more variables before tokens head next clause parts same form one_if one_final = record {
  clauses = parts.clauses ++ clause ∷ [];
  texts_are = texts_append before tokens
      ∙ rw (parts.texts_are, same, flat_map-append)
      (ap (λ (ts : List (List ℕ)). flat_map clause_texts parts.clauses ++ ts)
      (sym (append-nil (clause_texts clause))));
  forms = All-append (HasLoopClauseForm variables) parts.clauses (clause ∷ []) parts.forms
      (All-cons (HasLoopClauseForm variables) clause [] form
      (All-nil (HasLoopClauseForm variables)));
  ifs = omega (arith, parts.ifs, one_if, sum_by-append if_weight parts.clauses (clause ∷ []));
  finals = omega (
    arith,
    parts.finals,
    one_final,
    sum_by-append final_weight parts.clauses (clause ∷ []),
  );
}

depend_texts : (type : DependKind) (before last : List (List ℕ))
    → codes "depend" ∷ codes "(" ∷ type_word type ∷ codes ":" ∷ ((before ++ last) ++ codes ")" ∷ [])
    ≡ codes "depend" ∷ codes "(" ∷ type_word type ∷ codes ":" ∷ (before ++ (last ++ codes ")" ∷ []))
depend_texts type before last =
    ap (λ (inside : List (List ℕ)). codes "depend" ∷ codes "(" ∷ type_word type
    ∷ codes ":" ∷ inside) (append_assoc before last (codes ")" ∷ []))

clauses_parts : (variables : List (List ℕ)) (tokens : List Token) (head : LoopHead)
    → ClausesSpelled Two false variables tokens head
    → ClausesParts variables tokens head
clauses_parts _ _ _ (NoClause variables) = record {
  clauses = [];
  texts_are = refl;
  forms = All-nil (HasLoopClauseForm variables);
  ifs = omega arith;
  finals = omega arith;
}
clauses_parts _ _ _
    (If variables before word opens number closes head c no_such is_word is_open is_num is_close) =
    clause_more variables before (word ∷ opens ∷ number ∷ closes ∷ []) head _
    (IfClause number.text) (clauses_parts variables before head c)
    (rw (is_word, is_open, is_close) refl) is_num.is_number (rw no_such (omega arith)) (omega arith)
clauses_parts _ _ _
    (Final variables before word opens number closes head two c no_such is_word is_open is_num is_close)
    =
    clause_more variables before (word ∷ opens ∷ number ∷ closes ∷ []) head _
    (FinalClause number.text) (clauses_parts variables before head c)
    (rw (is_word, is_open, is_close) refl) is_num.is_number (omega arith) (rw no_such (omega arith))
clauses_parts _ _ _
    (Depend variables before inside word opens kind colon closes type head items c is_word is_open
    is_kind is_colon all is_close) =
    let parts = items_parts variables type inside items all in
    clause_more variables before (word ∷ opens ∷ kind ∷ colon ∷ (inside ++ closes ∷ [])) head _
    (DependClause type parts.items parts.last)
    (clauses_parts variables before head c)
    (rw (
      is_word,
      is_open,
      is_kind,
      is_colon,
      texts_append inside (closes ∷ []),
      parts.texts_are,
      is_close,
    )
    (depend_texts type (flat_map item_and_comma parts.items) (item_texts parts.last)))
    (parts.forms, parts.last_form) (omega arith) (omega arith)

-- ---- statements

record OpeningParts (variables : List (List ℕ)) (tokens : List Token) (opening : LoopOpening)
    : Type 0 where
  pub piece : LoopPiece
  pub texts_are : texts tokens ≡ piece_texts piece
  pub forms : (pieces : List LoopPiece) (around : List (List (List ℕ)))
      → HaveLoopForms pieces (variables_around opening variables) (variables ∷ around)
      → HaveLoopForms (piece ∷ pieces) variables around

pub at_most_one : (has : Bool) (n : ℕ) → n ≤ cond has 1 0 → n ≤ 1
at_most_one true n h = h
at_most_one false n h = omega (arith, h)

opening_parts : (variables : List (List ℕ)) (tokens : List Token) (opening : LoopOpening)
    → OpeningSpelled Two false variables tokens opening
    → OpeningParts variables tokens opening
opening_parts _ _ _ (Group variables word brace is_word is_brace) = record {
  piece = GroupPiece;
  texts_are = rw (is_word, is_brace) refl;
  forms = λ pieces around forms. forms;
}
opening_parts _ _ _ (Task variables clauses word brace head is_word c is_brace) =
    let parts = clauses_parts variables clauses head c in
    record {
      piece = TaskPiece parts.clauses;
      texts_are = rw (is_word, texts_append clauses (brace ∷ []), parts.texts_are, is_brace) refl;
      forms = λ pieces around forms. (
        (
          parts.forms,
          at_most_one head.has_if (count_by is_if parts.clauses) parts.ifs,
          at_most_one head.has_final (count_by is_final parts.clauses) parts.finals,
        ),
        forms,
      );
    }
opening_parts _ _ _
    (For variables word variable first last brace two is_for is_var is_new is_first is_last is_brace) =
    record {
      piece = ForPiece variable.text first.text last.text;
      texts_are = rw (is_for, is_brace) refl;
      forms = λ pieces around forms. (
        (is_var, is_new),
        is_first.is_number,
        is_last.is_number,
        forms,
      );
    }

-- statements, after which anything may stand
record TreeParts (variables : List (List ℕ)) (tokens : List Token) : Type 0 where
  pub pieces : List LoopPiece
  pub texts_are : texts tokens ≡ flat_map piece_texts pieces
  pub forms : (later : List LoopPiece) (around : List (List (List ℕ)))
      → HaveLoopForms later variables around
      → HaveLoopForms (pieces ++ later) variables around

-- statements with further pieces behind them
parts_more : (variables : List (List ℕ)) (before tokens : List Token) (pieces : List LoopPiece)
    → TreeParts variables before
    → texts tokens ≡ flat_map piece_texts pieces
    → ((later : List LoopPiece) (around : List (List (List ℕ)))
    → HaveLoopForms later variables around
    → HaveLoopForms (pieces ++ later) variables around)
    → TreeParts variables (before ++ tokens)
parts_more variables before tokens pieces parts same forms = record {
  pieces = parts.pieces ++ pieces;
  texts_are = texts_append before tokens
      ∙ rw (parts.texts_are, same) (sym (flat_map-append piece_texts parts.pieces pieces));
  forms = λ later around h. subst
      (λ (all : List LoopPiece). HaveLoopForms all variables around)
      (sym (append_assoc parts.pieces pieces later))
      (parts.forms (pieces ++ later) around (forms later around h));
}

tree_parts : (variables : List (List ℕ)) (room : ℕ) (tokens : List Token) (tree : Tree)
    → Spelled Two false variables room tokens tree
    → TreeParts variables tokens
tree_parts _ _ _ _ (Nothing variables room) = record {
  pieces = [];
  texts_are = refl;
  forms = λ later around h. h;
}
tree_parts _ _ _ _ (Work variables room before word number tree s is_word is_num) =
    parts_more variables before (word ∷ number ∷ []) (WorkPiece number.text ∷ [])
    (tree_parts variables room before tree s) (rw is_word refl)
    (λ later around h. (is_num.is_number, h))
tree_parts _ _ _ _ (Wait variables room before word tree s is_word) =
    parts_more variables before (word ∷ []) (WaitPiece ∷ [])
    (tree_parts variables room before tree s) (rw is_word refl) (λ later around h. h)
tree_parts _ _ _ _
    (Block variables room before opens inside closes opening tree body s o b is_close) =
    let first = opening_parts variables opens opening o in
    let parts = tree_parts (variables_around opening variables) room inside body b in
    let all = first.piece ∷ (parts.pieces ++ EndPiece ∷ []) in
    parts_more variables before (opens ++ (inside ++ closes ∷ [])) all
    (tree_parts variables (suc room) before tree s)
    (texts_append opens (inside ++ closes ∷ [])
    ∙ rw (first.texts_are, texts_append inside (closes ∷ []), parts.texts_are, is_close)
    (ap (λ (ts : List (List ℕ)). piece_texts first.piece ++ ts)
    (sym (flat_map-append piece_texts parts.pieces (EndPiece ∷ [])))))
    (λ later around h. first.forms ((parts.pieces ++ EndPiece ∷ []) ++ later) around
    (subst (λ (ps : List LoopPiece).
    HaveLoopForms ps (variables_around opening variables) (variables ∷ around))
    (sym (append_assoc parts.pieces (EndPiece ∷ []) later))
    (parts.forms (EndPiece ∷ later) (variables ∷ around) h)))

-- each sentence is pieces whose blocks nest
pub pieces_of_sentence : (derived : List (List ℕ)) → IsLoopSentence derived → Rest [] [] derived
pieces_of_sentence derived s =
    let parts = tree_parts [] s.room s.tokens s.tree s.spelled in
    record {
      pieces = parts.pieces;
      texts_are = s.texts_are ∙ parts.texts_are;
      forms = subst (λ (ps : List LoopPiece). HaveLoopForms ps [] [])
          (append-nil parts.pieces) (parts.forms [] [] tt);
    }
