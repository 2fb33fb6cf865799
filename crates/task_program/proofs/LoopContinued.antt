-- Wherever the first pass stands, the grammar has something that goes on so.
use Rattle.std.proofs.Common.{◌≡◌, ℕ, zero, suc, ◌+◌, Bool, true, false, ◌&&◌, ◌||◌, cond, List, []}
use Rattle.std.proofs.Common.{◌∷◌, ◌++◌, append_assoc, length, ◌<◌, refl, sym, ap, subst, ◌∙◌}
use Rattle.std.proofs.Common.{arith, codes}
use Rattle.std.specs.Prelude.{sum_by}
use Rattle.std.specs.List.{flat_map, list_any, list_all}
use Rattle.std.specs.Str.{bytes_eq}
use Rattle.std.proofs.lemmas.List.Elements.{All-nil, All-cons}
use Rattle.std.proofs.lemmas.List.Sums.{sum_by-cons}
use Rattle.std.proofs.lemmas.Bool.{and_parts}
use Rattle.loop_text.specs.declared.loop_place.LoopPlace.{LoopPlace}
use Rattle.loop_text.specs.declared.loop_place.LoopPlace.TheVariants.{Statement, WorkNumber}
use Rattle.loop_text.specs.declared.loop_place.LoopPlace.TheVariants.{GroupBrace, ForVariable}
use Rattle.loop_text.specs.declared.loop_place.LoopPlace.TheVariants.{ForFrom, ForTo, ForBrace}
use Rattle.loop_text.specs.declared.loop_place.LoopPlace.TheVariants.{Clause, IfOpens, IfNumber}
use Rattle.loop_text.specs.declared.loop_place.LoopPlace.TheVariants.{IfCloses, FinalOpens}
use Rattle.loop_text.specs.declared.loop_place.LoopPlace.TheVariants.{FinalNumber, FinalCloses}
use Rattle.loop_text.specs.declared.loop_place.LoopPlace.TheVariants.{DependOpens, DependType}
use Rattle.loop_text.specs.declared.loop_place.LoopPlace.TheVariants.{DependColon, DependName}
use Rattle.loop_text.specs.declared.loop_place.LoopPlace.TheVariants.{Subscript, IndexStart}
use Rattle.loop_text.specs.declared.loop_place.LoopPlace.TheVariants.{IndexNumber, IndexSign}
use Rattle.loop_text.specs.declared.loop_place.LoopPlace.TheVariants.{IndexCloses, DependMore}
use Rattle.program_text.specs.declared.statement.DependKind.{DependKind}
use Rattle.program_text.specs.declared.statement.DependKind.TheVariants.{DependIn}
use Rattle.program_text.specs.Words.{is_text, is_word, is_number, type_word}
use Rattle.loop_text.specs.FirstPass.{ends_item}
use Rattle.loop_text.specs.LoopTokens.{is_plus_or_minus}
use Rattle.task_program.proofs.LoopPieces.{ItemWritten, LoopClause, index_texts, item_texts}
use Rattle.task_program.proofs.LoopPieces.{item_and_comma, clause_texts, HasNumberForm, IsWord}
use Rattle.task_program.proofs.LoopPieces.{IsVariableAround, IsNewVariable, HasItemForm}
use Rattle.task_program.proofs.LoopPieces.{HasLoopClauseForm, is_if, is_final}
use Rattle.task_program.proofs.LoopPieces.IndexWritten.{NumberIndex, MinusIndex, VariableIndex}
use Rattle.task_program.proofs.LoopPieces.IndexWritten.{SignIndex}
use Rattle.task_program.proofs.LoopPieces.ItemWritten.{PlainItem, IndexedItem}
use Rattle.task_program.proofs.LoopPieces.LoopClause.{DependClause}
use Rattle.task_program.proofs.LoopPieces.LoopPiece.{WorkPiece, GroupPiece, ForPiece, EndPiece}
use Rattle.task_program.proofs.FoundPlaces.{same_text}
use Rattle.task_program.proofs.Found.{type_is}
use Rattle.program_text.specs.Tokens.{is_run_byte}
use Rattle.task_program.proofs.ReadPieces.{not_none}
use Rattle.task_program.proofs.LoopShapes.{lead_item, Rest, ClausesRest, ItemsRest, OpenIndex}
use Rattle.task_program.proofs.LoopShapes.{FollowsAt, Follows, allowed_of, StepsBack, piece_rest}
use Rattle.task_program.proofs.LoopShapes.{statement_back, new_variable, if_back, final_back}
use Rattle.task_program.proofs.LoopShapes.{brace_back, clause_back}
use Rattle.task_program.proofs.LoopShapes.OpenIndex.{OpenMinus, OpenSign}
use Rattle.program_text.proofs.Bools.{or_true_right, or_true_left, bool_cases}

-- ---- items

-- a `depend` in front of further clauses
pub depend_texts : (items : List ItemWritten) (last clauses tail : List (List ℕ))
    → flat_map item_and_comma items ++ (last ++ codes ")" ∷ (clauses ++ tail))
    ≡ ((flat_map item_and_comma items ++ (last ++ codes ")" ∷ [])) ++ clauses) ++ tail
depend_texts items last clauses tail =
    let inside = flat_map item_and_comma items in
    sym (append_assoc (inside ++ (last ++ codes ")" ∷ [])) clauses tail
    ∙ append_assoc inside (last ++ codes ")" ∷ []) (clauses ++ tail)
    ∙ ap (λ (texts : List (List ℕ)). inside ++ texts)
    (append_assoc last (codes ")" ∷ []) (clauses ++ tail)))

-- a `depend` in front of items and further clauses
depend_clause : (kind : DependKind) (has_if has_final : Bool) (variables : List (List ℕ))
    (around : List (List (List ℕ)))
    (ts : List (List ℕ))
    → ItemsRest has_if has_final variables around ts
    → ClausesRest has_if has_final variables around
    (codes "depend" ∷ codes "(" ∷ type_word kind ∷ codes ":" ∷ ts)
depend_clause kind has_if has_final variables around ts n =
    let clause = DependClause kind n.items n.last in
    let clauses_after = n.rest in
    record {
      clauses = clause ∷ clauses_after.clauses;
      later = clauses_after.later;
      texts_are = ap (λ (texts : List (List ℕ)).
          codes "depend" ∷ codes "(" ∷ type_word kind ∷ codes ":" ∷ texts)
          (n.texts_are
          ∙ ap
          (λ (texts : List (List ℕ)).
          flat_map item_and_comma n.items ++ (item_texts n.last ++ codes ")" ∷ texts))
          clauses_after.texts_are
          ∙ depend_texts n.items (item_texts n.last) (flat_map clause_texts clauses_after.clauses)
          (codes "{" ∷ clauses_after.later));
      forms = All-cons (HasLoopClauseForm variables) clause clauses_after.clauses
          (n.forms, n.last_form)
          clauses_after.forms;
      one_if = omega (
        arith,
        clauses_after.one_if,
        sum_by-cons (λ (one : LoopClause). cond (is_if one) 1 0) clause clauses_after.clauses,
      );
      one_final = omega (
        arith,
        clauses_after.one_final,
        sum_by-cons (λ (one : LoopClause). cond (is_final one) 1 0) clause clauses_after.clauses,
      );
      rest = clauses_after.rest;
    }

-- the last item of a `depend` in front of further clauses
last_item : (has_if has_final : Bool) (variables : List (List ℕ)) (around : List (List (List ℕ)))
    (item : ItemWritten)
    (ts : List (List ℕ))
    → HasItemForm variables item
    → ClausesRest has_if has_final variables around ts
    → ItemsRest has_if has_final variables around (item_texts item ++ codes ")" ∷ ts)
last_item has_if has_final variables around item ts form
    c = record {
      items = [];
      last = item;
      later = ts;
      texts_are = refl;
      forms = All-nil (HasItemForm variables);
      last_form = form;
      rest = c;
    }

-- an item and a comma in front of further items
item_more : (has_if has_final : Bool) (variables : List (List ℕ)) (around : List (List (List ℕ)))
    (item : ItemWritten)
    (ts : List (List ℕ))
    → HasItemForm variables item
    → ItemsRest has_if has_final variables around ts
    → ItemsRest has_if has_final variables around (item_texts item ++ codes "," ∷ ts)
item_more has_if has_final variables around item ts form n =
    let after = flat_map item_and_comma n.items ++ (item_texts n.last ++ codes ")" ∷ n.later) in
    record {
      items = item ∷ n.items;
      last = n.last;
      later = n.later;
      texts_are = ap (λ (texts : List (List ℕ)). item_texts item ++ codes "," ∷ texts) n.texts_are
          ∙ sym (append_assoc (item_texts item) (codes "," ∷ []) after)
          ∙ sym (append_assoc (item_and_comma item) (flat_map item_and_comma n.items)
          (item_texts n.last ++ codes ")" ∷ n.later));
      forms = All-cons (HasItemForm variables) item n.items form n.forms;
      last_form = n.last_form;
      rest = n.rest;
    }

-- a `,` or `)` after an item
item_back : (kind : DependKind) (has_if has_final : Bool) (x : List ℕ) (variables : List (List ℕ))
    (around : List (List (List ℕ))) (text : List ℕ) (ts : List (List ℕ))
    → ends_item text ≡ true
    → Follows (lead_item kind has_if has_final x variables around text) ts → (item : ItemWritten) →
    HasItemForm variables item
    → ItemsRest has_if has_final variables around (item_texts item ++ text ∷ ts)
item_back kind has_if has_final x variables around text ts ends =
    bool_cases (is_text text (codes ","))
    (λ comma. rw comma (λ f.
    rw (same_text text (codes ",") comma)
    (λ item form. item_more has_if has_final variables around item ts form f)))
    (λ other. rw other (λ f. rw
    (same_text text (codes ")")
    (or_true_right (is_text text (codes ",")) (is_text text (codes ")")) ends other))
    (λ item form. last_item has_if has_final variables around item ts form f)))

subscript_back : (kind : DependKind) (has_if has_final : Bool) (x : List ℕ)
    (variables : List (List ℕ))
    (around : List (List (List ℕ))) (text : List ℕ) (ts : List (List ℕ))
    → StepsBack (Subscript kind) has_if has_final x variables around text ts
subscript_back kind has_if has_final x variables around text ts h =
    let allowed = allowed_of (Subscript kind) has_if has_final variables around text h in
    bool_cases (is_text text (codes "["))
    (λ opens. rw opens (λ f. rw (same_text text (codes "[") opens) f))
    (λ other. rw other (λ f. λ name word. item_back kind has_if has_final x variables around text ts
    (or_true_right (is_text text (codes "[")) (ends_item text) allowed other) f (PlainItem name)
    word))

start_variable : (variables : List (List ℕ)) (text : List ℕ)
    → (is_number text
    || (is_text text (codes "-") || (is_word text && list_any (bytes_eq text) variables)))
    ≡ true
    → is_number text ≡ false → is_text text (codes "-") ≡ false → IsVariableAround variables text
start_variable variables text h no_number no_minus =
    let both : (is_word text && list_any (bytes_eq text) variables) ≡ true = or_true_right
    (is_text text (codes "-")) _ (or_true_right (is_number text) _ h no_number) no_minus in
    ((and_parts (is_word text) _ both).0, (and_parts (is_word text) _ both).1)

-- the first token of an index, in front of the rest
start_back : (kind : DependKind) (has_if has_final : Bool) (x : List ℕ) (variables : List (List ℕ))
    (around : List (List (List ℕ))) (text : List ℕ) (ts : List (List ℕ))
    → StepsBack (IndexStart kind) has_if has_final x variables around text ts
start_back kind has_if has_final x variables around text ts h =
    let allowed = allowed_of (IndexStart kind) has_if has_final variables around text h in
    bool_cases (is_number text)
    (λ number. rw number (λ f. λ name word. f name word (NumberIndex text) number))
    (λ no_number. bool_cases (is_text text (codes "-"))
    (λ minus. rw (
      no_number,
      minus,
    ) (λ f. rw (same_text text (codes "-") minus)
    (λ name word. f name word (codes "-" ∷ []) (OpenMinus variables))))
    (λ no_minus. rw (no_number, no_minus)
    (λ f. λ name word. f name word text (start_variable variables text allowed no_number
    no_minus))))

-- the number of an index, in front of the rest
number_back : (kind : DependKind) (has_if has_final : Bool) (x : List ℕ) (variables : List (List ℕ))
    (around : List (List (List ℕ))) (text : List ℕ) (ts : List (List ℕ))
    → HasNumberForm text
    → FollowsAt (IndexCloses kind) has_if has_final x variables around ts
    → (name : List ℕ)
    → IsWord name
    → (before : List (List ℕ))
    → OpenIndex variables before
    → ItemsRest has_if has_final variables around (name ∷ codes "[" ∷ (before ++ text ∷ ts))
number_back kind has_if has_final x variables around text ts number f name word before (OpenMinus _)
    =
    f name word (MinusIndex text) number
number_back kind has_if has_final x variables around text ts number f name word before
    (OpenSign _ variable sign known sign_is) =
    f name word (SignIndex variable sign text) (known, sign_is, number)

sign_back : (kind : DependKind) (has_if has_final : Bool) (x : List ℕ) (variables : List (List ℕ))
    (around : List (List (List ℕ))) (text : List ℕ) (ts : List (List ℕ))
    → StepsBack (IndexSign kind) has_if has_final x variables around text ts
sign_back kind has_if has_final x variables around text ts h =
    let allowed = allowed_of (IndexSign kind) has_if has_final variables around text h in
    bool_cases (is_text text (codes "]"))
    (λ closes. rw closes (λ f. rw (same_text text (codes "]") closes)
    (λ name word variable known. f (IndexedItem name (VariableIndex variable)) (word, known))))
    (λ other. rw other (λ f. λ name word variable known. f name word (variable ∷ text ∷ [])
    (OpenSign variables variable text known
    (or_true_left (is_plus_or_minus text) (is_text text (codes "]")) allowed other))))

closes_back : (kind : DependKind) (has_if has_final : Bool) (x : List ℕ) (variables : List (List ℕ))
    (around : List (List (List ℕ))) (ts : List (List ℕ))
    → FollowsAt (DependMore kind) has_if has_final x variables around ts
    → FollowsAt (IndexCloses kind) has_if has_final x variables around (codes "]" ∷ ts)
closes_back kind has_if has_final x variables around ts f = λ name word index form.
    subst (λ (texts : List (List ℕ)). ItemsRest has_if has_final variables around (name ∷ codes "["
    ∷ texts))
    (append_assoc (index_texts index) (codes "]" ∷ []) ts) (f (IndexedItem name index) (word, form))

-- at every place: an allowed token goes in front of what follows it
pub steps_back : (place : LoopPlace) (has_if has_final : Bool) (x : List ℕ)
    (variables : List (List ℕ))
    (around : List (List (List ℕ))) (text : List ℕ) (ts : List (List ℕ))
    → StepsBack place has_if has_final x variables around text ts
steps_back Statement has_if has_final x variables around text ts h f = statement_back has_if
    has_final x variables around text ts h f
steps_back WorkNumber has_if has_final x variables around text ts h f =
    piece_rest variables around variables around (WorkPiece text) ts (λ pieces forms. (h, forms)) f
steps_back GroupBrace has_if has_final x variables around text ts h f =
    rw (same_text text (codes "{") h)
    (piece_rest variables around variables (variables ∷ around) GroupPiece ts
    (λ pieces forms. forms) f)
steps_back ForVariable has_if has_final x variables around text ts h f = f
    (new_variable variables text h)
steps_back ForFrom has_if has_final x variables around text ts h f = λ new_one. f new_one text h
steps_back ForTo has_if has_final x variables around text ts h f =
    λ new_one first first_number. f new_one first text first_number h
steps_back ForBrace has_if has_final x variables around text ts h f = λ new_one first last
    first_number last_number.
    rw (same_text text (codes "{") h) (piece_rest variables around (x ∷ variables) (variables ∷
    around) (ForPiece x first last)
    ts (λ pieces forms. (new_one, first_number, last_number, forms)) f)
steps_back Clause has_if has_final x variables around text ts h f = clause_back has_if has_final x
    variables around text ts h f
steps_back IfNumber has_if has_final x variables around text ts h f = f text h
steps_back IfCloses has_if has_final x variables around text ts h f =
    rw (same_text text (codes ")") h) (if_back has_if has_final variables around ts f)
steps_back FinalNumber has_if has_final x variables around text ts h f = f text h
steps_back FinalCloses has_if has_final x variables around text ts h f =
    rw (same_text text (codes ")") h) (final_back has_if has_final variables around ts f)
steps_back DependType has_if has_final x variables around text ts h f =
    subst (λ (t : List ℕ). ClausesRest has_if has_final variables around (codes "depend" ∷ codes "("
    ∷ t ∷ ts))
    (sym (type_is text h)) f
steps_back (DependColon kind) has_if has_final x variables around text ts h f =
    rw (same_text text (codes ":") h) (depend_clause kind has_if has_final variables around ts f)
steps_back (DependName kind) has_if has_final x variables around text ts h f = f text h
steps_back (Subscript kind) has_if has_final x variables around text ts h f =
    subscript_back kind has_if has_final x variables around text ts h f
steps_back (IndexStart kind) has_if has_final x variables around text ts h f = start_back kind
    has_if has_final x variables around text ts h f
steps_back (IndexNumber kind) has_if has_final x variables around text ts h f = number_back kind
    has_if has_final x variables around text ts h f
steps_back (IndexSign kind) has_if has_final x variables around text ts h f = sign_back kind has_if
    has_final x variables around text ts h f
steps_back (IndexCloses kind) has_if has_final x variables around text ts h f =
    rw (same_text text (codes "]") h) (closes_back kind has_if has_final x variables around ts f)
steps_back (DependMore kind) has_if has_final x variables around text ts h f = item_back kind has_if
    has_final x variables around text ts h f
steps_back _ has_if has_final x variables around text ts h f = rw
    (same_text text (codes "(") h) f

-- ---- a word that is no variable yet

letters : ℕ → List ℕ
letters zero = []
letters (suc n) = 120 ∷ letters n

letters_long : (n : ℕ) → length (letters n) ≡ n
unfolding letters
letters_long zero = refl
letters_long (suc n) = ap suc (letters_long n)

letters_run : (n : ℕ) → list_all is_run_byte (letters n) ≡ true
unfolding letters
letters_run zero = refl
letters_run (suc n) = letters_run n

letters_word : (n : ℕ) → is_word (120 ∷ letters n) ≡ true
letters_word n = rw (not_none (length (letters n)), letters_run n) refl

longer_apart : (text : List ℕ) (others : List (List ℕ)) → sum_by length others < length text
    → list_any (bytes_eq text) others ≡ false
longer_apart text [] h = refl
longer_apart text (other ∷ others) h =
    let total : sum_by length (other ∷ others) ≡ length other + sum_by length others =
    sum_by-cons length other others in
    bool_cases (bytes_eq text other)
    (λ same. absurd (let long : length text
    ≡ length other = ap length (same_text text other same) in omega (arith, total, long, h)))
    (λ apart. rw apart (longer_apart text others (omega (arith, total, h))))

new_word : (variables : List (List ℕ)) → (text : List ℕ) × IsNewVariable variables text
new_word variables =
    let size = sum_by length variables in
    let long : length (120 ∷ letters size) ≡ suc size = ap suc (letters_long size) in (
      120 ∷ letters size,
      (
        letters_word size,
        longer_apart (120 ∷ letters size) variables (omega (
          arith,
          long,
        )),
      ),
    )

-- ---- wherever the first pass stands, the grammar has something

abbrev Continued : LoopPlace → Bool → Bool → List ℕ → List (List ℕ) → List (List (List ℕ)) → Type 0
Continued place has_if has_final x variables around = (ts : List (List ℕ)) × FollowsAt place has_if
    has_final x variables around ts

pub nothing_follows : (has_if has_final : Bool) (x : List ℕ) (variables : List (List ℕ))
    → FollowsAt Statement has_if has_final x variables [] []
nothing_follows has_if has_final x variables = record { pieces = []; texts_are = refl; forms = tt }

statement_continued : (variables : List (List ℕ)) (around : List (List (List ℕ)))
    → (ts : List (List ℕ)) × Rest variables around ts
statement_continued variables [] = ([], nothing_follows false false [] variables)
statement_continued variables (outer ∷ around) =
    let later = statement_continued outer around in (
      codes "}" ∷ later.0,
      piece_rest variables (outer ∷ around) outer around EndPiece later.0 (λ pieces forms. forms)
          later.1,
    )

clause_continued : (has_if has_final : Bool) (variables : List (List ℕ))
    (around : List (List (List ℕ)))
    → (ts : List (List ℕ)) × ClausesRest has_if has_final variables around ts
clause_continued has_if has_final variables around =
    let later = statement_continued variables (variables ∷ around) in
    (codes "{" ∷ later.0, brace_back has_if has_final variables around later.0 later.1)

if_closes_continued : (has_if has_final : Bool) (x : List ℕ) (variables : List (List ℕ))
    (around : List (List (List ℕ)))
    → Continued IfCloses has_if has_final x variables around
if_closes_continued has_if has_final x variables around =
    let later = clause_continued has_if has_final variables around in
    (codes ")" ∷ later.0, if_back has_if has_final variables around later.0 later.1)

if_number_continued : (has_if has_final : Bool) (x : List ℕ) (variables : List (List ℕ))
    (around : List (List (List ℕ)))
    → Continued IfNumber has_if has_final x variables around
if_number_continued has_if has_final x variables around =
    let later = if_closes_continued true has_final x variables around in
    (codes "0" ∷ later.0, later.1 (codes "0") refl)

final_closes_continued : (has_if has_final : Bool) (x : List ℕ) (variables : List (List ℕ))
    (around : List (List (List ℕ)))
    → Continued FinalCloses has_if has_final x variables around
final_closes_continued has_if has_final x variables around =
    let later = clause_continued has_if has_final variables around in
    (codes ")" ∷ later.0, final_back has_if has_final variables around later.0 later.1)

final_number_continued : (has_if has_final : Bool) (x : List ℕ) (variables : List (List ℕ))
    (around : List (List (List ℕ)))
    → Continued FinalNumber has_if has_final x variables around
final_number_continued has_if has_final x variables around =
    let later = final_closes_continued has_if true x variables around in
    (codes "0" ∷ later.0, later.1 (codes "0") refl)

more_continued : (kind : DependKind) (has_if has_final : Bool) (x : List ℕ)
    (variables : List (List ℕ))
    (around : List (List (List ℕ)))
    → Continued (DependMore kind) has_if has_final x variables around
more_continued kind has_if has_final x variables around =
    let later = clause_continued has_if has_final variables around in (
      codes ")" ∷ later.0,
      λ item form. last_item has_if has_final variables around item later.0 form
          later.1,
    )

closes_continued : (kind : DependKind) (has_if has_final : Bool) (x : List ℕ)
    (variables : List (List ℕ))
    (around : List (List (List ℕ)))
    → Continued (IndexCloses kind) has_if has_final x variables around
closes_continued kind has_if has_final x variables around =
    let later = more_continued kind has_if has_final x variables around in
    (codes "]" ∷ later.0, closes_back kind has_if has_final x variables around later.0 later.1)

subscript_continued : (kind : DependKind) (has_if has_final : Bool) (x : List ℕ)
    (variables : List (List ℕ))
    (around : List (List (List ℕ)))
    → Continued (Subscript kind) has_if has_final x variables around
subscript_continued kind has_if has_final x variables around =
    let later = clause_continued has_if has_final variables around in (
      codes ")" ∷ later.0,
      λ name word. last_item has_if has_final variables around (PlainItem name)
          later.0 word later.1,
    )

name_continued : (kind : DependKind) (has_if has_final : Bool) (x : List ℕ)
    (variables : List (List ℕ))
    (around : List (List (List ℕ)))
    → Continued (DependName kind) has_if has_final x variables around
name_continued kind has_if has_final x variables around =
    let later = subscript_continued kind has_if has_final x variables around in
    (codes "x" ∷ later.0, later.1 (codes "x") refl)

colon_continued : (kind : DependKind) (has_if has_final : Bool) (x : List ℕ)
    (variables : List (List ℕ))
    (around : List (List (List ℕ)))
    → Continued (DependColon kind) has_if has_final x variables around
colon_continued kind has_if has_final x variables around =
    let later = name_continued kind has_if has_final x variables around in
    (codes ":" ∷ later.0, depend_clause kind has_if has_final variables around later.0 later.1)

type_continued : (has_if has_final : Bool) (x : List ℕ) (variables : List (List ℕ))
    (around : List (List (List ℕ)))
    → Continued DependType has_if has_final x variables around
type_continued has_if has_final x variables around =
    let later = colon_continued DependIn has_if has_final x variables around in
    (codes "in" ∷ later.0, later.1)

for_brace_continued : (has_if has_final : Bool) (x : List ℕ) (variables : List (List ℕ))
    (around : List (List (List ℕ)))
    → Continued ForBrace has_if has_final x variables around
for_brace_continued has_if has_final x variables around =
    let later = statement_continued (x ∷ variables) (variables ∷ around) in (
      codes "{"
          ∷ later.0,
      λ new_one first last first_number last_number. piece_rest variables around (x ∷ variables)
          (variables ∷ around)
          (ForPiece x first last) later.0
          (λ pieces forms. (new_one, first_number, last_number, forms))
          later.1,
    )

for_to_continued : (has_if has_final : Bool) (x : List ℕ) (variables : List (List ℕ))
    (around : List (List (List ℕ)))
    → Continued ForTo has_if has_final x variables around
for_to_continued has_if has_final x variables around =
    let later = for_brace_continued has_if has_final x variables around in (
      codes "0" ∷ later.0,
      λ new_one first first_number. later.1 new_one first (codes "0") first_number refl,
    )

for_from_continued : (has_if has_final : Bool) (x : List ℕ) (variables : List (List ℕ))
    (around : List (List (List ℕ)))
    → Continued ForFrom has_if has_final x variables around
for_from_continued has_if has_final x variables around =
    let later = for_to_continued has_if has_final x variables around in
    (codes "0" ∷ later.0, λ new_one. later.1 new_one (codes "0") refl)

for_variable_continued : (has_if has_final : Bool) (x : List ℕ) (variables : List (List ℕ))
    (around : List (List (List ℕ)))
    → Continued ForVariable has_if has_final x variables around
for_variable_continued has_if has_final x variables around =
    let word = new_word variables in
    let later = for_from_continued has_if has_final word.0 variables around in
    (word.0 ∷ later.0, later.1 word.1)

-- the words that may close a text from here on
pub may_continue : (place : LoopPlace) (has_if has_final : Bool) (x : List ℕ)
    (variables : List (List ℕ))
    (around : List (List (List ℕ)))
    → Continued place has_if has_final x variables around
may_continue Statement has_if has_final x variables around = statement_continued variables around
may_continue WorkNumber has_if has_final x variables around =
    let later = statement_continued variables around in (
      codes "0" ∷ later.0,
      piece_rest variables around variables around (WorkPiece (codes "0")) later.0
          (λ pieces forms. (refl, forms))
          later.1,
    )
may_continue GroupBrace has_if has_final x variables around =
    let later = statement_continued variables (variables ∷ around) in (
      codes "{" ∷ later.0,
      piece_rest variables around variables (variables ∷ around) GroupPiece later.0
          (λ pieces forms. forms) later.1,
    )
may_continue ForVariable has_if has_final x variables around = for_variable_continued has_if
    has_final x variables around
may_continue ForFrom has_if has_final x variables around = for_from_continued has_if has_final x
    variables around
may_continue ForTo has_if has_final x variables around = for_to_continued has_if has_final x
    variables around
may_continue ForBrace has_if has_final x variables around = for_brace_continued has_if has_final x
    variables around
may_continue Clause has_if has_final x variables around = clause_continued has_if has_final
    variables around
may_continue IfOpens has_if has_final x variables around =
    let later = if_number_continued has_if has_final x variables around in
    (codes "(" ∷ later.0, later.1)
may_continue IfNumber has_if has_final x variables around = if_number_continued has_if has_final x
    variables around
may_continue IfCloses has_if has_final x variables around = if_closes_continued has_if has_final x
    variables around
may_continue FinalOpens has_if has_final x variables around =
    let later = final_number_continued has_if has_final x variables around in
    (codes "(" ∷ later.0, later.1)
may_continue FinalNumber has_if has_final x variables around = final_number_continued has_if
    has_final x variables around
may_continue FinalCloses has_if has_final x variables around = final_closes_continued has_if
    has_final x variables around
may_continue DependOpens has_if has_final x variables around =
    let later = type_continued has_if has_final x variables around in (codes "(" ∷ later.0, later.1)
may_continue DependType has_if has_final x variables around = type_continued has_if has_final x
    variables around
may_continue (DependColon kind) has_if has_final x variables around = colon_continued kind has_if
    has_final x variables around
may_continue (DependName kind) has_if has_final x variables around = name_continued kind has_if
    has_final x variables around
may_continue (Subscript kind) has_if has_final x variables around = subscript_continued kind has_if
    has_final x variables around
may_continue (IndexStart kind) has_if has_final x variables around =
    let later = closes_continued kind has_if has_final x variables around in
    (codes "0" ∷ later.0, λ name word. later.1 name word (NumberIndex (codes "0")) refl)
may_continue (IndexNumber kind) has_if has_final x variables around =
    let later = closes_continued kind has_if has_final x variables around in (
      codes "0" ∷ later.0,
      number_back kind has_if has_final x variables around (codes "0") later.0
          refl later.1,
    )
may_continue (IndexSign kind) has_if has_final x variables around =
    let later = more_continued kind has_if has_final x variables around in (
      codes "]" ∷ later.0,
      λ name word variable known. later.1 (IndexedItem name (VariableIndex variable)) (word, known),
    )
may_continue (IndexCloses kind) has_if has_final x variables around = closes_continued kind has_if
    has_final x variables around
may_continue (DependMore kind) has_if has_final x variables around = more_continued kind has_if
    has_final x variables around
