-- Each sentence of version 2 is accepted token by token.
use Rattle.std.proofs.Common.{◌≡◌, ℕ, ◌+◌, ◌≤◌, Bool, true, false, not, ◌&&◌, ◌||◌, cond, List, []}
use Rattle.std.proofs.Common.{◌∷◌, ◌++◌, append_assoc, refl, sym, subst, ◌∙◌, arith, codes}
use Rattle.std.specs.Prelude.{All, count_by}
use Rattle.std.specs.List.{flat_map, list_any}
use Rattle.std.specs.Str.{bytes_eq}
use Rattle.std.proofs.lemmas.List.Elements.{All-head, All-tail}
use Rattle.std.proofs.lemmas.List.Sums.{sum_by-cons}
use Rattle.std.proofs.lemmas.Bool.{or_left, and_parts, and_from}
use Rattle.loop_text.specs.declared.loop_place.LoopPlace.{LoopPlace}
use Rattle.loop_text.specs.declared.loop_place.LoopPlace.TheVariants.{Statement, WorkNumber}
use Rattle.loop_text.specs.declared.loop_place.LoopPlace.TheVariants.{GroupBrace, ForVariable}
use Rattle.loop_text.specs.declared.loop_place.LoopPlace.TheVariants.{ForFrom, ForTo, ForBrace}
use Rattle.loop_text.specs.declared.loop_place.LoopPlace.TheVariants.{Clause, IfOpens, IfNumber}
use Rattle.loop_text.specs.declared.loop_place.LoopPlace.TheVariants.{IfCloses, FinalOpens}
use Rattle.loop_text.specs.declared.loop_place.LoopPlace.TheVariants.{FinalNumber, FinalCloses}
use Rattle.loop_text.specs.declared.loop_place.LoopPlace.TheVariants.{DependOpens, DependType}
use Rattle.loop_text.specs.declared.loop_place.LoopPlace.TheVariants.{DependColon, DependName}
use Rattle.loop_text.specs.declared.loop_place.LoopPlace.TheVariants.{Subscript, IndexStart}
use Rattle.loop_text.specs.declared.loop_place.LoopPlace.TheVariants.{IndexNumber, IndexSign}
use Rattle.loop_text.specs.declared.loop_place.LoopPlace.TheVariants.{IndexCloses, DependMore}
use Rattle.program_text.specs.declared.statement.DependKind.{DependKind}
use Rattle.program_text.specs.Words.{is_text, is_run, begins_with_digit, is_word, is_number}
use Rattle.program_text.specs.Words.{type_word, is_statement_word}
use Rattle.loop_text.specs.FirstPass.{ends_item}
use Rattle.loop_text.specs.LoopTokens.{is_plus_or_minus}
use Rattle.task_program.proofs.LoopPieces.{IndexWritten, ItemWritten, LoopClause, LoopPiece}
use Rattle.task_program.proofs.LoopPieces.{index_texts, item_texts, item_and_comma}
use Rattle.task_program.proofs.LoopPieces.{clause_texts, piece_texts, HasNumberForm, IsVariableAround}
use Rattle.task_program.proofs.LoopPieces.{HasIndexForm, HasItemForm, HasLoopClauseForm, is_if}
use Rattle.task_program.proofs.LoopPieces.{is_final, HaveLoopForms}
use Rattle.task_program.proofs.LoopPieces.IndexWritten.{NumberIndex, MinusIndex, VariableIndex}
use Rattle.task_program.proofs.LoopPieces.IndexWritten.{SignIndex}
use Rattle.task_program.proofs.LoopPieces.ItemWritten.{PlainItem, IndexedItem}
use Rattle.task_program.proofs.LoopPieces.LoopClause.{IfClause, FinalClause, DependClause}
use Rattle.task_program.proofs.LoopPieces.LoopPiece.{WorkPiece, TaskPiece, WaitPiece}
use Rattle.task_program.proofs.LoopPieces.LoopPiece.{GroupPiece, ForPiece, EndPiece}
use Rattle.task_program.specs.FirstLoopFault.{IsLoopSentence}
use Rattle.task_program.proofs.ReadPieces.{is_type_word, type_of_word}
use Rattle.task_program.proofs.Tallies.{other_text, no_digit}
use Rattle.task_program.proofs.LoopContinued.{depend_texts}
use Rattle.task_program.proofs.LoopShapes.{LoopShape, shape_at, fits_at, fits, lead_at, lead}
use Rattle.task_program.proofs.LoopShapes.{lead_item}
use Rattle.task_program.proofs.LoopSpelledPieces.{pieces_of_sentence}
use Rattle.task_program.proofs.Accepting.{word_fits}

abbrev pub is_whole : LoopPlace → List (List (List ℕ)) → Bool
is_whole Statement [] = true
is_whole Statement (outer ∷ around) = false
is_whole _ around = false

-- these tokens and no others are to come
unfoldable pub accepts : LoopShape → List (List ℕ) → Bool
accepts s [] = is_whole s.place s.around
accepts s (text ∷ texts) = fits s text && accepts (lead s text) texts

pub accepts_next : (s : LoopShape) (text : List ℕ) (texts : List (List ℕ))
    → accepts s (text ∷ texts) ≡ true
    → (fits s text ≡ true) × (accepts (lead s text) texts ≡ true)
unfolding accepts
accepts_next s text texts h = (
  (and_parts (fits s text) (accepts (lead s text) texts) h).0,
  (and_parts (fits s text) (accepts (lead s text) texts) h).1,
)

pub accepts_none : (s : LoopShape) → accepts s [] ≡ true → is_whole s.place s.around ≡ true
unfolding accepts
accepts_none s h = h

abbrev Accepted : LoopPlace → Bool → Bool → List ℕ → List (List ℕ) → List (List (List ℕ))
    → List (List ℕ) → Type 0
Accepted place has_if has_final x variables around ts = accepts
    (shape_at place has_if has_final x variables around) ts ≡ true

accepts_one_more : (place : LoopPlace) (has_if has_final : Bool) (x : List ℕ)
    (variables : List (List ℕ))
    (around : List (List (List ℕ))) (text : List ℕ) (ts : List (List ℕ))
    → fits_at place has_if has_final variables around text ≡ true
    → accepts (lead_at place has_if has_final x variables around text) ts ≡ true
    → Accepted place has_if has_final x variables around (text ∷ ts)
unfolding accepts
accepts_one_more place has_if has_final x variables around text ts h later =
    and_from (fits_at place has_if has_final variables around text)
    (accepts (lead_at place has_if has_final x variables around text) ts) h
    later

-- ---- items

-- the first token of an index: a number, or a variable
start_number : (kind : DependKind) (has_if has_final : Bool) (x : List ℕ)
    (variables : List (List ℕ))
    (around : List (List (List ℕ))) (text : List ℕ) (ts : List (List ℕ))
    → HasNumberForm text → Accepted (IndexCloses kind) has_if has_final x variables around ts
    → Accepted (IndexStart kind) has_if has_final x variables around (text ∷ ts)
start_number kind has_if has_final x variables around text ts number later =
    accepts_one_more (IndexStart kind) has_if has_final x variables around text ts (rw number refl)
    (rw number later)

start_variable : (kind : DependKind) (has_if has_final : Bool) (x : List ℕ)
    (variables : List (List ℕ))
    (around : List (List (List ℕ))) (text : List ℕ) (ts : List (List ℕ))
    → IsVariableAround variables text → Accepted (IndexSign kind) has_if has_final x variables around ts
    → Accepted (IndexStart kind) has_if has_final x variables around (text ∷ ts)
start_variable kind has_if has_final x variables around text ts known later =
    let no_number : is_number text ≡ false =
    no_digit (is_run text) (begins_with_digit text) _ known.0 in
    let no_minus : is_text text (codes "-") ≡ false =
    other_text is_word text (codes "-") known.0 refl in
    accepts_one_more (IndexStart kind) has_if has_final x variables around text ts
    (rw (no_number, no_minus, known.0, known.1) refl) (rw (no_number, no_minus) later)

-- an index is accepted up to its `]` where what follows is
index_accepted : (index : IndexWritten) (kind : DependKind) (has_if has_final : Bool) (x : List ℕ)
    (variables : List (List ℕ)) (around : List (List (List ℕ))) (ts : List (List ℕ))
    → HasIndexForm variables index
    → Accepted (DependMore kind) has_if has_final x variables around ts
    → Accepted (IndexStart kind) has_if has_final x variables around
    (index_texts index ++ codes "]" ∷ ts)
index_accepted (NumberIndex number) kind has_if has_final x variables around ts form later =
    start_number kind has_if has_final x variables around number (codes "]" ∷ ts) form
    (accepts_one_more (IndexCloses kind) has_if has_final x variables around (codes "]") ts refl
    later)
index_accepted (MinusIndex number) kind has_if has_final x variables around ts form later =
    accepts_one_more (IndexStart kind) has_if has_final x variables around (codes "-")
    (number ∷ codes "]" ∷ ts) refl
    (accepts_one_more (IndexNumber kind) has_if has_final x variables around number (codes "]" ∷ ts)
    form
    (accepts_one_more (IndexCloses kind) has_if has_final x variables around (codes "]") ts refl
    later))
index_accepted (VariableIndex variable) kind has_if has_final x variables around ts form later =
    start_variable kind has_if has_final x variables around variable (codes "]" ∷ ts) form
    (accepts_one_more (IndexSign kind) has_if has_final x variables around (codes "]") ts refl
    later)
index_accepted (SignIndex variable sign number) kind has_if has_final x variables around ts form
    later =
    let no_close : is_text sign (codes "]") ≡ false =
    other_text is_plus_or_minus sign (codes "]") form.1 refl in
    start_variable kind has_if has_final x variables around variable
    (sign ∷ number ∷ codes "]" ∷ ts) form.0
    (accepts_one_more (IndexSign kind) has_if has_final x variables around sign
    (number ∷ codes "]" ∷ ts)
    (or_left (is_plus_or_minus sign) (is_text sign (codes "]")) form.1) (rw no_close
    (accepts_one_more (IndexNumber kind) has_if has_final x variables around number (codes "]" ∷ ts)
    form.2
    (accepts_one_more (IndexCloses kind) has_if has_final x variables around (codes "]") ts refl
    later))))

-- an item, and what ends it
item_accepted : (item : ItemWritten) (ends : List ℕ) (kind : DependKind) (has_if has_final : Bool)
    (x : List ℕ)
    (variables : List (List ℕ)) (around : List (List (List ℕ))) (ts : List (List ℕ))
    → HasItemForm variables item → ends_item ends ≡ true → is_text ends (codes "[") ≡ false
    → accepts (lead_item kind has_if has_final x variables around ends) ts ≡ true
    → Accepted (DependName kind) has_if has_final x variables around (item_texts item ++ ends ∷ ts)
item_accepted (PlainItem name) ends kind has_if has_final x variables around ts form is_end no_opens
    later =
    accepts_one_more (DependName kind) has_if has_final x variables around name (ends ∷ ts) form
    (accepts_one_more (Subscript kind) has_if has_final x variables around ends ts
    (rw no_opens is_end)
    (rw no_opens later))
item_accepted (IndexedItem name index) ends kind has_if has_final x variables around ts form is_end
    no_opens later =
    let more : Accepted (DependMore kind) has_if has_final x variables around (ends ∷ ts) =
    accepts_one_more (DependMore kind) has_if has_final x variables around ends ts is_end later in
    accepts_one_more (DependName kind) has_if has_final x variables around name _ form.0
    (accepts_one_more (Subscript kind) has_if has_final x variables around (codes "[") _ refl
    (subst (λ (texts : List (List ℕ)). Accepted (IndexStart kind) has_if has_final x variables
    around texts)
    (sym (append_assoc (index_texts index) (codes "]" ∷ []) (ends ∷ ts)))
    (index_accepted index kind has_if has_final x variables around (ends ∷ ts) form.1 more)))

-- the items of a `depend`, with its `)`, are accepted where what follows is
items_accepted : (items : List ItemWritten) (last : ItemWritten) (kind : DependKind)
    (has_if has_final : Bool)
    (x : List ℕ) (variables : List (List ℕ)) (around : List (List (List ℕ))) (ts : List (List ℕ))
    → All (HasItemForm variables) items → HasItemForm variables last
    → Accepted Clause has_if has_final x variables around ts
    → Accepted (DependName kind) has_if has_final x variables around
    (flat_map item_and_comma items ++ (item_texts last ++ codes ")" ∷ ts))
items_accepted [] last kind has_if has_final x variables around ts forms last_form later =
    item_accepted last (codes ")") kind has_if has_final x variables around ts last_form refl refl
    later
items_accepted (item ∷ items) last kind has_if has_final x variables around ts forms last_form later
    =
    let others = items_accepted items last kind has_if has_final x variables around ts
    (All-tail (HasItemForm variables) item items forms) last_form later in
    let rest = flat_map item_and_comma items ++ (item_texts last ++ codes ")" ∷ ts) in
    let here : Accepted (DependName kind) has_if has_final x variables around
    (item_texts item ++ codes "," ∷ rest) = item_accepted
    item (codes ",") kind has_if has_final x variables around rest
    (All-head (HasItemForm variables) item items forms) refl refl
    others in
    subst (λ (texts : List (List ℕ)). Accepted (DependName kind) has_if has_final x variables around
    texts)
    (sym (append_assoc (item_and_comma item) (flat_map item_and_comma items)
    (item_texts last ++ codes ")" ∷ ts)
    ∙ append_assoc (item_texts item) (codes "," ∷ []) rest))
    here

-- ---- clauses

depend_accepted : (kind : DependKind) (has_if has_final : Bool) (x : List ℕ)
    (variables : List (List ℕ))
    (around : List (List (List ℕ))) (ts : List (List ℕ))
    → Accepted (DependName kind) has_if has_final x variables around ts
    → Accepted Clause has_if has_final x variables around
    (codes "depend" ∷ codes "(" ∷ type_word kind ∷ codes ":" ∷ ts)
depend_accepted kind has_if has_final x variables around ts later =
    let colon : Accepted (DependColon kind) has_if has_final x variables around (codes ":" ∷ ts) =
    accepts_one_more (DependColon kind) has_if has_final x variables around (codes ":") ts refl
    later in
    accepts_one_more Clause has_if has_final x variables around (codes "depend")
    (codes "(" ∷ type_word kind ∷ codes ":" ∷ ts) refl
    (accepts_one_more DependOpens has_if has_final x variables around (codes "(")
    (type_word kind ∷ codes ":" ∷ ts) refl
    (accepts_one_more DependType has_if has_final x variables around (type_word kind)
    (codes ":" ∷ ts) (is_type_word kind)
    (subst (λ (k : DependKind). Accepted (DependColon k) has_if has_final x variables around (codes
    ":" ∷ ts))
    (sym (type_of_word kind)) colon)))

if_accepted : (has_final : Bool) (x : List ℕ) (variables : List (List ℕ))
    (around : List (List (List ℕ)))
    (number : List ℕ) (ts : List (List ℕ))
    → HasNumberForm number → Accepted Clause true has_final x variables around ts
    → Accepted Clause false has_final x variables around
    (codes "if" ∷ codes "(" ∷ number ∷ codes ")" ∷ ts)
if_accepted has_final x variables around number ts h later =
    accepts_one_more Clause false has_final x variables around (codes "if")
    (codes "(" ∷ number ∷ codes ")" ∷ ts) refl
    (accepts_one_more IfOpens false has_final x variables around (codes "(")
    (number ∷ codes ")" ∷ ts) refl
    (accepts_one_more IfNumber false has_final x variables around number (codes ")" ∷ ts) h
    (accepts_one_more IfCloses true has_final x variables around (codes ")") ts refl later)))

final_fits : (has_if : Bool) (variables : List (List ℕ)) (around : List (List (List ℕ)))
    → fits_at Clause has_if false variables around (codes "final") ≡ true
final_fits true variables around = refl
final_fits false variables around = refl

final_accepted : (has_if : Bool) (x : List ℕ) (variables : List (List ℕ))
    (around : List (List (List ℕ)))
    (number : List ℕ) (ts : List (List ℕ))
    → HasNumberForm number → Accepted Clause has_if true x variables around ts
    → Accepted Clause has_if false x variables around
    (codes "final" ∷ codes "(" ∷ number ∷ codes ")" ∷ ts)
final_accepted has_if x variables around number ts h later =
    accepts_one_more Clause has_if false x variables around (codes "final")
    (codes "(" ∷ number ∷ codes ")" ∷ ts)
    (final_fits has_if variables around)
    (accepts_one_more FinalOpens has_if false x variables around (codes "(")
    (number ∷ codes ")" ∷ ts) refl
    (accepts_one_more FinalNumber has_if false x variables around number (codes ")" ∷ ts) h
    (accepts_one_more FinalCloses has_if true x variables around (codes ")") ts refl later)))

abbrev if_weight : LoopClause → ℕ
if_weight clause = cond (is_if clause) 1 0

abbrev final_weight : LoopClause → ℕ
final_weight clause = cond (is_final clause) 1 0

-- clauses with one `if` and one `final` at most are accepted up to the `{`
clauses_accepted : (clauses : List LoopClause) (has_if has_final : Bool) (x : List ℕ)
    (variables : List (List ℕ))
    (around : List (List (List ℕ))) (ts : List (List ℕ))
    → All (HasLoopClauseForm variables) clauses
    → cond has_if 1 0 + count_by is_if clauses ≤ 1 → cond has_final 1 0 + count_by is_final clauses
    ≤ 1
    → Accepted Statement false false x variables (variables ∷ around) ts
    → Accepted Clause has_if has_final x variables around
    (flat_map clause_texts clauses ++ codes "{" ∷ ts)
clauses_accepted [] has_if has_final x variables around ts forms one_if one_final later =
    accepts_one_more Clause has_if has_final x variables around (codes "{") ts refl later
clauses_accepted (IfClause number ∷ clauses) true has_final x variables around ts forms one_if
    one_final later =
    absurd (omega (arith, one_if, sum_by-cons if_weight (IfClause number) clauses))
clauses_accepted (IfClause number ∷ clauses) false has_final x variables around ts forms one_if
    one_final later =
    let ifs : cond true 1 0 + count_by is_if clauses ≤ 1 =
    omega (arith, one_if, sum_by-cons if_weight (IfClause number) clauses) in
    let finals : cond has_final 1 0 + count_by is_final clauses ≤ 1 =
    omega (arith, one_final, sum_by-cons final_weight (IfClause number) clauses) in
    let others = clauses_accepted clauses true has_final x variables around ts
    (All-tail (HasLoopClauseForm variables) (IfClause number) clauses forms) ifs finals later in
    if_accepted has_final x variables around number _
    (All-head (HasLoopClauseForm variables) (IfClause number) clauses forms) others
clauses_accepted (FinalClause number ∷ clauses) has_if true x variables around ts forms one_if
    one_final later =
    absurd (omega (arith, one_final, sum_by-cons final_weight (FinalClause number) clauses))
clauses_accepted (FinalClause number ∷ clauses) has_if false x variables around ts forms one_if
    one_final later =
    let ifs : cond has_if 1 0 + count_by is_if clauses ≤ 1 =
    omega (arith, one_if, sum_by-cons if_weight (FinalClause number) clauses) in
    let finals : cond true 1 0 + count_by is_final clauses ≤ 1 =
    omega (arith, one_final, sum_by-cons final_weight (FinalClause number) clauses) in
    let others = clauses_accepted clauses has_if true x variables around ts
    (All-tail (HasLoopClauseForm variables) (FinalClause number) clauses forms) ifs finals later in
    final_accepted has_if x variables around number _
    (All-head (HasLoopClauseForm variables) (FinalClause number) clauses forms) others
clauses_accepted (DependClause kind items last ∷ clauses) has_if has_final x variables around ts
    forms one_if one_final
    later =
    let clause = DependClause kind items last in
    let form : HasLoopClauseForm variables clause = All-head (HasLoopClauseForm variables) clause
    clauses forms in
    let ifs : cond has_if 1 0 + count_by is_if clauses ≤ 1 =
    omega (arith, one_if, sum_by-cons if_weight clause clauses) in
    let finals : cond has_final 1 0 + count_by is_final clauses ≤ 1 =
    omega (arith, one_final, sum_by-cons final_weight clause clauses) in
    let others = clauses_accepted clauses has_if has_final x variables around ts
    (All-tail (HasLoopClauseForm variables) clause clauses forms) ifs finals later in
    let inside = items_accepted items last kind has_if has_final x variables around
    (flat_map clause_texts clauses ++ codes "{" ∷ ts) form.0 form.1 others in
    subst (λ (texts : List (List ℕ)).
    Accepted Clause has_if has_final x variables around
    (codes "depend" ∷ codes "(" ∷ type_word kind ∷ codes ":" ∷ texts))
    (depend_texts items (item_texts last) (flat_map clause_texts clauses) (codes "{" ∷ ts))
    (depend_accepted kind has_if has_final x variables around _ inside)

-- ---- pieces

-- the first word of a statement
first_fits : (variables : List (List ℕ)) (around : List (List (List ℕ))) (text : List ℕ)
    → is_text text (codes "}") ≡ false
    → (is_statement_word text || is_text text (codes "for")) ≡ true
    → fits_at Statement false false variables around text ≡ true
first_fits variables [] text no_end word =
    word_fits (is_text text (codes "}")) (is_statement_word text || is_text text (codes "for"))
    no_end word
first_fits variables (outer ∷ around) text no_end word =
    or_left (is_statement_word text || is_text text (codes "for")) (is_text text (codes "}")) word

new_fits : (word known : Bool) → word ≡ true → known ≡ false → (word && not known) ≡ true
new_fits true false h g = refl
new_fits false known h g = absurd cc
new_fits true true h g = absurd cc

none_accepted : (x : List ℕ) (variables : List (List ℕ)) → Accepted Statement false false x
    variables [] []
unfolding accepts
none_accepted x variables = refl

-- pieces whose blocks nest are accepted to the end of the text
pieces_accepted : (pieces : List LoopPiece) (x : List ℕ) (variables : List (List ℕ))
    (around : List (List (List ℕ)))
    → HaveLoopForms pieces variables around
    → Accepted Statement false false x variables around (flat_map piece_texts pieces)
pieces_accepted [] x variables [] forms = none_accepted x variables
pieces_accepted [] x variables (outer ∷ around) forms = absurd forms
pieces_accepted (WorkPiece number ∷ pieces) x variables around forms =
    let later = pieces_accepted pieces x variables around forms.1 in
    accepts_one_more Statement false false x variables around (codes "work")
    (number ∷ flat_map piece_texts pieces) (first_fits variables around (codes "work") refl refl)
    (accepts_one_more WorkNumber false false x variables around number (flat_map piece_texts pieces)
    forms.0
    later)
pieces_accepted (TaskPiece clauses ∷ pieces) x variables around forms =
    let later = pieces_accepted pieces x variables (variables ∷ around) forms.1 in
    let rest = flat_map piece_texts pieces in
    let inside = clauses_accepted clauses false false x variables around rest forms.0.0
    (omega (arith, forms.0.1)) (omega (arith, forms.0.2)) later in
    subst (λ (texts : List (List ℕ)). Accepted Statement false false x variables around (codes
    "task" ∷ texts))
    (sym (append_assoc (flat_map clause_texts clauses) (codes "{" ∷ []) rest))
    (accepts_one_more Statement false false x variables around (codes "task") _
    (first_fits variables around (codes "task") refl refl) inside)
pieces_accepted (WaitPiece ∷ pieces) x variables around forms =
    accepts_one_more Statement false false x variables around (codes "taskwait")
    (flat_map piece_texts pieces)
    (first_fits variables around (codes "taskwait") refl refl)
    (pieces_accepted pieces x variables around forms)
pieces_accepted (GroupPiece ∷ pieces) x variables around forms =
    accepts_one_more Statement false false x variables around (codes "taskgroup")
    (codes "{" ∷ flat_map piece_texts pieces)
    (first_fits variables around (codes "taskgroup") refl refl)
    (accepts_one_more GroupBrace false false x variables around (codes "{")
    (flat_map piece_texts pieces) refl
    (pieces_accepted pieces x variables (variables ∷ around) forms))
pieces_accepted (ForPiece variable first last ∷ pieces) x variables around forms =
    let later = pieces_accepted pieces [] (variable ∷ variables) (variables ∷ around) forms.3 in
    let rest = flat_map piece_texts pieces in
    accepts_one_more Statement false false x variables around (codes "for")
    (variable ∷ first ∷ last ∷ codes "{" ∷ rest)
    (first_fits variables around (codes "for") refl refl)
    (accepts_one_more ForVariable false false x variables around variable
    (first ∷ last ∷ codes "{" ∷ rest)
    (new_fits (is_word variable) (list_any (bytes_eq variable) variables) forms.0.0 forms.0.1)
    (accepts_one_more ForFrom false false variable variables around first (last ∷ codes "{" ∷ rest)
    forms.1
    (accepts_one_more ForTo false false variable variables around last (codes "{" ∷ rest) forms.2
    (accepts_one_more ForBrace false false variable variables around (codes "{") rest refl later))))
pieces_accepted (EndPiece ∷ pieces) x variables [] forms = absurd forms
pieces_accepted (EndPiece ∷ pieces) x variables (outer ∷ around) forms =
    accepts_one_more Statement false false x variables (outer ∷ around) (codes "}")
    (flat_map piece_texts pieces) refl (pieces_accepted pieces x outer around forms)

-- each sentence is accepted from the start
pub sentence_accepted : (texts : List (List ℕ))
    → IsLoopSentence texts
    → Accepted Statement false false [] [] [] texts
sentence_accepted texts s =
    let all = pieces_of_sentence texts s in
    subst (λ (ts : List (List ℕ)). Accepted Statement false false [] [] [] ts) (sym all.texts_are)
    (pieces_accepted all.pieces [] [] [] all.forms)
