-- The depend items of all tasks, counted on the tokens: a `:` or `,` stands before each.
use Rattle.std.proofs.Common.{◌≡◌, ℕ, ◌+◌, ◌≤◌, true, false, cond, List, [], ◌∷◌, ◌++◌}
use Rattle.std.proofs.Common.{length, refl, sym, ap, ◌∙◌, arith, codes}
use Rattle.std.specs.Prelude.{drop}
use Rattle.std.proofs.lemmas.List.{map_push, drop-append-le}
use Rattle.std.proofs.lemmas.List.Sums.{sum_by-append}
use Rattle.program_text.specs.declared.statement.DependKind.{DependKind}
use Rattle.program_text.specs.declared.statement.DependKind.TheVariants.{DependIn}
use Rattle.program_text.specs.Tokens.{Token, texts}
use Rattle.program_text.specs.Words.{is_text, is_number, is_word, type_word, type_of}
use Rattle.program_text.proofs.Bools.{bool_cases, or_true_right}
use Rattle.task_program.specs.declared.place.Place.{Place}
use Rattle.task_program.specs.declared.place.Place.TheVariants.{Header, Version, Statement}
use Rattle.task_program.specs.declared.place.Place.TheVariants.{WorkNumber, GroupBrace, Clause}
use Rattle.task_program.specs.declared.place.Place.TheVariants.{IfNumber, IfCloses, DependType}
use Rattle.task_program.specs.declared.place.Place.TheVariants.{DependColon, DependName, DependMore}
use Rattle.task_program.specs.Faults.{State, after_at, is_allowed}
use Rattle.task_program.proofs.FoundPlaces.{same_text}
use Rattle.task_program.proofs.Found.{type_is, is_depend, is_end}
use Rattle.task_program.proofs.Begun.{Began}
use Rattle.task_program.proofs.FaultFound.{texts_long, past_long, header_short}
use Rattle.task_program.proofs.FaultFound.{nothing_after, nothing_after_one}
use Rattle.task_program.proofs.Tallies.{other_text, is_past_header}
use Rattle.large_text.specs.LargeFaults.{items_coming}
use Rattle.large_text.specs.LargeTrees.{comes_before_item, all_items_in}

abbrev mark_of : List ℕ → ℕ
mark_of text = cond (comes_before_item text) 1 0

-- an item comes next where this token stands before one
abbrev Comes : Place → State → List ℕ → ℕ → Type 0
Comes place state text line = items_coming (after_at place state text line).place ≡ mark_of text

-- a number and a word stand before none
number_before_none : (text : List ℕ) → is_number text ≡ true → mark_of text ≡ 0
number_before_none text h =
    rw (other_text is_number text (codes ":") h refl, other_text is_number text (codes ",") h refl)
    refl

word_before_none : (text : List ℕ) → is_word text ≡ true → mark_of text ≡ 0
word_before_none text h =
    rw (other_text is_word text (codes ":") h refl, other_text is_word text (codes ",") h refl) refl

statement_comes : (state : State) (text : List ℕ) (line : ℕ)
    → is_allowed Statement state.head.has_if text ≡ true
    → Comes Statement state text line
statement_comes state text line allowed =
    bool_cases (is_text text (codes "work"))
    (λ work. rw (same_text text (codes "work") work) refl)
    (λ no_work. bool_cases (is_text text (codes "task"))
    (λ task. rw (same_text text (codes "task") task) refl)
    (λ no_task. bool_cases (is_text text (codes "taskwait"))
    (λ wait. rw (same_text text (codes "taskwait") wait) refl)
    (λ no_wait. bool_cases (is_text text (codes "taskgroup"))
    (λ group. rw (same_text text (codes "taskgroup") group) refl)
    (λ no_group. rw (is_end text allowed no_work no_task no_wait no_group) refl))))

clause_comes : (state : State) (text : List ℕ) (line : ℕ)
    → is_allowed Clause state.head.has_if text ≡ true
    → Comes Clause state text line
clause_comes state text line allowed =
    bool_cases (is_text text (codes "{"))
    (λ brace. rw (same_text text (codes "{") brace) refl)
    (λ no_brace. bool_cases (is_text text (codes "if"))
    (λ if_word. rw (same_text text (codes "if") if_word) refl)
    (λ no_if. rw (is_depend text state.head.has_if allowed no_brace no_if) refl))

type_before_none : (kind : DependKind) → mark_of (type_word kind) ≡ 0
type_before_none DependIn = refl
type_before_none _ = refl

more_comes : (state : State) (kind : DependKind) (text : List ℕ) (line : ℕ)
    → is_allowed (DependMore kind) state.head.has_if text ≡ true
    → Comes (DependMore kind) state text line
more_comes state kind text line allowed =
    bool_cases (is_text text (codes ","))
    (λ comma. rw (same_text text (codes ",") comma) refl)
    (λ other. rw
    (same_text text (codes ")")
    (or_true_right (is_text text (codes ",")) (is_text text (codes ")")) allowed other)) refl)

place_comes : (place : Place) (state : State) (text : List ℕ) (line : ℕ)
    → is_past_header place ≡ true
    → is_allowed place state.head.has_if text ≡ true
    → Comes place state text line
place_comes Header state text line past allowed = absurd cc
place_comes Version state text line past allowed = absurd cc
place_comes Statement state text line past allowed = statement_comes state text line allowed
place_comes WorkNumber state text line past allowed = sym (number_before_none text allowed)
place_comes GroupBrace state text line past allowed = rw (same_text text (codes "{") allowed) refl
place_comes Clause state text line past allowed = clause_comes state text line allowed
place_comes IfNumber state text line past allowed = sym (number_before_none text allowed)
place_comes IfCloses state text line past allowed = rw (same_text text (codes ")") allowed) refl
place_comes DependType state text line past allowed =
    sym (ap mark_of (type_is text allowed) ∙ type_before_none (type_of text))
place_comes (DependColon kind) state text line past allowed =
    rw (same_text text (codes ":") allowed) refl
place_comes (DependName kind) state text line past allowed = sym (word_before_none text allowed)
place_comes (DependMore kind) state text line past allowed =
    more_comes state kind text line allowed
place_comes _ state text line past allowed = rw (same_text text (codes "(") allowed) refl

-- no item comes behind a token of the header
header_comes : (place : Place) (state : State) (text : List ℕ) (line : ℕ)
    → is_past_header place ≡ false
    → (items_coming place ≡ 0) × (items_coming (after_at place state text line).place ≡ 0)
header_comes Header state text line here = (refl, refl)
header_comes Version state text line here = (refl, refl)
header_comes _ state text line here = absurd cc

pub count_more : (before : List (List ℕ)) (text : List ℕ)
    → all_items_in (before ++ text ∷ []) ≡ all_items_in before + mark_of text
count_more before text = omega (arith, sum_by-append (λ t. mark_of t) before (text ∷ []))

-- so many depend items were read behind these tokens, and at this place one more may come
abbrev pub AreCounted : List Token → Place → (all_items : ℕ) → Type 0
AreCounted tokens place all_items =
    all_items + items_coming place ≡ all_items_in (texts (drop 2 tokens))

-- with one token more
pub counted_more : (before : List Token) (state next : State) (bytes all_items : ℕ) (token : Token)
    → Began (texts before) state
    → AreCounted before state.place all_items
    → is_allowed state.place state.head.has_if token.text ≡ true
    → after_at state.place (record state { bytes = bytes }) token.text token.line ≡ next
    → AreCounted (before ++ token ∷ []) next.place (all_items + items_coming state.place)
counted_more before state next bytes all_items token began counted allowed same =
    let inside : State = record state { bytes = bytes } in
    let place_is : items_coming (after_at state.place inside token.text token.line).place
    ≡ items_coming next.place = ap (λ (s : State). items_coming s.place) same in
    bool_cases (is_past_header state.place)
    (λ past.
    let long : 2 ≤ length before = omega
    (arith, texts_long before, past_long state.place (length (texts before)) began.length_is past) in
    let all : texts (drop 2 (before ++ token ∷ [])) ≡ texts (drop 2 before) ++ token.text ∷ [] =
    ap (λ (ts : List Token). texts ts) (drop-append-le 2 before (token ∷ []) long)
    ∙ map_push (λ (t : Token). t.text) (drop 2 before) token in
    let comes = place_comes state.place inside token.text token.line past allowed in
    omega (
      arith,
      counted,
      place_is,
      comes,
      ap (λ (ts : List (List ℕ)). all_items_in ts) all,
      count_more (texts (drop 2 before)) token.text,
    ))
    (λ here.
    let short : length before ≤ 1 = omega (
      arith,
      texts_long before,
      header_short state.place (length (texts before)) began.length_is here,
    ) in
    let none = header_comes state.place inside token.text token.line here in
    let was : all_items_in (texts (drop 2 before)) ≡ 0 =
    ap (λ (ts : List Token). all_items_in (texts ts)) (nothing_after before short) in
    let is : all_items_in (texts (drop 2 (before ++ token ∷ []))) ≡ 0 =
    ap (λ (ts : List Token). all_items_in (texts ts)) (nothing_after_one before token short) in
    omega (arith, counted, place_is, none.0, none.1, was, is))
