-- After the tokens read so far: what the grammar has there, and what it has not.
use Rattle.std.proofs.Common.{◌≡◌, ℕ, zero, suc, ◌+◌, ◌<◌, ◌≤◌, Bool, true, false, not, ◌&&◌, cond}
use Rattle.std.proofs.Common.{List, [], ◌∷◌, ◌++◌, length, length-append, append_assoc, Option}
use Rattle.std.proofs.Common.{Some, Ok, refl, sym, ap, subst, ◌∙◌, arith, codes}
use Rattle.std.specs.Prelude.{sum_by}
use Rattle.std.proofs.lemmas.List.{append-nil, map_push}
use Rattle.std.proofs.lemmas.List.Sums.{sum_by-append}
use Rattle.program_text.specs.declared.fault.ReadKind.{ReadKind}
use Rattle.task_program.specs.declared.place.Place.{Place}
use Rattle.task_program.specs.declared.place.Place.TheVariants.{Header, Version, Statement}
use Rattle.task_program.specs.declared.place.Place.TheVariants.{Clause}
use Rattle.task_program.specs.declared.place.Place.TheVariants.{DependMore}
use Rattle.program_text.specs.declared.statement.DependKind.{DependKind}
use Rattle.program_text.specs.Marks.{Mark}
use Rattle.program_text.specs.Tokens.{Token, texts}
use Rattle.program_text.specs.Words.{is_text}
use Rattle.task_program.specs.Faults.{State, place_fault, is_header}
use Rattle.task_program.specs.Faults.{form_fault}
use Rattle.task_program.specs.TreeSoFar.{Block}
use Rattle.task_program.specs.Faults.{closes_nothing, is_allowed, step, after_at}
use Rattle.task_program.specs.TreeSoFar.{after_end_of}
use Rattle.task_program.specs.FirstFault.{IsViable}
use Rattle.task_program.specs.FirstPlainFault.{IsSentence}
use Rattle.task_program.proofs.Keeping.{at, passes, unless_ok, ok_is}
use Rattle.task_program.proofs.FoundPlaces.{same_text}
use Rattle.task_program.proofs.FoundWhole.{bytes_stay}
use Rattle.task_program.proofs.Shapes.{Shape, shape_at, one_less, closes_none, fits, lead_at, lead}
use Rattle.task_program.proofs.Shapes.{Follows, FollowsAt, steps_back, nothing_follows}
use Rattle.task_program.proofs.Shapes.{may_continue}
use Rattle.task_program.proofs.Accepting.{accepts, is_whole, accepts_next, accepts_none}
use Rattle.program_text.proofs.Bools.{bool_cases}

abbrev pub shape_of : State → Shape
shape_of state = shape_at state.place state.head.has_if (length state.tree.blocks)

-- ---- where a token leads

closed_depth : (blocks : List Block) (marks : List Mark)
    → length (after_end_of blocks marks).blocks ≡ one_less (length blocks)
closed_depth [] marks = refl
closed_depth (block ∷ blocks) marks = refl

abbrev pub LeadsSo : State → Place → List ℕ → ℕ → Type 0
LeadsSo state place text line =
    shape_of (after_at place (at state place) text line)
    ≡ lead_at place state.head.has_if (length state.tree.blocks) text

-- the word of a statement leads where the table of places says
statement_leads : (state : State) (text : List ℕ) (line : ℕ) → LeadsSo state Statement text line
statement_leads state text line =
    bool_cases (is_text text (codes "work"))
    (λ work. rw work refl)
    (λ no_work. bool_cases (is_text text (codes "task"))
    (λ task. rw (no_work, task) refl)
    (λ no_task. bool_cases (is_text text (codes "taskwait"))
    (λ wait. rw (no_work, no_task, wait) refl)
    (λ no_wait. bool_cases (is_text text (codes "taskgroup"))
    (λ group. rw (no_work, no_task, no_wait, group) refl)
    (λ no_group. rw (no_work, no_task, no_wait, no_group)
    (ap (λ (n : ℕ). shape_at Statement state.head.has_if n)
    (closed_depth state.tree.blocks state.tree.marks))))))

clause_leads : (state : State) (text : List ℕ) (line : ℕ) → LeadsSo state Clause text line
clause_leads state text line =
    bool_cases (is_text text (codes "{"))
    (λ brace. rw brace refl)
    (λ no_brace. bool_cases (is_text text (codes "if"))
    (λ if_word. rw (no_brace, if_word) refl)
    (λ no_if. rw (no_brace, no_if) refl))

more_leads : (state : State) (kind : DependKind) (text : List ℕ) (line : ℕ)
    → LeadsSo state (DependMore kind) text line
more_leads state kind text line =
    bool_cases (is_text text (codes ","))
    (λ comma. rw comma refl)
    (λ no_comma. rw no_comma refl)

-- every token leads where the table of places says
pub place_leads : (place : Place) (state : State) (text : List ℕ) (line : ℕ)
    → LeadsSo state place text line
place_leads Statement state text line = statement_leads state text line
place_leads Clause state text line = clause_leads state text line
place_leads (DependMore kind) state text line = more_leads state kind text line
place_leads _ state text line = refl

-- ---- which tokens are allowed

pub closes_same : (place : Place) (blocks : List Block) (text : List ℕ)
    → closes_nothing place blocks text ≡ closes_none place (length blocks) text
closes_same Statement [] text = refl
closes_same Statement (block ∷ blocks) text = refl
closes_same _ blocks text = refl

all_three : (header closes other allowed : Bool)
    → not header ≡ false
    → closes ≡ false
    → closes ≡ other
    → not allowed ≡ false
    → (header && (not other && allowed)) ≡ true
all_three true false false true h c s a = refl
all_three false closes other allowed h c s a = absurd cc
all_three true true other allowed h c s a = absurd cc
all_three true false true allowed h c s a = absurd cc
all_three true false false false h c s a = absurd cc

pub no_header : (header closes allowed : Bool)
    → not header ≡ true
    → (header && (not closes && allowed)) ≡ false
no_header true closes allowed h = absurd cc
no_header false closes allowed h = refl

pub no_close : (header closes other allowed : Bool) → closes ≡ true → closes ≡ other
    → (header && (not other && allowed)) ≡ false
no_close true closes true allowed h s = refl
no_close false closes other allowed h s = refl
no_close true closes false allowed h s = absurd (let wrong : true ≡ false = sym h ∙ s in cc)

pub none_allowed : (header closes allowed : Bool)
    → not allowed ≡ true
    → (header && (not closes && allowed)) ≡ false
none_allowed true true allowed h = refl
none_allowed true false true h = absurd cc
none_allowed true false false h = refl
none_allowed false closes allowed h = refl

-- ---- what is known where these tokens were read

abbrev pub LengthAt : Place → ℕ → Type 0
LengthAt Header n = n ≡ 0
LengthAt Version n = n ≡ 1
LengthAt _ n = 2 ≤ n

either_length : (b : Bool) (one other : Shape) (n : ℕ)
    → LengthAt one.place n
    → LengthAt other.place n
    → LengthAt (cond b one other).place n
either_length true one other n h g = h
either_length false one other n h g = g

-- one token more
pub length_goes : (place : Place) (has_if : Bool) (depth : ℕ) (text : List ℕ) (n : ℕ) → LengthAt place n
    → LengthAt (lead_at place has_if depth text).place (n + 1)
length_goes Header has_if depth text n h = omega (arith, h)
length_goes Version has_if depth text n h = omega (arith, h)
length_goes Statement has_if depth text n h =
    let more : 2 ≤ n + 1 = omega (arith, h) in
    either_length (is_text text (codes "work")) _ _ (n + 1) more (either_length
    (is_text text (codes "task")) _ _ (n + 1) more
    (either_length (is_text text (codes "taskwait")) _ _ (n + 1) more
    (either_length (is_text text (codes "taskgroup")) _ _ (n + 1) more more)))
length_goes Clause has_if depth text n h =
    let more : 2 ≤ n + 1 = omega (arith, h) in
    either_length (is_text text (codes "{")) _ _ (n + 1) more
    (either_length (is_text text (codes "if")) _ _ (n + 1) more more)
length_goes (DependMore kind) has_if depth text n h =
    let more : 2 ≤ n + 1 = omega (arith, h) in
    either_length (is_text text (codes ",")) _ _ (n + 1) more more
length_goes _ has_if depth text n h = omega (arith, h)

pub record Began (before : List (List ℕ)) (state : State) : Type 0 where
  pub follows : (later : List (List ℕ))
      → Follows (shape_of state) later
      → IsSentence (before ++ later)
  pub accepted : (later : List (List ℕ))
      → IsSentence (before ++ later)
      → accepts (shape_of state) later ≡ true
  pub length_is : LengthAt state.place (length before)
  pub bytes_are : state.bytes ≡ sum_by length before

-- a token that the grammar does not have
pub is_not_viable : (before : List (List ℕ)) (state : State) (text : List ℕ) → Began before state
    → fits (shape_of state) text ≡ false → IsViable IsSentence (before ++ text ∷ []) → ⊥
is_not_viable before state text b wrong_here v =
    let sentence : IsSentence (before ++ text ∷ v.0) =
    subst IsSentence (append_assoc before (text ∷ []) v.0) v.1 in
    let fits_so : fits (shape_of state) text ≡ true =
    (accepts_next (shape_of state) text v.0 (b.accepted (text ∷ v.0) sentence)).0 in
    absurd (let wrong : true ≡ false = sym fits_so ∙ wrong_here in cc)

-- and one that it has
pub viable_next : (before : List (List ℕ)) (state : State) (text : List ℕ) → Began before state
    → fits (shape_of state) text ≡ true → IsViable IsSentence (before ++ text ∷ [])
viable_next before state text b yes_fits =
    let next = lead (shape_of state) text in
    let continued = may_continue next.place next.has_if next.depth in
    let back =
    steps_back state.place state.head.has_if (length state.tree.blocks) text continued.0 yes_fits
    continued.1 in (
      continued.0,
      subst IsSentence (sym (append_assoc before (text ∷ []) continued.0))
          (b.follows (text ∷ continued.0) back),
    )

pub fits_of : (state : State) (text : List ℕ)
    → not (is_header state.place text) ≡ false
    → closes_nothing state.place state.tree.blocks text ≡ false
    → not (is_allowed state.place state.head.has_if text) ≡ false
    → fits (shape_of state) text ≡ true
fits_of state text header unopened allowed =
    all_three (is_header state.place text) (closes_nothing state.place state.tree.blocks text)
    (closes_none state.place (length state.tree.blocks) text)
    (is_allowed state.place state.head.has_if text)
    header unopened (closes_same state.place state.tree.blocks text) allowed

-- one token more: what was read is still the beginning of a text
pub began_more : (before : List (List ℕ)) (state next : State) (token : Token)
    → Began before state
    → fits (shape_of state) token.text ≡ true
    → after_at state.place (record state { bytes = state.bytes + length token.text }) token.text
    token.line
    ≡ next
    → Began (before ++ token.text ∷ []) next
began_more before state next token b fits_so same =
    let inside : State = record state { bytes = state.bytes + length token.text } in
    let leads : shape_of next ≡ lead (shape_of state) token.text = sym
    (ap (λ (s : State). shape_of s) same)
    ∙ place_leads state.place inside token.text token.line in
    let sum_is : sum_by length (before ++ token.text ∷ [])
    ≡ sum_by length before + length token.text =
    omega (arith, sum_by-append length before (token.text ∷ [])) in
    let length_more : length (before ++ token.text ∷ []) ≡ length before + 1 =
    length-append before (token.text ∷ []) in
    let bytes_is : next.bytes ≡ state.bytes + length token.text =
    sym (ap (λ (s : State). s.bytes) same) ∙ bytes_stay state.place inside token.text token.line in
    record {
      follows = λ later f.
          subst IsSentence (sym (append_assoc before (token.text ∷ []) later))
          (b.follows (token.text ∷ later) (steps_back state.place state.head.has_if
          (length state.tree.blocks) token.text later fits_so
          (subst (λ (s : Shape). Follows s later) leads f)));
      accepted = λ later s.
          subst (λ (sh : Shape). accepts sh later ≡ true) (sym leads)
          (accepts_next (shape_of state) token.text later (b.accepted (token.text ∷ later)
          (subst IsSentence (append_assoc before (token.text ∷ []) later) s))).1;
      length_is =
          subst (λ (sh : Shape). LengthAt sh.place (length (before ++ token.text ∷ []))) (sym leads)
          (subst (λ (n : ℕ). LengthAt (lead (shape_of state) token.text).place n) (sym length_more)
          (length_goes state.place state.head.has_if (length state.tree.blocks) token.text
          (length before) b.length_is));
      bytes_are = omega (arith, sum_is, bytes_is, b.bytes_are);
    }

pub step_begins : (before : List (List ℕ)) (state next : State) (token : Token) → Began before state
    → step state token ≡ Ok next → Began (before ++ token.text ∷ []) next
unfolding step
step_begins before state next token b h =
    let passed = unless_ok (form_fault state.bytes token.text) token.line _ next h in
    let inside : State = record state { bytes = state.bytes + length token.text } in
    let placed = unless_ok (place_fault inside token.text) token.line _ next passed.1 in
    let passed = passes inside token.text placed.0 in
    began_more before state next token b
    (fits_of inside token.text passed.header passed.unopened passed.allowed)
    (ok_is (after_at state.place inside token.text token.line) next placed.1)

-- ---- the fault of a token

pub row_cases : {P : Type 0} (b : Bool) (k kind : ReadKind) (rest : Option ReadKind)
    → cond b (Some k) rest ≡ Some kind
    → (b ≡ true → k ≡ kind → P)
    → (b ≡ false → rest ≡ Some kind → P)
    → P
row_cases true k kind rest h here later = here refl cc
row_cases false k kind rest h here later = later refl h

-- at these places the header is not yet read
pub in_header : (place : Place) (text : List ℕ) (n : ℕ)
    → LengthAt place n
    → not (is_header place text) ≡ true
    → n < 2
in_header Header text n h bad = omega (arith, h)
in_header Version text n h bad = omega (arith, h)
in_header _ text n h bad = absurd cc

pub after_header : (place : Place) (has_if : Bool) (text : List ℕ) (n : ℕ) → LengthAt place n
    → not (is_allowed place has_if text) ≡ true → 2 ≤ n
after_header Header has_if text n h bad = absurd cc
after_header Version has_if text n h bad = absurd cc
after_header _ has_if text n h bad = h

-- a `}` that closes nothing comes after what is whole
pub closes_at : (place : Place) (has_if : Bool) (depth : ℕ) (text : List ℕ)
    → closes_none place depth text ≡ true
    → (text ≡ codes "}") × FollowsAt place has_if depth []
closes_at Statement has_if zero text h = (same_text text (codes "}") h, nothing_follows has_if)
closes_at Statement has_if (suc depth) text h = absurd cc
closes_at _ has_if depth text h = absurd cc

pub whole_closes : (place : Place) (depth : ℕ) (text : List ℕ)
    → is_whole place depth ≡ true
    → text ≡ codes "}"
    → closes_none place depth text ≡ true
whole_closes Statement zero text h text_is = rw text_is refl
whole_closes Statement (suc depth) text h text_is = absurd cc
whole_closes _ depth text h text_is = absurd cc

pub whole_now : (before : List (List ℕ)) (state : State) → Began before state → IsSentence before
    → is_whole state.place (length state.tree.blocks) ≡ true
whole_now before state b s =
    accepts_none (shape_of state) (b.accepted [] (subst IsSentence (sym (append-nil before)) s))

-- the texts of one token more
pub texts_more : (before : List Token) (token : Token)
    → texts (before ++ token ∷ []) ≡ texts before ++ token.text ∷ []
texts_more before token = map_push (λ (t : Token). t.text) before token
