-- How large a number may be where the first pass stands, by the last tokens.
use Rattle.std.proofs.Common.{◌≡◌, ℕ, ◌<◌, ◌≤◌, Bool, true, false, ◌&&◌, ◌||◌, cond, List, []}
use Rattle.std.proofs.Common.{◌∷◌, ◌++◌, Option, Some, None, refl, sym, ap, subst, ◌∙◌, arith}
use Rattle.std.proofs.Common.{codes}
use Rattle.std.specs.Prelude.{nat_lt, reverse, if◌then◌else◌}
use Rattle.std.proofs.lemmas.Bool.{and_parts, ltb-true, ltb-false, both_ways}
use Rattle.std.proofs.Math.Bool.{and-false}
use Rattle.std.proofs.lemmas.List.{reverse-append}
use Rattle.loop_text.specs.declared.loop_place.LoopPlace.{LoopPlace}
use Rattle.loop_text.specs.declared.loop_place.LoopPlace.TheVariants.{Statement, WorkNumber}
use Rattle.loop_text.specs.declared.loop_place.LoopPlace.TheVariants.{GroupBrace, ForVariable}
use Rattle.loop_text.specs.declared.loop_place.LoopPlace.TheVariants.{ForFrom, ForTo, ForBrace}
use Rattle.loop_text.specs.declared.loop_place.LoopPlace.TheVariants.{Clause, IfOpens, IfNumber}
use Rattle.loop_text.specs.declared.loop_place.LoopPlace.TheVariants.{IfCloses, FinalOpens}
use Rattle.loop_text.specs.declared.loop_place.LoopPlace.TheVariants.{FinalNumber, FinalCloses}
use Rattle.loop_text.specs.declared.loop_place.LoopPlace.TheVariants.{DependOpens, DependType}
use Rattle.loop_text.specs.declared.loop_place.LoopPlace.TheVariants.{DependColon, DependName}
use Rattle.loop_text.specs.declared.loop_place.LoopPlace.TheVariants.{Subscript, IndexStart}
use Rattle.loop_text.specs.declared.loop_place.LoopPlace.TheVariants.{IndexNumber, IndexSign}
use Rattle.loop_text.specs.declared.loop_place.LoopPlace.TheVariants.{IndexCloses, DependMore}
use Rattle.program_text.specs.declared.statement.DependKind.{DependKind}
use Rattle.loop_text.specs.declared.loop_reader.LoopHead.{LoopHead}
use Rattle.loop_text.specs.declared.open_loops.LoopBlock.{LoopBlock}
use Rattle.program_text.specs.declared.limits.TheConstants.{LARGEST_COST, LARGEST_BOUND}
use Rattle.program_text.specs.Tokens.{Token, texts}
use Rattle.program_text.specs.Words.{begins_with_digit, is_run, is_text, is_word, is_number}
use Rattle.program_text.specs.Words.{is_type, value_of}
use Rattle.loop_text.specs.FirstPass.{State, is_allowed, is_number_too_large, after_at}
use Rattle.loop_text.specs.FirstPass.{ends_item}
use Rattle.loop_text.specs.LoopTokens.{is_plus_or_minus}
use Rattle.task_program.specs.FirstLoopFault.{before_last, comes_bound, is_too_large_after}
use Rattle.task_program.proofs.FoundPlaces.{same_text}
use Rattle.task_program.proofs.Tallies.{other_text}
use Rattle.task_program.proofs.Begun.{texts_more}
use Rattle.task_program.proofs.LoopShapes.{is_loop_end}
use Rattle.program_text.proofs.Bools.{bool_cases}

-- ---- the most that a number may be, by the tokens before it, of which the last comes first here

-- the last is this
abbrev pub ends_with : (text : List ℕ) → List (List ℕ) → Bool
ends_with text [] = false
ends_with text (last ∷ others) = is_text last text

-- the last is the variable of a `for`
abbrev pub ends_with_variable : List (List ℕ) → Bool
ends_with_variable [] = false
ends_with_variable (last ∷ others) = is_word last && ends_with (codes "for") others

-- the last is the first bound of a `for`
abbrev pub ends_with_bound : List (List ℕ) → Bool
ends_with_bound [] = false
ends_with_bound (last ∷ others) = is_number last && ends_with_variable others

-- A variable may be called `work`, so a `for` is looked for first. The number of an index may be of
-- any size: it comes after `[`, `+` or `-`, also where the name or variable before is called `for`.
abbrev pub most_by_last : List (List ℕ) → Option ℕ
most_by_last before =
    if ends_with_variable before || ends_with_bound before then Some LARGEST_BOUND
    else (if ends_with (codes "work") before then Some LARGEST_COST
    else (if ends_with (codes "(") before then Some 1
    else None))

-- the most that a number may be after these, where the grammar has a number: that of a bound, that
-- of the cost of a `work`, and 1 for an `if` or `final`
abbrev pub most_after : List (List ℕ) → Option ℕ
most_after before = most_by_last (reverse before)

abbrev pub is_above : Option ℕ → List ℕ → Bool
is_above None text = false
is_above (Some most) text = is_number text && nat_lt most (value_of text)

comes_so : (before : List (List ℕ))
    → comes_bound before ≡ (ends_with_variable before || ends_with_bound before)
comes_so [] = refl
comes_so (last ∷ []) = refl
comes_so (last ∷ second ∷ []) = refl
comes_so (last ∷ second ∷ third ∷ others) = refl

last_so : (text : List ℕ) (before : List (List ℕ))
    → is_text [] text ≡ false
    → is_text (before_last before 0) text ≡ ends_with text before
last_so text [] h = h
last_so text (last ∷ others) h = refl

by_rows : (bound cost one number : Bool) (text : List ℕ)
    → is_number text ≡ number
    → (number && cond bound (nat_lt LARGEST_BOUND (value_of text))
    (cond cost (nat_lt LARGEST_COST (value_of text)) (one && nat_lt 1 (value_of text))))
    ≡ is_above (cond bound (Some LARGEST_BOUND) (cond cost (Some LARGEST_COST)
    (cond one (Some 1) None))) text
by_rows true cost one number text is = rw is refl
by_rows false true one number text is = rw is refl
by_rows false false true number text is = rw is refl
by_rows false false false number text is = and-false number

-- a number is too large after these where it is above the most that may stand there
pub above_so : (before : List (List ℕ)) (text : List ℕ)
    → (is_number text && is_too_large_after (reverse before) (value_of text))
    ≡ is_above (most_after before) text
above_so before text =
    let last = reverse before in
    rw (comes_so last, last_so (codes "work") last refl, last_so (codes "(") last refl)
    (by_rows (ends_with_variable last || ends_with_bound last) (ends_with (codes "work") last)
    (ends_with (codes "(") last) (is_number text) text refl)

-- the most that a number may be at a place, if there is a most
abbrev pub most_at : LoopPlace → Option ℕ
most_at WorkNumber = Some LARGEST_COST
most_at ForFrom = Some LARGEST_BOUND
most_at ForTo = Some LARGEST_BOUND
most_at IfNumber = Some 1
most_at FinalNumber = Some 1
most_at _ = None

-- what is known of the tokens before a place, the last first
abbrev pub LastAt : LoopPlace → List (List ℕ) → Type 0
LastAt Statement before = ends_with (codes "for") before ≡ false
LastAt ForVariable before = ends_with (codes "for") before ≡ true
LastAt ForFrom before = ends_with_variable before ≡ true
LastAt ForTo before = ends_with_bound before ≡ true
LastAt WorkNumber before = most_by_last before ≡ Some LARGEST_COST
LastAt IfNumber before = most_by_last before ≡ Some 1
LastAt FinalNumber before = most_by_last before ≡ Some 1
LastAt (IndexStart kind) before = most_by_last before ≡ None
LastAt (IndexNumber kind) before = most_by_last before ≡ None
LastAt _ before = Unit {0}

-- ---- one token more

abbrev LastGoes : LoopPlace → State → List ℕ → ℕ → List (List ℕ) → Type 0
LastGoes place state text line before =
    LastAt place before
    → is_allowed place state.head state.tree.blocks text ≡ true
    → LastAt (after_at place state text line).place (text ∷ before)

statement_last : (state : State) (text : List ℕ) (line : ℕ) (before : List (List ℕ))
    → LastGoes Statement state text line before
statement_last state text line before h allowed =
    bool_cases (is_text text (codes "work"))
    (λ work. rw (same_text text (codes "work") work, h) refl)
    (λ no_work. bool_cases (is_text text (codes "task"))
    (λ task. rw (same_text text (codes "task") task) tt)
    (λ no_task. bool_cases (is_text text (codes "taskwait"))
    (λ wait. rw (same_text text (codes "taskwait") wait) refl)
    (λ no_wait. bool_cases (is_text text (codes "taskgroup"))
    (λ group. rw (same_text text (codes "taskgroup") group) tt)
    (λ no_group. bool_cases (is_text text (codes "for"))
    (λ loop. rw (same_text text (codes "for") loop) refl)
    (λ no_for. rw (is_loop_end text allowed no_work no_task no_wait no_group no_for) refl)))))

clause_last : (state : State) (text : List ℕ) (line : ℕ) (before : List (List ℕ))
    → LastGoes Clause state text line before
clause_last state text line before h allowed =
    bool_cases (is_text text (codes "{"))
    (λ brace. rw (same_text text (codes "{") brace) refl)
    (λ no_brace. bool_cases (is_text text (codes "if"))
    (λ if_word. rw (no_brace, if_word) tt)
    (λ no_if. bool_cases (is_text text (codes "final"))
    (λ final_word. rw (no_brace, no_if, final_word) tt)
    (λ no_final. rw (no_brace, no_if, no_final) tt)))

subscript_last : (kind : DependKind) (state : State) (text : List ℕ) (line : ℕ)
    (before : List (List ℕ))
    → LastGoes (Subscript kind) state text line before
subscript_last kind state text line before h allowed =
    bool_cases (is_text text (codes "["))
    (λ opens. rw (same_text text (codes "[") opens) refl)
    (λ no_opens. bool_cases (is_text text (codes ","))
    (λ comma. rw (no_opens, comma) tt)
    (λ no_comma. rw (no_opens, no_comma) tt))

start_last : (kind : DependKind) (state : State) (text : List ℕ) (line : ℕ)
    (before : List (List ℕ))
    → LastGoes (IndexStart kind) state text line before
start_last kind state text line before h allowed =
    bool_cases (is_number text)
    (λ number. rw number tt)
    (λ no_number. bool_cases (is_text text (codes "-"))
    (λ minus. rw (same_text text (codes "-") minus) refl)
    (λ no_minus. rw (no_number, no_minus) tt))

signed : (text : List ℕ) (before : List (List ℕ))
    → (is_plus_or_minus text || is_text text (codes "]")) ≡ true
    → is_text text (codes "]") ≡ false
    → most_by_last (text ∷ before) ≡ None
signed text before allowed no_closes =
    bool_cases (is_text text (codes "+"))
    (λ plus. rw (same_text text (codes "+") plus) refl)
    (λ no_plus. bool_cases (is_text text (codes "-"))
    (λ minus. rw (same_text text (codes "-") minus) refl)
    (λ no_minus. absurd
    (let none : (is_plus_or_minus text || is_text text (codes "]")) ≡ false =
    rw (no_plus, no_minus, no_closes) refl in
    let wrong : true ≡ false = sym allowed ∙ none in cc)))

sign_last : (kind : DependKind) (state : State) (text : List ℕ) (line : ℕ)
    (before : List (List ℕ))
    → LastGoes (IndexSign kind) state text line before
sign_last kind state text line before h allowed =
    bool_cases (is_text text (codes "]"))
    (λ closes. rw closes tt)
    (λ no_closes. rw no_closes (signed text before allowed no_closes))

more_last : (kind : DependKind) (state : State) (text : List ℕ) (line : ℕ)
    (before : List (List ℕ))
    → LastGoes (DependMore kind) state text line before
more_last kind state text line before h allowed =
    bool_cases (is_text text (codes ","))
    (λ comma. rw comma tt)
    (λ no_comma. rw no_comma tt)

-- at every place the last tokens are those of the next place, with the token that was read
last_goes : (place : LoopPlace) (state : State) (text : List ℕ) (line : ℕ)
    (before : List (List ℕ))
    → LastGoes place state text line before
last_goes Statement state text line before h allowed =
    statement_last state text line before h allowed
last_goes WorkNumber state text line before h allowed =
    other_text is_number text (codes "for") allowed refl
last_goes GroupBrace state text line before h allowed =
    rw (same_text text (codes "{") allowed) refl
last_goes ForVariable state text line before h allowed =
    rw ((and_parts (is_word text) _ allowed).0, h) refl
last_goes ForFrom state text line before h allowed = rw (allowed, h) refl
last_goes ForBrace state text line before h allowed = rw (same_text text (codes "{") allowed) refl
last_goes Clause state text line before h allowed = clause_last state text line before h allowed
last_goes IfOpens state text line before h allowed = rw (same_text text (codes "(") allowed) refl
last_goes FinalOpens state text line before h allowed =
    rw (same_text text (codes "(") allowed) refl
last_goes (Subscript kind) state text line before h allowed =
    subscript_last kind state text line before h allowed
last_goes (IndexStart kind) state text line before h allowed =
    start_last kind state text line before h allowed
last_goes (IndexSign kind) state text line before h allowed =
    sign_last kind state text line before h allowed
last_goes (DependMore kind) state text line before h allowed =
    more_last kind state text line before h allowed
last_goes _ state text line before h allowed = tt

abbrev pub LastNow : List Token → State → Type 0
LastNow before state = LastAt state.place (reverse (texts before))

pub last_more : (before : List Token) (state : State) (token : Token) (next : State)
    → LastNow before state
    → is_allowed state.place state.head state.tree.blocks token.text ≡ true
    → after_at state.place state token.text token.line ≡ next
    → LastNow (before ++ token ∷ []) next
last_more before state token next h allowed next_is =
    let back : reverse (texts (before ++ token ∷ [])) ≡ token.text ∷ reverse (texts before) =
    ap (λ (ts : List (List ℕ)). reverse ts) (texts_more before token)
    ∙ reverse-append (texts before) (token.text ∷ []) in
    subst (λ (ts : List (List ℕ)). LastAt next.place ts) (sym back)
    (subst (λ (s : State). LastAt s.place (token.text ∷ reverse (texts before))) next_is
    (last_goes state.place state token.text token.line (reverse (texts before)) h allowed))

-- ---- a number at a place

abbrev takes_number : LoopPlace → Bool
takes_number WorkNumber = true
takes_number ForFrom = true
takes_number ForTo = true
takes_number IfNumber = true
takes_number FinalNumber = true
takes_number (IndexStart kind) = true
takes_number (IndexNumber kind) = true
takes_number _ = false

no_text : (text word : List ℕ) → is_number text ≡ true → is_number word ≡ false
    → is_text text word ≡ false
no_text text word number no_number = other_text is_number text word number no_number

no_word : (text : List ℕ) → is_number text ≡ true → is_word text ≡ false
no_word text number =
    rw (and_parts (begins_with_digit text) _ number).0 (and-false (is_run text))

no_statement : (head : LoopHead) (open_now : List LoopBlock) (text : List ℕ)
    → is_number text ≡ true
    → is_allowed Statement head open_now text ≡ false
no_statement head open_now text n =
    rw (
      no_text text (codes "work") n refl,
      no_text text (codes "task") n refl,
      no_text text (codes "taskwait") n refl,
      no_text text (codes "taskgroup") n refl,
      no_text text (codes "for") n refl,
      no_text text (codes "}") n refl,
    ) refl

no_clause : (head : LoopHead) (open_now : List LoopBlock) (text : List ℕ)
    → is_number text ≡ true
    → is_allowed Clause head open_now text ≡ false
no_clause head open_now text n =
    rw (
      no_text text (codes "{") n refl,
      no_text text (codes "depend") n refl,
      no_text text (codes "if") n refl,
      no_text text (codes "final") n refl,
    ) refl

no_type : (text : List ℕ) → is_number text ≡ true → is_type text ≡ false
no_type text n =
    rw (
      no_text text (codes "in") n refl,
      no_text text (codes "out") n refl,
      no_text text (codes "inout") n refl,
      no_text text (codes "inoutset") n refl,
    ) refl

no_end : (text : List ℕ) → is_number text ≡ true → ends_item text ≡ false
no_end text n = rw (no_text text (codes ",") n refl, no_text text (codes ")") n refl) refl

no_sign : (text : List ℕ) → is_number text ≡ true → is_plus_or_minus text ≡ false
no_sign text n = rw (no_text text (codes "+") n refl, no_text text (codes "-") n refl) refl

-- only these places take a number
no_number_at : (place : LoopPlace) (head : LoopHead) (open_now : List LoopBlock) (text : List ℕ)
    → takes_number place ≡ false
    → is_number text ≡ true
    → is_allowed place head open_now text ≡ false
no_number_at Statement head open_now text h n = no_statement head open_now text n
no_number_at GroupBrace head open_now text h n = no_text text (codes "{") n refl
no_number_at ForVariable head open_now text h n = rw (no_word text n) refl
no_number_at ForBrace head open_now text h n = no_text text (codes "{") n refl
no_number_at Clause head open_now text h n = no_clause head open_now text n
no_number_at IfOpens head open_now text h n = no_text text (codes "(") n refl
no_number_at IfCloses head open_now text h n = no_text text (codes ")") n refl
no_number_at FinalOpens head open_now text h n = no_text text (codes "(") n refl
no_number_at FinalCloses head open_now text h n = no_text text (codes ")") n refl
no_number_at DependOpens head open_now text h n = no_text text (codes "(") n refl
no_number_at DependType head open_now text h n = no_type text n
no_number_at (DependColon kind) head open_now text h n = no_text text (codes ":") n refl
no_number_at (DependName kind) head open_now text h n = no_word text n
no_number_at (Subscript kind) head open_now text h n =
    rw (no_text text (codes "[") n refl, no_end text n) refl
no_number_at (IndexSign kind) head open_now text h n =
    rw (no_sign text n, no_text text (codes "]") n refl) refl
no_number_at (IndexCloses kind) head open_now text h n = no_text text (codes "]") n refl
no_number_at (DependMore kind) head open_now text h n = no_end text n
no_number_at _ head open_now text h n = absurd cc

-- the last tokens give the most that a number may be, where there can be one
most_is : (place : LoopPlace) (before : List (List ℕ)) (head : LoopHead)
    (open_now : List LoopBlock) (text : List ℕ)
    → LastAt place before
    → is_allowed place head open_now text ≡ true
    → is_number text ≡ true
    → most_by_last before ≡ most_at place
most_is WorkNumber before head open_now text h allowed n = h
most_is ForFrom before head open_now text h allowed n = rw h refl
most_is ForTo before head open_now text h allowed n =
    bool_cases (ends_with_variable before) (λ variable. rw variable refl)
    (λ no_variable. rw (no_variable, h) refl)
most_is IfNumber before head open_now text h allowed n = h
most_is FinalNumber before head open_now text h allowed n = h
most_is (IndexStart kind) before head open_now text h allowed n = h
most_is (IndexNumber kind) before head open_now text h allowed n = h
most_is place before head open_now text h allowed n =
    absurd (both_ways (is_allowed place head open_now text)
    (no_number_at place head open_now text refl n) allowed)

abbrev pub IsTooLarge : List (List ℕ) → List ℕ → Type 0
IsTooLarge before text =
    (most : ℕ)
    × (is_number text ≡ true)
    × (most_by_last before ≡ Some most)
    × (most < value_of text)

-- a number too large for its place is too large by the last tokens
pub large_at : (place : LoopPlace) (before : List (List ℕ)) (head : LoopHead)
    (open_now : List LoopBlock) (text : List ℕ)
    → LastAt place before
    → is_allowed place head open_now text ≡ true
    → is_number_too_large place text ≡ true
    → IsTooLarge before text
large_at WorkNumber before head open_now text h allowed large =
    (LARGEST_COST, allowed, h, ltb-true LARGEST_COST (value_of text) large)
large_at ForFrom before head open_now text h allowed large = (
  LARGEST_BOUND,
  allowed,
  most_is ForFrom before head open_now text h allowed allowed,
  ltb-true LARGEST_BOUND (value_of text) large,
)
large_at ForTo before head open_now text h allowed large = (
  LARGEST_BOUND,
  allowed,
  most_is ForTo before head open_now text h allowed allowed,
  ltb-true LARGEST_BOUND (value_of text) large,
)
large_at IfNumber before head open_now text h allowed large =
    (1, allowed, h, ltb-true 1 (value_of text) large)
large_at FinalNumber before head open_now text h allowed large =
    (1, allowed, h, ltb-true 1 (value_of text) large)
large_at _ before head open_now text h allowed large = absurd cc

up_to : (limit most value : ℕ)
    → Option.Some limit ≡ Some most
    → nat_lt limit value ≡ false
    → most < value
    → ⊥
up_to limit most value same small above =
    let limit_is : limit ≡ most = cc in
    let fits : value ≤ limit = ltb-false limit value small in
    absurd (omega (arith, limit_is, fits, above))

not_above : (place : LoopPlace) (text : List ℕ) (most : ℕ)
    → most_at place ≡ Some most
    → is_number_too_large place text ≡ false
    → most < value_of text
    → ⊥
not_above WorkNumber text most h small above =
    up_to LARGEST_COST most (value_of text) h small above
not_above ForFrom text most h small above =
    up_to LARGEST_BOUND most (value_of text) h small above
not_above ForTo text most h small above =
    up_to LARGEST_BOUND most (value_of text) h small above
not_above IfNumber text most h small above = up_to 1 most (value_of text) h small above
not_above FinalNumber text most h small above = up_to 1 most (value_of text) h small above
not_above _ text most h small above = absurd cc

-- and one that is not, is not
pub small_at : (place : LoopPlace) (before : List (List ℕ)) (head : LoopHead)
    (open_now : List LoopBlock) (text : List ℕ)
    → LastAt place before
    → is_allowed place head open_now text ≡ true
    → is_number_too_large place text ≡ false
    → IsTooLarge before text
    → ⊥
small_at place before head open_now text h allowed small large =
    not_above place text large.0
    (sym (most_is place before head open_now text h allowed large.1) ∙ large.2) small large.3
