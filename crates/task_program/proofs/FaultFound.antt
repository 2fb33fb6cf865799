-- The fault that is reported is the first.
use Rattle.std.proofs.Common.{◌≡◌, ℕ, ◌+◌, ◌≤◌, Bool, true, false, not, cond, List, [], ◌∷◌, ◌++◌}
use Rattle.std.proofs.Common.{length, Option, Some, None, Result, Ok, Err, refl, sym}
use Rattle.std.proofs.Common.{ap, subst, ◌∙◌, arith, codes}
use Rattle.std.specs.Prelude.{sum_by, nat_lt, drop, map, MatchBool}
use Rattle.std.proofs.lemmas.Bool.{ltb-false, ltb-true, not-false, MatchBool-at_true, MatchBool-at_false}
use Rattle.std.proofs.lemmas.List.{append-nil, length-map, drop-append-le}
use Rattle.program_text.specs.declared.fault.ReadKind.{ReadKind}
use Rattle.program_text.specs.declared.fault.ReadKind.TheVariants.{TooLong, BadHeader, BadWord}
use Rattle.program_text.specs.declared.fault.ReadKind.TheVariants.{Unclosed, Unopened}
use Rattle.program_text.specs.declared.fault.ReadFault.{ReadFault}
use Rattle.task_program.specs.declared.place.Place.{Place}
use Rattle.task_program.specs.declared.place.Place.TheVariants.{Header, Version, Statement}
use Rattle.task_program.specs.declared.place.Place.TheVariants.{WorkNumber, GroupBrace, Clause}
use Rattle.task_program.specs.declared.place.Place.TheVariants.{DependMore}
use Rattle.program_text.specs.declared.limits.TheConstants.{MOST_TEXT_BYTES, MOST_TOKEN_BYTES}
use Rattle.program_text.specs.declared.limits.TheConstants.{MOST_NESTING, MOST_ITEMS}
use Rattle.program_text.specs.Tokens.{Token, texts, tokens_of, line_at_end}
use Rattle.program_text.specs.TokenFaults.{form_fault_within}
use Rattle.program_text.specs.Words.{is_text}
use Rattle.task_program.specs.Within.{IsWithin, pending_tasks, pending_segments}
use Rattle.program_text.specs.Limits.{tasks_of, segments_of}
use Rattle.task_program.specs.ProgramMarks.{ProgramMarks}
use Rattle.task_program.specs.Faults.{State, place_fault, is_header}
use Rattle.task_program.specs.Faults.{form_fault}
use Rattle.task_program.specs.TreeSoFar.{Block}
use Rattle.task_program.specs.Faults.{closes_nothing, is_allowed, unless_fault, step, after_at}
use Rattle.task_program.specs.Faults.{line_of_block, end_at, program_or_fault, read_tokens}
use Rattle.task_program.specs.Faults.{start, one_pass}
use Rattle.task_program.specs.ReadInVersion.{program_of}
use Rattle.task_program.specs.Versions.{begins_version_two}
use Rattle.task_program.specs.TokenCounts.{open_braces, too_many_after, limit_fault_after}
use Rattle.task_program.specs.TokenCounts.{tasks_in, segments_in}
use Rattle.task_program.proofs.TokenLimits.{too_many_so}
use Rattle.task_program.specs.FirstPlainFault.{IsSentence}
use Rattle.task_program.specs.FirstFault.{Rules, IsViable, IsWrong, IsRight, EndsEarly}
use Rattle.task_program.specs.FirstPlainFault.{plain_rules, program_rules}
use Rattle.task_program.proofs.MachineFaults.{IsToldApart, FaultIsFirst, HasPlainFault}
use Rattle.task_program.specs.FirstFault.IsMisplaced.{OfHeader, AfterWhole, Elsewhere}
use Rattle.task_program.specs.FirstFault.IsWrong.{ByItself, Misplaced, PastLimit}
use Rattle.task_program.specs.FirstFault.EndsEarly.{InHeader, BlockOpen, Inside}
use Rattle.task_program.proofs.FirstFaults.{fault_so}
use Rattle.task_program.proofs.Machines.{Machine, WrongSo, EndsSo, refused, whole_read, read_whole}
use Rattle.task_program.proofs.Keeping.{at, passes, unless_ok, ok_is, step_keeps}
use Rattle.task_program.proofs.ReadWhole.{of_one, too_long, same_fault, refused_with}
use Rattle.task_program.proofs.Shapes.{closes_none, fits_at, FollowsAt, nothing_follows}
use Rattle.task_program.proofs.Accepting.{is_whole, sentence_accepted}
use Rattle.task_program.proofs.Tallies.{Tally, tally_of, tally_after, tally_now, limit_of, limits}
use Rattle.task_program.proofs.Tallies.{NoItems, is_past_header, tally_more, place_tallies}
use Rattle.task_program.proofs.Tallies.{place_limits, header_tallies, header_limits}
use Rattle.task_program.proofs.Tallies.{nothing_counted, too_many_with}
use Rattle.task_program.proofs.Begun.{LengthAt, Began, is_not_viable, viable_next, fits_of}
use Rattle.task_program.proofs.Begun.{step_begins, row_cases, in_header, after_header, closes_at}
use Rattle.task_program.proofs.Begun.{whole_closes, whole_now, closes_same, no_header, no_close}
use Rattle.task_program.proofs.Begun.{none_allowed, texts_more}
use Rattle.program_text.proofs.Bools.{bool_cases}

-- ---- what is known where these tokens were read

record Counts (before : List Token) (state : State) : Type 0 where
  began : Began (texts before) state
  tally_is : tally_of (drop 2 before) ≡ tally_now state
  within : IsWithin state
  no_items : NoItems state.place state.head.items

pub texts_long : (before : List Token) → length (texts before) ≡ length before
texts_long before = length-map before (λ (t : Token). t.text)

pub past_long : (place : Place) (n : ℕ) → LengthAt place n → is_past_header place ≡ true → 2 ≤ n
past_long Header n h past = absurd cc
past_long Version n h past = absurd cc
past_long _ n h past = h

pub header_short : (place : Place) (n : ℕ) → LengthAt place n → is_past_header place ≡ false → n ≤ 1
header_short Header n h past = omega (arith, h)
header_short Version n h past = omega (arith, h)
header_short _ n h past = absurd cc

-- the header has two tokens
pub nothing_after : (before : List Token) → length before ≤ 1 → drop 2 before ≡ []
nothing_after [] h = refl
nothing_after (first ∷ []) h = refl
nothing_after (first ∷ second ∷ before) h = absurd (omega (arith, h))

pub nothing_after_one : (before : List Token) (token : Token)
    → length before ≤ 1
    → drop 2 (before ++ token ∷ []) ≡ []
nothing_after_one [] token h = refl
nothing_after_one (first ∷ []) token h = refl
nothing_after_one (first ∷ second ∷ before) token h = absurd (omega (arith, h))

-- items stand in the head only where a task is being read
pub items_go : (place : Place) (state : State) (text : List ℕ) (line : ℕ)
    → NoItems place state.head.items
    → NoItems (after_at place (at state place) text line).place
    (after_at place (at state place) text line).head.items
items_go Header state text line h = h
items_go Version state text line h = h
items_go Statement state text line h =
    bool_cases (is_text text (codes "work"))
    (λ work. rw work h)
    (λ no_work. bool_cases (is_text text (codes "task"))
    (λ task. rw (no_work, task) tt)
    (λ no_task. bool_cases (is_text text (codes "taskwait"))
    (λ wait. rw (no_work, no_task, wait) h)
    (λ no_wait. bool_cases (is_text text (codes "taskgroup"))
    (λ group. rw (no_work, no_task, no_wait, group) h)
    (λ no_group. rw (no_work, no_task, no_wait, no_group) h))))
items_go WorkNumber state text line h = h
items_go GroupBrace state text line h = h
items_go Clause state text line h =
    bool_cases (is_text text (codes "{"))
    (λ brace. rw brace refl)
    (λ no_brace. bool_cases (is_text text (codes "if"))
    (λ if_word. rw (no_brace, if_word) tt)
    (λ no_if. rw (no_brace, no_if) tt))
items_go (DependMore kind) state text line h =
    bool_cases (is_text text (codes ","))
    (λ comma. rw comma tt)
    (λ other. rw other tt)
items_go _ state text line h = tt

header_limitless : (place : Place) (state : State) (text : List ℕ) → is_past_header place ≡ false
    → limits (at state place) text ≡ None
header_limitless Header state text here = refl
header_limitless Version state text here = refl
header_limitless _ state text here = absurd cc

limits_told : (before : List Token) (state : State) (text : List ℕ) → Counts before state
    → is_header state.place text ≡ true → is_allowed state.place state.head.has_if text ≡ true
    → limit_fault_after MOST_NESTING MOST_ITEMS (too_many_with (texts (drop 2 before)) text) (drop 2 before)
    text
    ≡ limits state text
limits_told before state text c header allowed =
    bool_cases (is_past_header state.place)
    (λ past. ap (λ (t : Tally). limit_of t text) c.tally_is
    ∙ place_limits state.place state text past c.within.items allowed)
    (λ here.
    let short : length before
    ≤ 1 = omega (
      arith,
      texts_long before,
      header_short state.place (length (texts before)) c.began.length_is here,
    )
    in
    ap (λ (ts : List Token). limit_fault_after MOST_NESTING MOST_ITEMS (too_many_with (texts ts) text) ts text) (nothing_after before short)
    ∙ header_limits state.place text here header
    ∙ sym (header_limitless state.place state text here))

-- the limits counted on the tokens are those that the reading tests
limits_so : (before : List Token) (state : State) (text : List ℕ) → Counts before state
    → is_header state.place text ≡ true → is_allowed state.place state.head.has_if text ≡ true
    → limit_fault_after MOST_NESTING MOST_ITEMS (too_many_after (drop 2 before) text) (drop 2 before) text
    ≡ limits state text
limits_so before state text c header allowed =
    let body = drop 2 before in
    let tasks : tasks_in (texts body)
    ≡ tasks_of state.tree.marks + pending_tasks state.place =
    ap (λ (t : Tally). t.tasks) c.tally_is in
    let segments : segments_in (texts body)
    ≡ segments_of state.tree.marks + pending_segments state.place =
    ap (λ (t : Tally). t.segments) c.tally_is in
    ap (λ (found : Option ReadKind). limit_fault_after MOST_NESTING MOST_ITEMS found body text)
    (too_many_so body text (omega (arith, tasks, c.within.tasks))
    (omega (arith, segments, c.within.segments)))
    ∙ limits_told before state text c header allowed

-- the tally of the tokens goes on as the state does
pub tally_goes : (before : List Token) (state : State) (bytes : ℕ) (next : State) (token : Token)
    → Began (texts before) state
    → tally_of (drop 2 before) ≡ tally_now state
    → NoItems state.place state.head.items
    → is_allowed state.place state.head.has_if token.text ≡ true
    → after_at state.place (record state { bytes = bytes }) token.text token.line ≡ next
    → tally_of (drop 2 (before ++ token ∷ [])) ≡ tally_now next
tally_goes before state bytes next token began tally_is no_items allowed same =
    let inside : State = record state { bytes = bytes } in
    let on : tally_now (after_at state.place inside token.text token.line) ≡ tally_now next =
    ap (λ (s : State). tally_now s) same in
    bool_cases (is_past_header state.place)
    (λ past.
    let long : 2
    ≤ length before = omega
    (arith, texts_long before, past_long state.place (length (texts before)) began.length_is past)
    in
    ap (λ (ts : List Token). tally_of ts) (drop-append-le 2 before (token ∷ []) long)
    ∙ tally_more (drop 2 before) token
    ∙ ap (λ (t : Tally). tally_after t token) tally_is
    ∙ place_tallies state.place inside token.text token.line past no_items allowed ∙ on)
    (λ here.
    let short : length before
    ≤ 1 = omega (
      arith,
      texts_long before,
      header_short state.place (length (texts before)) began.length_is here,
    )
    in
    ap (λ (ts : List Token). tally_of ts)
    (nothing_after_one before token short ∙ sym (nothing_after before short))
    ∙ tally_is
    ∙ header_tallies state.place inside token.text token.line here
    ∙ on)

-- nothing is wrong with a token after which the reading goes on
token_right : (before : List Token) (state next : State) (token : Token) → Counts before state
    → step state token ≡ Ok next → IsRight program_rules before token.text
unfolding step
token_right before state next token c h =
    let passed = unless_ok (form_fault state.bytes token.text) token.line _ next h in
    let inside : State = record state { bytes = state.bytes + length token.text } in
    let no_fault = passes inside token.text
    (unless_ok (place_fault inside token.text) token.line _ next passed.1).0 in
    let no_limit : limits state token.text ≡ None =
    rw (
      no_fault.number,
      no_fault.nesting,
      no_fault.tasks,
      no_fault.segments,
      no_fault.items,
      no_fault.work,
    ) refl in
    record {
      formed = subst (λ (n : ℕ). form_fault n token.text ≡ None) c.began.bytes_are passed.0;
      viable = viable_next (texts before) state token.text c.began
          (fits_of state token.text no_fault.header no_fault.unopened no_fault.allowed);
      within =
          limits_so before state token.text c (not-false _ no_fault.header)
          (not-false _ no_fault.allowed) ∙
          no_limit;
    }

-- the tally of what was read is still that of the state, one token later
counts_more : (before : List Token) (state next : State) (token : Token) → Counts before state
    → step state token ≡ Ok next → Counts (before ++ token ∷ []) next
unfolding step
counts_more before state next token c h =
    let passed = unless_ok (form_fault state.bytes token.text) token.line _ next h in
    let inside : State = record state { bytes = state.bytes + length token.text } in
    let placed = unless_ok (place_fault inside token.text) token.line _ next passed.1 in
    let same = ok_is (after_at state.place inside token.text token.line) next placed.1 in
    let allowed : is_allowed state.place state.head.has_if token.text ≡ true =
    not-false _ (passes inside token.text placed.0).allowed in
    record {
      began = subst (λ (ts : List (List ℕ)). Began ts next) (sym (texts_more before token))
          (step_begins (texts before) state next token c.began h);
      tally_is =
          tally_goes before state (state.bytes + length token.text) next token c.began c.tally_is
          c.no_items allowed same;
      within = step_keeps state token next c.within h;
      no_items = subst (λ (s : State). NoItems s.place s.head.items) same
          (items_go state.place inside token.text token.line c.no_items);
    }

-- ---- the fault of a token

module _ (token_bytes nesting most_items : ℕ) (too_many : List Token → List ℕ → Option ReadKind) where
  -- the grammar has not the token there, or the fault is one that is looked for later
  pub misplaced_or : (before : List Token) (state : State) (text : List ℕ) (kind : ReadKind)
      (closes : Bool) (later : Option ReadKind)
      → Began (texts before) state
      → form_fault_within token_bytes (sum_by length (texts before)) text ≡ None
      → closes ≡ closes_none state.place (length state.tree.blocks) text
      → cond (not (is_header state.place text)) (Some BadHeader)
      (cond closes (Some Unopened)
      (cond (not (is_allowed state.place state.head.has_if text)) (Some BadWord) later))
      ≡ Some kind
      → (not (is_header state.place text) ≡ false
      → closes ≡ false
      → not (is_allowed state.place state.head.has_if text) ≡ false
      → later ≡ Some kind
      → IsWrong (plain_rules token_bytes nesting most_items too_many) before text kind)
      → IsWrong (plain_rules token_bytes nesting most_items too_many) before text kind
  misplaced_or before state text kind closes later began formed closes_so h past =
      let place = state.place in
      let depth = length state.tree.blocks in
      let header_is = is_header place text in
      let allowed_is = is_allowed place state.head.has_if text in
      let closes_is = closes_none place depth text in
      let wrong = IsWrong (plain_rules token_bytes nesting most_items too_many) before text in
      row_cases (not header_is) BadHeader kind _ h
      (λ bad same. subst wrong same (Misplaced formed
      (is_not_viable (texts before) state text began (no_header header_is closes_is allowed_is bad))
      (OfHeader (in_header place text (length (texts before)) began.length_is bad))))
      (λ header h1. row_cases closes Unopened kind _ h1
      (λ closed same.
      let whole = closes_at place state.head.has_if depth text (sym closes_so ∙ closed) in
      let sentence : IsSentence (texts before) =
      subst IsSentence (append-nil (texts before)) (began.follows [] whole.1) in
      subst wrong same (Misplaced formed
      (is_not_viable (texts before) state text began
      (no_close header_is closes closes_is allowed_is closed closes_so))
      (AfterWhole sentence whole.0)))
      (λ unopened h2. row_cases (not allowed_is) BadWord kind later h2
      (λ bad same.
      let no_whole : IsSentence (texts before) → text ≡ codes "}" → ⊥ = λ s text_is. absurd
      (let wrong : true ≡ false =
      sym (whole_closes place depth text (whole_now (texts before) state began s) text_is)
      ∙ sym closes_so
      ∙ unopened in cc)
      in
      subst wrong same (Misplaced formed
      (is_not_viable (texts before) state text began
      (none_allowed header_is closes_is allowed_is bad))
      (Elsewhere
      (after_header place state.head.has_if text (length (texts before)) began.length_is bad)
      no_whole)))
      (λ allowed h3. past header unopened allowed h3)))

-- the fault of a token that is none by itself
at_place : (before : List Token) (state : State) (text : List ℕ) (kind : ReadKind)
    → Counts before state
    → form_fault (sum_by length (texts before)) text ≡ None
    → place_fault state text ≡ Some kind
    → IsWrong program_rules before text kind
at_place before state text kind c formed h =
    misplaced_or MOST_TOKEN_BYTES MOST_NESTING MOST_ITEMS too_many_after before state text kind
    (closes_nothing state.place state.tree.blocks text) _ c.began formed
    (closes_same state.place state.tree.blocks text) h
    (λ header unopened allowed later. PastLimit formed
    (viable_next (texts before) state text c.began (fits_of state text header unopened allowed))
    (limits_so before state text c (not-false _ header) (not-false _ allowed) ∙ later))

pub unless_err : {P : Type 0} (found : Option ReadKind) (line : ℕ) (after : Result State ReadFault)
    (fault : ReadFault)
    → unless_fault found line after ≡ Err fault
    → ((kind : ReadKind) → found ≡ Some kind → fault_so kind line ≡ fault → P)
    → (found ≡ None → after ≡ Err fault → P) → P
unless_err (Some kind) line after fault h here later = here kind refl cc
unless_err None line after fault h here later = later refl h

-- a token is wrong at which the reading stops
token_wrong : (before : List Token) (state : State) (token : Token) (fault : ReadFault)
    → Counts before state
    → step state token ≡ Err fault
    → WrongSo program_rules before token fault
unfolding step
token_wrong before state token fault c h =
    let inside : State = record state { bytes = state.bytes + length token.text } in
    unless_err (form_fault state.bytes token.text) token.line _ fault h
    (λ kind form same. (
      kind,
      ByItself
          (subst (λ (n : ℕ). form_fault n token.text ≡ Some kind) c.began.bytes_are form),
      same,
    ))
    (λ form h1. unless_err (place_fault inside token.text) token.line _ fault h1
    (λ kind place same. (
      kind,
      at_place before state token.text kind c
          (subst (λ (n : ℕ). form_fault n token.text ≡ None) c.began.bytes_are form) place,
      same,
    ))
    (λ none wrong. absurd cc))

-- ---- the end

module _ (token_bytes nesting most_items : ℕ) (too_many : List Token → List ℕ → Option ReadKind) where
  abbrev rules : Rules
  rules = plain_rules token_bytes nesting most_items too_many

  -- a text that ends where it may not ends too early, as the definition says
  pub end_by : (all : List Token) (place : Place) (has_if : Bool) (blocks : List Block)
      (end_line : ℕ) (fault : ReadFault)
      → LengthAt place (length all)
      → open_braces (drop 2 all) ≡ map line_of_block blocks
      → (fits_at place has_if (length blocks) (codes "}") ≡ true
      → IsViable IsSentence (texts all ++ codes "}" ∷ []))
      → (fits_at place has_if (length blocks) (codes "}") ≡ false
      → IsViable IsSentence (texts all ++ codes "}" ∷ []) → ⊥)
      → end_at place blocks end_line ≡ Some fault
      → EndsEarly (plain_rules token_bytes nesting most_items too_many) all end_line fault
  end_by all Header has_if blocks end_line fault long braces can cannot h =
      let same : fault_so BadHeader end_line ≡ fault = cc in
      subst (EndsEarly rules all end_line) same (InHeader (omega (arith, long)))
  end_by all Version has_if blocks end_line fault long braces can cannot h =
      let same : fault_so BadHeader end_line ≡ fault = cc in
      subst (EndsEarly rules all end_line) same (InHeader (omega (arith, long)))
  end_by all Statement has_if [] end_line fault long braces can cannot h = absurd cc
  end_by all Statement has_if (block ∷ blocks) end_line fault long braces can cannot h =
      let same : fault_so Unclosed (line_of_block block) ≡ fault = cc in
      subst (EndsEarly rules all end_line) same
      (BlockOpen (line_of_block block) (map line_of_block blocks) (can refl) braces)
  end_by all _ has_if blocks end_line fault long braces can cannot h =
      let same : fault_so BadWord end_line ≡ fault = cc in
      subst (EndsEarly rules all end_line) same (Inside long (cannot refl))

pub whole_ends : (place : Place) (blocks : List Block) (line : ℕ) (fault : ReadFault)
    → is_whole place (length blocks) ≡ true → end_at place blocks line ≡ Some fault → ⊥
whole_ends Statement [] line fault h g = absurd cc
whole_ends Statement (block ∷ blocks) line fault h g = absurd cc
whole_ends _ blocks line fault h g = absurd cc

ended_err : (found : Option ReadFault) (state : State) (fault : ReadFault)
    → program_or_fault found state ≡ Err fault
    → found ≡ Some fault
ended_err (Some other) state fault h = cc
ended_err None state fault h = absurd cc

pub ended_ok : (place : Place) (has_if : Bool) (blocks : List Block) (line : ℕ) (state : State)
    (program : ProgramMarks)
    → program_or_fault (end_at place blocks line) state ≡ Ok program
    → FollowsAt place has_if (length blocks) []
ended_ok Statement has_if [] line state program h = nothing_follows has_if
ended_ok Statement has_if (block ∷ blocks) line state program h = absurd cc
ended_ok _ has_if blocks line state program h = absurd cc

early_at : (all : List Token) (state : State) (end_line : ℕ) (fault : ReadFault) → Counts all state
    → end_at state.place state.tree.blocks end_line ≡ Some fault → EndsEarly program_rules all end_line fault
early_at all state end_line fault c h =
    let began = c.began in
    end_by MOST_TOKEN_BYTES MOST_NESTING MOST_ITEMS too_many_after all state.place state.head.has_if state.tree.blocks end_line fault
    (subst (λ (n : ℕ). LengthAt state.place n) (texts_long all) began.length_is)
    (ap (λ (t : Tally). t.braces) c.tally_is) (viable_next (texts all) state (codes "}") began)
    (is_not_viable (texts all) state (codes "}") began) h

end_is : (state : State) (line : ℕ) (fault : ReadFault) → read_tokens [] line state ≡ Err fault
    → end_at state.place state.tree.blocks line ≡ Some fault
unfolding read_tokens
end_is state line fault h = ended_err (end_at state.place state.tree.blocks line) state fault h

sentence_long : (texts : List (List ℕ)) → IsSentence texts → 2 ≤ length texts
sentence_long texts s = omega (arith, ap (λ (ts : List (List ℕ)). length ts) s.spelled)

-- before the first token nothing is counted
at_start : Counts [] start
at_start = record {
  began = record {
    follows = λ later f. f;
    accepted = λ later s. sentence_accepted later s;
    length_is = refl;
    bytes_are = refl;
  };
  tally_is = nothing_counted;
  within = record {
    tasks = omega arith;
    segments = omega arith;
    work = omega arith;
    nesting = omega arith;
    items = omega arith;
    names = omega arith;
    bytes = omega arith;
  };
  no_items = refl;
}

-- ---- the whole

one_on : (token : Token) (later : List Token) (line : ℕ) (state next : State)
    → step state token ≡ Ok next
    → read_tokens (token ∷ later) line state ≡ read_tokens later line next
unfolding read_tokens
one_on token later line state next h = rw h refl

one_stops : (token : Token) (later : List Token) (line : ℕ) (state : State) (fault : ReadFault)
    → step state token ≡ Err fault → read_tokens (token ∷ later) line state ≡ Err fault
unfolding read_tokens
one_stops token later line state fault h = rw h refl

whole_at : (all : List Token) (line : ℕ) (state : State) (program : ProgramMarks)
    → Counts all state
    → read_tokens [] line state ≡ Ok program
    → IsSentence (texts all)
unfolding read_tokens
whole_at all line state program c h =
    subst IsSentence (append-nil (texts all)) (c.began.follows []
    (ended_ok state.place state.head.has_if state.tree.blocks line state program h))

ends_so : (all : List Token) (line : ℕ) (state : State) (fault : ReadFault)
    → Counts all state
    → read_tokens [] line state ≡ Err fault
    → EndsSo program_rules all line fault
ends_so all line state fault c h =
    let ended = end_is state line fault h in (
      λ s. whole_ends state.place state.tree.blocks line fault
          (whole_now (texts all) state c.began s) ended,
      early_at all state line fault c ended,
    )

abbrev reading : Machine program_rules State ProgramMarks
reading = record {
  start = start;
  step = step;
  read = read_tokens;
  goes_on = one_on;
  stops = one_stops;
  Known = Counts;
  at_start = at_start;
  after = counts_more;
  right = token_right;
  wrong = token_wrong;
  whole = whole_at;
  early = ends_so;
}

-- a text of version 1 is read or has a first fault, and never both
told_apart : (text : List ℕ)
    → begins_version_two (tokens_of text) ≡ false
    → nat_lt MOST_TEXT_BYTES (length text) ≡ false
    → IsToldApart text
told_apart text one short =
    let fits = ltb-false MOST_TEXT_BYTES (length text) short in
    let so : program_of text ≡ one_pass text = of_one text fits one in
    let line = line_at_end 1 text in
    record {
      read = (
        λ r. record {
          text_fits = fits;
          whole = whole_read program_rules reading (tokens_of text) line r.0 (sym so ∙ r.1);
        },
        λ w. let read = read_whole program_rules reading (tokens_of text) line w.whole in
            (read.0, so ∙ read.1),
      );
      refused = λ fault. (
        λ h. subst (λ (b : Bool). MatchBool b (fault ≡ fault_so TooLong 1)
            (HasPlainFault text fault)) (sym short)
            ((refused program_rules reading sentence_long (tokens_of text) line fault).0
            (sym so ∙ h)),
        λ h. so
            ∙ (refused program_rules reading sentence_long (tokens_of text) line fault).1
            (MatchBool-at_false (fault ≡ fault_so TooLong 1) (HasPlainFault text fault) short h),
      );
    }

-- and so with a text of too many bytes
long_apart : (text : List ℕ) → nat_lt MOST_TEXT_BYTES (length text) ≡ true → IsToldApart text
long_apart text long =
    let longer = ltb-true MOST_TEXT_BYTES (length text) long in
    record {
      read = (
        λ r. absurd (let wrong = sym (too_long text long) ∙ r.1 in cc),
        λ w. absurd (omega (arith, longer, w.text_fits)),
      );
      refused = λ fault. (
        λ h. subst (λ (b : Bool). MatchBool b (fault ≡ fault_so TooLong 1)
            (HasPlainFault text fault)) (sym long)
            (sym (same_fault (program_of text) (fault_so TooLong 1) fault (too_long text long) h)),
        λ h. refused_with (program_of text) (fault_so TooLong 1) fault (too_long text long)
            (MatchBool-at_true (fault ≡ fault_so TooLong 1) (HasPlainFault text fault) long h),
      );
    }

pub fault_is_first : (text : List ℕ) → FaultIsFirst text
fault_is_first text one =
    bool_cases (nat_lt MOST_TEXT_BYTES (length text)) (λ long. long_apart text long)
    (λ short. told_apart text one short)
