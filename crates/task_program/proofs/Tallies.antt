-- What was counted on the tokens is what the reading has counted on the marks.
use Rattle.std.proofs.Common.{◌≡◌, ℕ, ◌+◌, ◌≤◌, Bool, true, false, not, ◌&&◌, ◌||◌, cond, List, []}
use Rattle.std.proofs.Common.{◌∷◌, ◌++◌, length, map, length-append, Option, Some, None, refl, sym}
use Rattle.std.proofs.Common.{ap, subst, ◌∙◌, arith, codes}
use Rattle.std.specs.Prelude.{fold, sum_by, nat_lt, nat_le}
use Rattle.std.proofs.lemmas.Bool.{le-ltb, lt-ltb, leb-true, leb-false, eqb-true, and_parts}
use Rattle.std.proofs.lemmas.List.{map_push, length-map}
use Rattle.std.proofs.lemmas.List.Sums.{fold-append, sum_by-append}
use Rattle.program_text.specs.declared.fault.ReadKind.{ReadKind}
use Rattle.program_text.specs.declared.fault.ReadKind.TheVariants.{BadNumber, TooDeep, TooManyTasks}
use Rattle.program_text.specs.declared.fault.ReadKind.TheVariants.{TooManySegments, TooManyItems}
use Rattle.program_text.specs.declared.fault.ReadKind.TheVariants.{WorkTooLarge}
use Rattle.task_program.specs.declared.place.Place.{Place}
use Rattle.task_program.specs.declared.place.Place.TheVariants.{Header, Version, Statement}
use Rattle.task_program.specs.declared.place.Place.TheVariants.{WorkNumber, GroupBrace, Clause}
use Rattle.task_program.specs.declared.place.Place.TheVariants.{IfNumber, IfCloses}
use Rattle.task_program.specs.declared.place.Place.TheVariants.{DependType}
use Rattle.task_program.specs.declared.place.Place.TheVariants.{DependColon, DependName, DependMore}
use Rattle.program_text.specs.declared.statement.DependKind.{DependKind}
use Rattle.program_text.specs.declared.statement.DependKind.TheVariants.{DependIn, DependOut}
use Rattle.program_text.specs.declared.statement.DependKind.TheVariants.{DependInOut}
use Rattle.program_text.specs.declared.statement.DependKind.TheVariants.{DependInOutSet}
use Rattle.program_text.specs.declared.statement.Item.{Item}
use Rattle.program_text.specs.Marks.{Mark}
use Rattle.program_text.specs.Marks.Mark.{Begins, Ends, Works, Waits, GroupBegins, GroupEnds}
use Rattle.program_text.specs.Limits.{tasks_begun, segments_opened, work_done, tasks_of}
use Rattle.program_text.specs.Limits.{segments_of, work_of}
use Rattle.program_text.specs.declared.limits.TheConstants.{MOST_TASKS, MOST_SEGMENTS, MOST_NESTING}
use Rattle.program_text.specs.declared.limits.TheConstants.{MOST_ITEMS, MOST_WORK}
use Rattle.task_program.specs.Names.{number_of_name}
use Rattle.program_text.specs.Tokens.{Token, texts}
use Rattle.program_text.specs.Words.{is_text, is_run, begins_with_digit, is_word, is_number}
use Rattle.program_text.specs.Words.{value_of, type_word, type_of}
use Rattle.task_program.specs.Within.{pending_tasks, pending_segments}
use Rattle.task_program.specs.Faults.{State, is_header, is_allowed, is_number_too_large}
use Rattle.task_program.specs.TreeSoFar.{Block}
use Rattle.task_program.specs.Faults.{nests_too_deep, is_task_too_many, are_segments_too_many}
use Rattle.task_program.specs.Faults.{is_item_too_many, is_work_too_large, after_at}
use Rattle.task_program.specs.TreeSoFar.{after_end_of}
use Rattle.task_program.specs.Faults.{line_of_block}
use Rattle.task_program.specs.TreeSoFar.Block.{TaskBlock, GroupBlock}
use Rattle.std.specs.Option.{option_or}
use Rattle.task_program.specs.TokenCounts.{inside_after, is_inside, outside_from, outside, tasks_by}
use Rattle.task_program.specs.TokenCounts.{is_waiting, is_value_too_large, is_too_deep}
use Rattle.task_program.specs.TokenCounts.{is_work_past, segments_by}
use Rattle.task_program.specs.TokenCounts.{work_by, tasks_in, segments_in, work_in, items_after}
use Rattle.task_program.specs.TokenCounts.{items_in, braces_after, open_braces}
use Rattle.task_program.specs.TokenCounts.{limit_fault_after}
use Rattle.task_program.proofs.Keeping.{at, with_one}
use Rattle.task_program.proofs.FoundPlaces.{same_text}
use Rattle.task_program.proofs.Found.{type_is, is_depend, is_end}
use Rattle.program_text.proofs.Bools.{or_true_right, bool_cases}

-- ---- one token more

outside_more : (inside : Bool) (before : List (List ℕ)) (text : List ℕ)
    → outside_from inside (before ++ text ∷ [])
    ≡ outside_from inside before ++ cond (fold inside_after inside before) [] (text ∷ [])
unfolding outside_from
outside_more true [] text = refl
outside_more false [] text = refl
outside_more true (first ∷ before) text = outside_more (inside_after true first) before text
outside_more false (first ∷ before) text =
    ap (λ (ts : List (List ℕ)). first ∷ ts) (outside_more (inside_after false first) before text)

weigh_either : (weight : List ℕ → ℕ) (inside : Bool) (text : List ℕ)
    → sum_by weight (cond inside [] (text ∷ [])) ≡ cond inside 0 (weight text)
weigh_either weight true text = refl
weigh_either weight false text = omega arith

-- outside parentheses it counts
pub sum_more : (weight : List ℕ → ℕ) (before : List (List ℕ)) (text : List ℕ)
    → sum_by weight (outside (before ++ text ∷ []))
    ≡ sum_by weight (outside before) + cond (is_inside before) 0 (weight text)
sum_more weight before text =
    ap (sum_by weight) (outside_more false before text)
    ∙ sum_by-append weight (outside before) (cond (is_inside before) [] (text ∷ []))
    ∙ ap (λ (n : ℕ). sum_by weight (outside before) + n)
    (weigh_either weight (is_inside before) text)

pub record Tally : Type 0 where
  pub inside : Bool
  pub tasks : ℕ
  pub segments : ℕ
  pub work : ℕ
  pub items : ℕ
  pub braces : List ℕ

abbrev pub tally_so : (inside : Bool) (tasks segments work items : ℕ) (braces : List ℕ) → Tally
tally_so inside tasks segments work items
    braces = record {
      inside = inside;
      tasks = tasks;
      segments = segments;
      work = work;
      items = items;
      braces = braces;
    }

-- a tally whose parts are the same is the same
same_tally : (inside inside' : Bool) (tasks tasks' segments segments' work work' items items' : ℕ)
    (braces braces' : List ℕ)
    → inside ≡ inside'
    → tasks ≡ tasks'
    → segments ≡ segments'
    → work ≡ work'
    → items ≡ items'
    → braces ≡ braces'
    → tally_so inside tasks segments work items braces
    ≡ tally_so inside' tasks' segments' work' items' braces'
same_tally inside inside' tasks tasks' segments segments' work work' items items' braces braces' a b
    c d e f =
    rw (a, b, c, d, e, f) refl

abbrev pub tally_of : List Token → Tally
tally_of body =
    let before = texts body in
    tally_so (is_inside before) (tasks_in before) (segments_in before) (work_in before)
    (items_in before) (open_braces body)

abbrev pub tally_after : Tally → Token → Tally
tally_after t token =
    tally_so (inside_after t.inside token.text) (t.tasks + cond t.inside 0 (tasks_by token.text))
    (t.segments + cond t.inside 0 (segments_by token.text))
    (t.work + cond t.inside 0 (work_by token.text)) (items_after t.items token.text)
    (braces_after t.braces token)

-- the tally of one token more
pub tally_more : (body : List Token) (token : Token)
    → tally_of (body ++ token ∷ []) ≡ tally_after (tally_of body) token
tally_more body token =
    let before = texts body in
    let text = token.text in
    let more : texts (body ++ token ∷ []) ≡ before ++ text ∷ [] =
    map_push (λ (t : Token). t.text) body token in
    let segments_more : segments_in (before ++ text ∷ [])
    ≡ segments_in before + cond (is_inside before) 0 (segments_by text) =
    omega (arith, sum_more segments_by before text) in
    same_tally _ _ _ _ _ _ _ _ _ _ _ _
    (ap (λ (ts : List (List ℕ)). is_inside ts) more
    ∙ fold-append inside_after false before (text ∷ []))
    (ap (λ (ts : List (List ℕ)). tasks_in ts) more ∙ sum_more tasks_by before text)
    (ap (λ (ts : List (List ℕ)). segments_in ts) more ∙ segments_more)
    (ap (λ (ts : List (List ℕ)). work_in ts) more ∙ sum_more work_by before text)
    (ap (λ (ts : List (List ℕ)). items_in ts) more ∙ fold-append items_after 0 before (text ∷ []))
    (fold-append braces_after [] body (token ∷ []))

-- ---- the reading's own

abbrev is_inside_at : Place → Bool
is_inside_at IfNumber = true
is_inside_at IfCloses = true
is_inside_at DependType = true
is_inside_at (DependColon kind) = true
is_inside_at (DependName kind) = true
is_inside_at (DependMore kind) = true
is_inside_at _ = false

-- the item that comes
abbrev item_coming : Place → ℕ
item_coming (DependName kind) = 1
item_coming _ = 0

abbrev pub tally_at : Place → State → Tally
tally_at place state =
    tally_so (is_inside_at place) (tasks_of state.tree.marks + pending_tasks place)
    (segments_of state.tree.marks + pending_segments place) (work_of state.tree.marks)
    (length state.head.items + item_coming place) (map line_of_block state.tree.blocks)

-- where no task is begun
abbrev pub NoItems : Place → List Item → Type 0
NoItems Header items = items ≡ []
NoItems Version items = items ≡ []
NoItems Statement items = items ≡ []
NoItems WorkNumber items = items ≡ []
NoItems GroupBrace items = items ≡ []
NoItems _ items = Unit {0}

abbrev pub tally_now : State → Tally
tally_now state = tally_at state.place state

abbrev token_so : List ℕ → ℕ → Token
token_so text line = record { text = text; line = line }

abbrev Tallies : Place → State → List ℕ → ℕ → Type 0
Tallies place state text line =
    tally_after (tally_at place state) (token_so text line)
    ≡ tally_now (after_at place (at state place) text line)

-- ---- tokens that are no signs

record NoSign (text : List ℕ) : Type 0 where
  opens : is_text text (codes "(") ≡ false
  closes : is_text text (codes ")") ≡ false
  brace : is_text text (codes "{") ≡ false
  end : is_text text (codes "}") ≡ false
  colon : is_text text (codes ":") ≡ false
  comma : is_text text (codes ",") ≡ false

pub other_text : (test : List ℕ → Bool) (text word : List ℕ) → test text ≡ true → test word ≡ false
    → is_text text word ≡ false
other_text test text word h g =
    bool_cases (is_text text word)
    (λ same.
    absurd (let wrong : true ≡ false = sym h ∙ ap test (same_text text word same) ∙ g in cc))
    (λ other. other)

no_sign_number : (text : List ℕ) → is_number text ≡ true → NoSign text
no_sign_number text h = record {
  opens = other_text is_number text (codes "(") h refl;
  closes = other_text is_number text (codes ")") h refl;
  brace = other_text is_number text (codes "{") h refl;
  end = other_text is_number text (codes "}") h refl;
  colon = other_text is_number text (codes ":") h refl;
  comma = other_text is_number text (codes ",") h refl;
}

no_sign_word : (text : List ℕ) → is_word text ≡ true → NoSign text
no_sign_word text h = record {
  opens = other_text is_word text (codes "(") h refl;
  closes = other_text is_word text (codes ")") h refl;
  brace = other_text is_word text (codes "{") h refl;
  end = other_text is_word text (codes "}") h refl;
  colon = other_text is_word text (codes ":") h refl;
  comma = other_text is_word text (codes ",") h refl;
}

inside_stays : (inside : Bool) (text : List ℕ) → NoSign text → inside_after inside text ≡ inside
inside_stays inside text n = rw (n.opens, n.closes) refl

items_stay : (items : ℕ) (text : List ℕ) → NoSign text → items_after items text ≡ items
items_stay items text n = rw (n.brace, n.colon, n.comma) refl

braces_stay : (braces : List ℕ) (text : List ℕ) (line : ℕ) → NoSign text
    → braces_after braces (token_so text line) ≡ braces
braces_stay braces text line n = rw (n.brace, n.end) refl

-- ---- the places

-- a `}` is tallied as the state counts it
end_tallies : (state : State) (blocks : List Block) (marks : List Mark) (line : ℕ)
    → tally_after
    (tally_at Statement (record state { tree = record { blocks = blocks; marks = marks } }))
    (token_so (codes "}") line)
    ≡ tally_at Statement (record state { tree = after_end_of blocks marks })
end_tallies state [] marks line =
    same_tally _ _ _ _ _ _ _ _ _ _ _ _ refl (omega arith) (omega arith) (omega arith) (omega arith)
    refl
end_tallies state (TaskBlock brace ∷ blocks) marks line =
    same_tally _ _ _ _ _ _ _ _ _ _ _ _ refl (omega (arith, with_one tasks_begun marks Ends))
    (omega (arith, with_one segments_opened marks Ends))
    (omega (arith, with_one work_done marks Ends)) (omega arith) refl
end_tallies state (GroupBlock brace ∷ blocks) marks line =
    same_tally _ _ _ _ _ _ _ _ _ _ _ _ refl (omega (arith, with_one tasks_begun marks GroupEnds))
    (omega (arith, with_one segments_opened marks GroupEnds))
    (omega (arith, with_one work_done marks GroupEnds)) (omega arith) refl

-- the word of a statement is tallied so
statement_tallies : (state : State) (text : List ℕ) (line : ℕ)
    → is_allowed Statement state.head.has_if text ≡ true
    → Tallies Statement state text line
statement_tallies state text line allowed =
    let marks = state.tree.marks in
    bool_cases (is_text text (codes "work"))
    (λ work. rw (same_text text (codes "work") work) (same_tally _ _ _ _ _ _ _ _ _ _ _ _ refl
    (omega arith) (omega arith) (omega arith) (omega arith) refl))
    (λ no_work. bool_cases (is_text text (codes "task"))
    (λ task. rw (same_text text (codes "task") task) (same_tally _ _ _ _ _ _ _ _ _ _ _ _ refl
    (omega arith) (omega arith) (omega arith) (omega arith) refl))
    (λ no_task. bool_cases (is_text text (codes "taskwait"))
    (λ wait. rw (same_text text (codes "taskwait") wait) (same_tally _ _ _ _ _ _ _ _ _ _ _ _ refl
    (omega (arith, with_one tasks_begun marks Waits))
    (omega (arith, with_one segments_opened marks Waits))
    (omega (arith, with_one work_done marks Waits)) (omega arith) refl))
    (λ no_wait. bool_cases (is_text text (codes "taskgroup"))
    (λ group. rw (same_text text (codes "taskgroup") group) (same_tally _ _ _ _ _ _ _ _ _ _ _ _ refl
    (omega arith) (omega arith) (omega arith) (omega arith) refl))
    (λ no_group. rw (is_end text allowed no_work no_task no_wait no_group)
    (end_tallies state state.tree.blocks marks line)))))

number_weight : (text : List ℕ) → is_number text ≡ true
    → (tasks_by text ≡ 0) × (segments_by text ≡ 0) × (work_by text ≡ value_of text)
number_weight text h =
    let task = other_text is_number text (codes "task") h refl in
    let wait = other_text is_number text (codes "taskwait") h refl in
    let group = other_text is_number text (codes "taskgroup") h refl in
    (rw task refl, rw (task, wait, group) refl, rw h refl)

-- the number of a `work` is tallied so
work_tallies : (state : State) (text : List ℕ) (line : ℕ)
    → is_number text ≡ true
    → Tallies WorkNumber state text line
work_tallies state text line number =
    let no_sign = no_sign_number text number in
    let weight = number_weight text number in
    let marks = state.tree.marks in
    let mark = Works (value_of text) in
    same_tally _ _ _ _ _ _ _ _ _ _ _ _ (inside_stays false text no_sign)
    (omega (arith, weight.0, with_one tasks_begun marks mark))
    (omega (arith, weight.1, with_one segments_opened marks mark))
    (omega (arith, weight.2, with_one work_done marks mark)) (items_stay _ text no_sign)
    (braces_stay _ text line no_sign)

no_items_long : (items : List Item) → items ≡ [] → length items ≡ 0
no_items_long items h = ap length h

group_tallies : (state : State) (line : ℕ)
    → state.head.items ≡ []
    → Tallies GroupBrace state (codes "{") line
group_tallies state line none =
    let marks = state.tree.marks in
    same_tally _ _ _ _ _ _ _ _ _ _ _ _ refl (omega (arith, with_one tasks_begun marks GroupBegins))
    (omega (arith, with_one segments_opened marks GroupBegins))
    (omega (arith, with_one work_done marks GroupBegins))
    (omega (arith, no_items_long state.head.items none)) refl

-- a token where a clause is awaited is tallied so
clause_tallies : (state : State) (text : List ℕ) (line : ℕ)
    → is_allowed Clause state.head.has_if text ≡ true
    → Tallies Clause state text line
clause_tallies state text line allowed =
    let marks = state.tree.marks in
    let mark = Begins state.head.undeferred state.head.items in
    bool_cases (is_text text (codes "{"))
    (λ brace. rw (same_text text (codes "{") brace) (same_tally _ _ _ _ _ _ _ _ _ _ _ _ refl
    (omega (arith, with_one tasks_begun marks mark))
    (omega (arith, with_one segments_opened marks mark))
    (omega (arith, with_one work_done marks mark)) (omega arith) refl))
    (λ no_brace. bool_cases (is_text text (codes "if"))
    (λ if_word. rw (same_text text (codes "if") if_word) (same_tally _ _ _ _ _ _ _ _ _ _ _ _ refl
    (omega arith) (omega arith) (omega arith) (omega arith) refl))
    (λ no_if. rw (is_depend text state.head.has_if allowed no_brace no_if)
    (same_tally _ _ _ _ _ _ _ _ _ _ _ _ refl (omega arith) (omega arith) (omega arith) (omega arith)
    refl)))

if_number_tallies : (state : State) (text : List ℕ) (line : ℕ) → is_number text ≡ true
    → Tallies IfNumber state text line
if_number_tallies state text line number =
    let no_sign = no_sign_number text number in
    same_tally _ _ _ _ _ _ _ _ _ _ _ _ (inside_stays true text no_sign) (omega arith) (omega arith)
    (omega arith) (items_stay _ text no_sign) (braces_stay _ text line no_sign)

-- the type of a `depend` is tallied so
type_tallies : (state : State) (kind : DependKind) (line : ℕ)
    → tally_after (tally_at DependType state) (token_so (type_word kind) line)
    ≡ tally_at (DependColon kind) state
type_tallies state DependIn line =
    same_tally _ _ _ _ _ _ _ _ _ _ _ _ refl (omega arith) (omega arith) (omega arith) (omega arith)
    refl
type_tallies state _ line =
    same_tally _ _ _ _ _ _ _ _ _ _ _ _ refl (omega arith) (omega arith) (omega arith) (omega arith)
    refl

name_tallies : (state : State) (kind : DependKind) (text : List ℕ) (line : ℕ) → is_word text ≡ true
    → Tallies (DependName kind) state text line
name_tallies state kind text line word =
    let no_sign = no_sign_word text word in
    let item : Item = record { kind = kind; name = number_of_name state.names text } in
    let items_are : length (state.head.items ++ item ∷ []) ≡ length state.head.items + 1 =
    length-append state.head.items (item ∷ []) in
    same_tally _ _ _ _ _ _ _ _ _ _ _ _ (inside_stays true text no_sign) (omega arith) (omega arith)
    (omega arith) (items_stay _ text no_sign ∙ omega (arith, items_are))
    (braces_stay _ text line no_sign)

-- what follows a name is tallied so
more_tallies : (state : State) (kind : DependKind) (text : List ℕ) (line : ℕ)
    → is_allowed (DependMore kind) state.head.has_if text ≡ true
    → Tallies (DependMore kind) state text line
more_tallies state kind text line allowed =
    bool_cases (is_text text (codes ","))
    (λ comma. rw (same_text text (codes ",") comma) (same_tally _ _ _ _ _ _ _ _ _ _ _ _ refl
    (omega arith) (omega arith) (omega arith) (omega arith) refl))
    (λ other. rw
    (same_text text (codes ")")
    (or_true_right (is_text text (codes ",")) (is_text text (codes ")")) allowed other))
    (same_tally _ _ _ _ _ _ _ _ _ _ _ _ refl (omega arith) (omega arith) (omega arith) (omega arith)
    refl))

-- a token after the header
abbrev pub is_past_header : Place → Bool
is_past_header Header = false
is_past_header Version = false
is_past_header _ = true

-- at every place, a token is tallied as the state counts it
pub place_tallies : (place : Place) (state : State) (text : List ℕ) (line : ℕ)
    → is_past_header place ≡ true
    → NoItems place state.head.items
    → is_allowed place state.head.has_if text ≡ true
    → Tallies place state text line
place_tallies Header state text line past none allowed = absurd cc
place_tallies Version state text line past none allowed = absurd cc
place_tallies Statement state text line past none allowed =
    statement_tallies state text line allowed
place_tallies WorkNumber state text line past none allowed = work_tallies state text line allowed
place_tallies GroupBrace state text line past none allowed =
    rw (same_text text (codes "{") allowed) (group_tallies state line none)
place_tallies Clause state text line past none allowed = clause_tallies state text line allowed
place_tallies IfNumber state text line past none allowed = if_number_tallies state text line allowed
place_tallies IfCloses state text line past none allowed =
    rw (same_text text (codes ")") allowed) (same_tally _ _ _ _ _ _ _ _ _ _ _ _ refl (omega arith)
    (omega arith) (omega arith) (omega arith) refl)
place_tallies DependType state text line past none allowed =
    subst
    (λ (t : List ℕ). tally_after (tally_at DependType state) (token_so t line)
    ≡ tally_at (DependColon (type_of text)) state)
    (sym (type_is text allowed)) (type_tallies state (type_of text) line)
place_tallies (DependColon kind) state text line past none allowed =
    rw (same_text text (codes ":") allowed) (same_tally _ _ _ _ _ _ _ _ _ _ _ _ refl (omega arith)
    (omega arith) (omega arith) (omega arith) refl)
place_tallies (DependName kind) state text line past none allowed =
    name_tallies state kind text line allowed
place_tallies (DependMore kind) state text line past none allowed =
    more_tallies state kind text line allowed
place_tallies _ state text line past none allowed =
    rw (same_text text (codes "(") allowed) (same_tally _ _ _ _ _ _ _ _ _ _ _ _ refl (omega arith)
    (omega arith) (omega arith) (omega arith) refl)

-- ---- the limits

abbrev pub is_task_past : (inside : Bool) → (tasks : ℕ) → List ℕ → Bool
is_task_past inside tasks text =
    not inside && (is_text text (codes "task") && nat_le MOST_TASKS tasks)

abbrev pub is_segment_past : (inside : Bool) → (segments : ℕ) → List ℕ → Bool
is_segment_past inside segments text =
    not inside
    && ((is_text text (codes "task") && nat_lt MOST_SEGMENTS (segments + 2))
    || (is_waiting text && nat_lt MOST_SEGMENTS (segments + 1)))

-- too many tasks or segments, with the token apart
abbrev pub too_many_with : (before : List (List ℕ)) → List ℕ → Option ReadKind
too_many_with before text =
    cond (is_task_past (is_inside before) (tasks_in before) text) (Some TooManyTasks)
    (cond (is_segment_past (is_inside before) (segments_in before) text) (Some TooManySegments)
    None)

-- the rows of the limits, in their order
abbrev table : (number deep task segment item work : Bool) → Option ReadKind
table number deep task segment item work =
    cond number (Some BadNumber) (cond deep (Some TooDeep) (cond task (Some TooManyTasks)
    (cond segment (Some TooManySegments)
    (cond item (Some TooManyItems) (cond work (Some WorkTooLarge) None)))))

-- those that the definition has
abbrev pub told : (number deep task segment item work : Bool) → Option ReadKind
told number deep task segment item work =
    cond number (Some BadNumber) (cond deep (Some TooDeep)
    (option_or (cond task (Some TooManyTasks) (cond segment (Some TooManySegments) None))
    (cond item (Some TooManyItems) (cond work (Some WorkTooLarge) None))))

same_rows : (a b c d e f : Bool) → told a b c d e f ≡ table a b c d e f
same_rows a b true d e f = refl
same_rows a b false true e f = refl
same_rows a b false false e f = refl

same_table : (a b c d e f a' b' c' d' e' f' : Bool)
    → a ≡ a'
    → b ≡ b'
    → c ≡ c'
    → d ≡ d'
    → e ≡ e'
    → f ≡ f'
    → told a b c d e f ≡ table a' b' c' d' e' f'
same_table a b c d e f a' b' c' d' e' f' h1 h2 h3 h4 h5 h6 =
    rw (h1, h2, h3, h4, h5, h6) (same_rows a' b' c' d' e' f')

-- what the reading tests at its place
abbrev pub limits : State → List ℕ → Option ReadKind
limits state text =
    table (is_number_too_large state.place text) (nests_too_deep state.place state.tree.blocks text)
    (is_task_too_many state.place state.tree.marks text)
    (are_segments_too_many state.place state.tree.marks text)
    (is_item_too_many state.place state.head.items)
    (is_work_too_large state.place state.tree.marks text)

abbrev pub limit_of : Tally → List ℕ → Option ReadKind
limit_of t text =
    told (is_value_too_large t.inside text) (is_too_deep MOST_NESTING (length t.braces) text)
    (is_task_past t.inside t.tasks text) (is_segment_past t.inside t.segments text)
    (nat_lt MOST_ITEMS t.items) (is_work_past t.inside t.work text)

-- each row by itself
limit_at : (place : Place) (state : State) (text : List ℕ) (a b c d e f : Bool)
    → is_value_too_large (is_inside_at place) text ≡ a
    → is_too_deep MOST_NESTING (length (map line_of_block state.tree.blocks)) text ≡ b
    → is_task_past (is_inside_at place) (tasks_of state.tree.marks + pending_tasks place) text ≡ c
    → is_segment_past (is_inside_at place) (segments_of state.tree.marks + pending_segments place)
    text
    ≡ d
    → nat_lt MOST_ITEMS (length state.head.items + item_coming place) ≡ e
    → is_work_past (is_inside_at place) (work_of state.tree.marks) text ≡ f
    → limit_of (tally_at place state) text ≡ table a b c d e f
limit_at place state text a b c d e f h1 h2 h3 h4 h5 h6 =
    same_table (is_value_too_large (is_inside_at place) text)
    (is_too_deep MOST_NESTING (length (map line_of_block state.tree.blocks)) text)
    (is_task_past (is_inside_at place) (tasks_of state.tree.marks + pending_tasks place) text)
    (is_segment_past (is_inside_at place) (segments_of state.tree.marks + pending_segments place)
    text)
    (nat_lt MOST_ITEMS (length state.head.items + item_coming place))
    (is_work_past (is_inside_at place) (work_of state.tree.marks) text)
    a b c d e f h1 h2 h3 h4 h5 h6

value_off : (inside : Bool) (text : List ℕ)
    → is_number text ≡ false
    → is_value_too_large inside text ≡ false
value_off inside text number = rw number refl

deep_off : (depth : ℕ) (text : List ℕ)
    → is_text text (codes "{") ≡ false
    → is_too_deep MOST_NESTING depth text ≡ false
deep_off depth text brace = rw brace refl

and_off : (a b : Bool) → (a && (false && b)) ≡ false
and_off true b = refl
and_off false b = refl

work_off : (inside : Bool) (work : ℕ) (text : List ℕ)
    → is_number text ≡ false
    → is_work_past inside work text ≡ false
work_off inside work text number =
    rw number (and_off (not inside) (nat_lt MOST_WORK (work + value_of text)))

few_items : (place : Place) (state : State)
    → item_coming place ≡ 0
    → length state.head.items ≤ MOST_ITEMS
    → nat_lt MOST_ITEMS (length state.head.items + item_coming place) ≡ false
few_items place state none few =
    le-ltb MOST_ITEMS (length state.head.items + item_coming place) (omega (arith, none, few))

-- a token that passes no limit
passes_no_limit : (place : Place) (state : State) (text : List ℕ)
    → item_coming place ≡ 0
    → length state.head.items ≤ MOST_ITEMS
    → is_number text ≡ false
    → is_text text (codes "{") ≡ false
    → is_task_past (is_inside_at place) (tasks_of state.tree.marks + pending_tasks place) text
    ≡ false
    → is_segment_past (is_inside_at place) (segments_of state.tree.marks + pending_segments place)
    text
    ≡ false
    → limit_of (tally_at place state) text ≡ None
passes_no_limit place state text none few number brace task segment =
    limit_at place state text false false false false false false
    (value_off (is_inside_at place) text number)
    (deep_off (length (map line_of_block state.tree.blocks)) text brace) task segment
    (few_items place state none few)
    (work_off (is_inside_at place) (work_of state.tree.marks) text number)

abbrev LimitsSame : Place → State → List ℕ → Type 0
LimitsSame place state text = limit_of (tally_at place state) text ≡ limits (at state place) text

-- what holds of each word that begins a statement holds of an allowed one
statement_text : (P : List ℕ → Type 0) → P (codes "work") → P (codes "task") → P (codes "taskwait")
    → P (codes "taskgroup") → P (codes "}") → (text : List ℕ) (has_if : Bool)
    → is_allowed Statement has_if text ≡ true → P text
statement_text P work_so task_so wait_so group_so end_so text has_if allowed =
    bool_cases (is_text text (codes "work"))
    (λ work. subst P (sym (same_text text (codes "work") work)) work_so)
    (λ no_work. bool_cases (is_text text (codes "task"))
    (λ task. subst P (sym (same_text text (codes "task") task)) task_so)
    (λ no_task. bool_cases (is_text text (codes "taskwait"))
    (λ wait. subst P (sym (same_text text (codes "taskwait") wait)) wait_so)
    (λ no_wait. bool_cases (is_text text (codes "taskgroup"))
    (λ group. subst P (sym (same_text text (codes "taskgroup") group)) group_so)
    (λ no_group. subst P (sym (is_end text allowed no_work no_task no_wait no_group)) end_so))))

-- the word of a statement is over the limits where the tally says so
statement_limits : (state : State) (text : List ℕ) → length state.head.items ≤ MOST_ITEMS
    → is_allowed Statement state.head.has_if text ≡ true → LimitsSame Statement state text
statement_limits state text few allowed =
    let number : is_number text ≡ false = statement_text (λ (t : List ℕ). is_number t ≡ false) refl
    refl refl refl refl text state.head.has_if allowed in
    let brace : is_text text (codes "{") ≡ false = statement_text
    (λ (t : List ℕ). is_text t (codes "{") ≡ false) refl refl refl refl refl text state.head.has_if
    allowed in
    let tasks : tasks_of state.tree.marks + 0 ≡ tasks_of state.tree.marks = omega arith in
    let segments : segments_of state.tree.marks + 0 ≡ segments_of state.tree.marks = omega arith in
    limit_at Statement state text false false (is_task_too_many Statement state.tree.marks text)
    (are_segments_too_many Statement state.tree.marks text) false false
    (value_off false text number) (deep_off _ text brace)
    (ap (λ (n : ℕ). is_text text (codes "task") && nat_le MOST_TASKS n) tasks)
    (ap
    (λ (n : ℕ). (is_text text (codes "task") && nat_lt MOST_SEGMENTS (n + 2))
    || (is_waiting text && nat_lt MOST_SEGMENTS (n + 1)))
    segments)
    (few_items Statement state refl few) (work_off false _ text number)

-- the number of a `work` is over the limits where the tally says so
work_limits : (state : State) (text : List ℕ)
    → length state.head.items ≤ MOST_ITEMS
    → is_number text ≡ true
    → LimitsSame WorkNumber state text
work_limits state text few number =
    let brace = other_text is_number text (codes "{") number refl in
    let task = other_text is_number text (codes "task") number refl in
    let wait = other_text is_number text (codes "taskwait") number refl in
    let group = other_text is_number text (codes "taskgroup") number refl in
    limit_at WorkNumber state text (is_number_too_large WorkNumber text) false false false false
    (is_work_too_large WorkNumber state.tree.marks text)
    (rw number refl) (deep_off _ text brace) (rw task refl) (rw (task, wait, group) refl)
    (few_items WorkNumber state refl few) (rw number refl)

-- a `{` is over the limit on nesting alone, and where the tally says so
brace_limits : (place : Place) (state : State)
    → length state.head.items ≤ MOST_ITEMS
    → item_coming place ≡ 0
    → is_inside_at place ≡ false
    → limits (at state place) (codes "{")
    ≡ table false (nat_le MOST_NESTING (length state.tree.blocks)) false false false false
    → LimitsSame place state (codes "{")
brace_limits place state few none outside_so same =
    let deep : nat_le MOST_NESTING (length (map line_of_block state.tree.blocks))
    ≡ nat_le MOST_NESTING (length state.tree.blocks) =
    ap (λ (n : ℕ). nat_le MOST_NESTING n) (length-map state.tree.blocks line_of_block) in
    limit_at place state (codes "{") false (nat_le MOST_NESTING (length state.tree.blocks)) false
    false false false (value_off (is_inside_at place) (codes "{") refl) deep (rw outside_so refl)
    (rw outside_so refl)
    (few_items place state none few)
    (work_off (is_inside_at place) (work_of state.tree.marks) (codes "{") refl)
    ∙ sym same

clause_limits : (state : State) (text : List ℕ) → length state.head.items ≤ MOST_ITEMS
    → is_allowed Clause state.head.has_if text ≡ true → LimitsSame Clause state text
clause_limits state text few allowed =
    bool_cases (is_text text (codes "{"))
    (λ brace. rw (same_text text (codes "{") brace) (brace_limits Clause state few refl refl refl))
    (λ no_brace. bool_cases (is_text text (codes "if"))
    (λ if_word. rw (same_text text (codes "if") if_word)
    (passes_no_limit Clause state (codes "if") refl few refl refl refl refl))
    (λ no_if. rw (is_depend text state.head.has_if allowed no_brace no_if)
    (passes_no_limit Clause state (codes "depend") refl few refl refl refl refl)))

if_number_limits : (state : State) (text : List ℕ)
    → length state.head.items ≤ MOST_ITEMS
    → is_number text ≡ true
    → LimitsSame IfNumber state text
if_number_limits state text few number =
    let brace = other_text is_number text (codes "{") number refl in
    limit_at IfNumber state text (is_number_too_large IfNumber text) false false false false false
    (rw number refl) (deep_off _ text brace) refl refl (few_items IfNumber state refl few) refl

type_limits : (state : State) (kind : DependKind) → length state.head.items ≤ MOST_ITEMS
    → LimitsSame DependType state (type_word kind)
type_limits state DependIn few =
    passes_no_limit DependType state (codes "in") refl few refl refl refl refl
type_limits state DependOut few =
    passes_no_limit DependType state (codes "out") refl few refl refl refl refl
type_limits state DependInOut few =
    passes_no_limit DependType state (codes "inout") refl few refl refl refl refl
type_limits state DependInOutSet few =
    passes_no_limit DependType state (codes "inoutset") refl few refl refl refl refl

pub no_digit : (run digit digits : Bool) → (run && not digit) ≡ true → (digit && digits) ≡ false
no_digit run false digits h = refl
no_digit true true digits h = absurd cc
no_digit false true digits h = absurd cc

one_more_item : (n : ℕ) → nat_lt MOST_ITEMS (n + 1) ≡ nat_le MOST_ITEMS n
one_more_item n =
    bool_cases (nat_le MOST_ITEMS n)
    (λ many. rw many (lt-ltb MOST_ITEMS (n + 1) (omega (arith, leb-true MOST_ITEMS n many))))
    (λ few. rw few (le-ltb MOST_ITEMS (n + 1) (omega (arith, leb-false MOST_ITEMS n few))))

name_limits : (state : State) (kind : DependKind) (text : List ℕ) → is_word text ≡ true
    → LimitsSame (DependName kind) state text
name_limits state kind text word =
    let number : is_number text ≡ false = no_digit (is_run text) (begins_with_digit text) _ word in
    limit_at (DependName kind) state text false false false false
    (is_item_too_many (DependName kind) state.head.items) false
    (value_off true text number) (deep_off _ text ((no_sign_word text word).brace)) refl refl
    (one_more_item (length state.head.items)) refl

-- what follows a name is over no limit
more_limits : (state : State) (kind : DependKind) (text : List ℕ)
    → length state.head.items ≤ MOST_ITEMS
    → is_allowed (DependMore kind) state.head.has_if text ≡ true
    → LimitsSame (DependMore kind) state text
more_limits state kind text few allowed =
    bool_cases (is_text text (codes ","))
    (λ comma. rw (same_text text (codes ",") comma)
    (passes_no_limit (DependMore kind) state (codes ",") refl few refl refl refl refl))
    (λ other. rw
    (same_text text (codes ")")
    (or_true_right (is_text text (codes ",")) (is_text text (codes ")")) allowed other))
    (passes_no_limit (DependMore kind) state (codes ")") refl few refl refl refl refl))

-- at every place, a token is over the limits where the tally says so
pub place_limits : (place : Place) (state : State) (text : List ℕ) → is_past_header place ≡ true
    → length state.head.items ≤ MOST_ITEMS → is_allowed place state.head.has_if text ≡ true
    → LimitsSame place state text
place_limits Header state text past few allowed = absurd cc
place_limits Version state text past few allowed = absurd cc
place_limits Statement state text past few allowed = statement_limits state text few allowed
place_limits WorkNumber state text past few allowed = work_limits state text few allowed
place_limits GroupBrace state text past few allowed =
    rw (same_text text (codes "{") allowed) (brace_limits GroupBrace state few refl refl refl)
place_limits Clause state text past few allowed = clause_limits state text few allowed
place_limits IfNumber state text past few allowed = if_number_limits state text few allowed
place_limits IfCloses state text past few allowed =
    rw (same_text text (codes ")") allowed)
    (passes_no_limit IfCloses state (codes ")") refl few refl refl refl refl)
place_limits DependType state text past few allowed =
    subst (λ (t : List ℕ). LimitsSame DependType state t) (sym (type_is text allowed))
    (type_limits state (type_of text) few)
place_limits (DependColon kind) state text past few allowed =
    rw (same_text text (codes ":") allowed)
    (passes_no_limit (DependColon kind) state (codes ":") refl few refl refl refl refl)
place_limits (DependName kind) state text past few allowed = name_limits state kind text allowed
place_limits (DependMore kind) state text past few allowed = more_limits state kind text few allowed
place_limits place state text past few allowed =
    rw (same_text text (codes "(") allowed)
    (passes_no_limit place state (codes "(") refl few refl refl refl refl)

-- ---- the header

pub header_tallies : (place : Place) (state : State) (text : List ℕ) (line : ℕ)
    → is_past_header place ≡ false
    → tally_at place state ≡ tally_now (after_at place (at state place) text line)
header_tallies Header state text line h = refl
header_tallies Version state text line h = refl
header_tallies _ state text line h = absurd cc

pub nothing_counted : tally_of [] ≡ tally_so false 0 1 0 0 []
unfolding outside_from
nothing_counted = refl

version_limits : (text : List ℕ) → is_number text ≡ true → value_of text ≡ 1
    → limit_of (tally_so false 0 1 0 0 []) text ≡ None
version_limits text number value =
    let task = other_text is_number text (codes "task") number refl in
    let wait = other_text is_number text (codes "taskwait") number refl in
    let group = other_text is_number text (codes "taskgroup") number refl in
    same_table (is_value_too_large false text) (is_too_deep MOST_NESTING 0 text) (is_task_past false 0 text)
    (is_segment_past false 1 text) (nat_lt MOST_ITEMS 0) (is_work_past false 0 text)
    false false false false false false
    (rw (number, value) refl) (deep_off 0 text (other_text is_number text (codes "{") number refl))
    (rw task refl) (rw (task, wait, group) refl) refl (rw (number, value) refl)

-- the header passes no limit
pub header_limits : (place : Place) (text : List ℕ)
    → is_past_header place ≡ false
    → is_header place text ≡ true
    → limit_fault_after MOST_NESTING MOST_ITEMS (too_many_with [] text) [] text ≡ None
header_limits Header text past header =
    ap (λ (t : Tally). limit_of t text) nothing_counted
    ∙ rw (same_text text (codes "omptasks") header) refl
header_limits Version text past header =
    ap (λ (t : Tally). limit_of t text) nothing_counted
    ∙ version_limits text (and_parts (is_number text) _ header).0
    (eqb-true _ _ (and_parts (is_number text) _ header).1)
header_limits _ text past header = absurd cc
