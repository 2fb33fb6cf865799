-- One token: what is known where it is taken.
use Rattle.std.proofs.Common.{◌≡◌, ℕ, zero, suc, ◌+◌, ◌≤◌, Bool, true, false, not, ◌&&◌, ◌||◌}
use Rattle.std.proofs.Common.{cond, List}
use Rattle.std.proofs.Common.{[], ◌∷◌, length, length-append, Option, Some, None, Ok}
use Rattle.std.proofs.Common.{refl, ap, arith, codes}
use Rattle.std.specs.Option.{option_or}
use Rattle.std.specs.Prelude.{nat_lt}
use Rattle.std.proofs.lemmas.Bool.{ltb-false}
use Rattle.std.proofs.Math.Dec.{eqb-suc-zero}
use Rattle.program_text.specs.declared.fault.ReadKind.{ReadKind}
use Rattle.program_text.specs.Tokens.{Token}
use Rattle.program_text.specs.declared.fault.ReadKind.TheVariants.{TooLong, BadByte, BadWord}
use Rattle.program_text.specs.declared.fault.ReadKind.TheVariants.{BadNumber, TooDeep, TooManyItems}
use Rattle.program_text.specs.declared.fault.ReadKind.TheVariants.{WorkTooLarge}
use Rattle.program_text.specs.declared.limits.TheConstants.{MOST_WORD_BYTES}
use Rattle.program_text.specs.Words.{is_text, is_number, is_word, is_run, is_sign}
use Rattle.program_text.specs.Words.{begins_with_digit}
use Rattle.program_text.proofs.Bools.{bool_cases, and_right_false}
use Rattle.program_text.proofs.FaultRows.{row_passed}
use Rattle.task_program.specs.declared.place.Place.{Place}
use Rattle.task_program.specs.declared.place.Place.TheVariants.{Statement, WorkNumber, IfNumber}
use Rattle.task_program.specs.declared.place.Place.TheVariants.{Clause, DependName, DependMore}
use Rattle.task_program.specs.Faults.{State, after_at, is_header, is_allowed}
use Rattle.task_program.specs.Faults.{is_number_too_large}
use Rattle.task_program.specs.Names.{number_of_name}
use Rattle.task_program.specs.TokenCounts.{is_value_too_large, is_too_deep, is_work_past}
use Rattle.task_program.proofs.Keeping.{unless_ok, ok_is, one_name_more, some_text}
use Rattle.task_program.proofs.Shapes.{closes_none}
use Rattle.large_text.specs.declared.limits.TheConstants.{MOST_LARGE_TOKEN_BYTES}
use Rattle.large_text.specs.declared.limits.TheConstants.{MOST_LARGE_NESTING}
use Rattle.large_text.specs.declared.limits.TheConstants.{MOST_LARGE_ITEMS}
use Rattle.large_text.specs.declared.limits.TheConstants.{MOST_TASK_ITEMS}
use Rattle.large_text.specs.LargeFaults.{large_form_fault, grammar_fault, large_limit_by}
use Rattle.large_text.specs.LargeFaults.{closes_no_block, is_inside_at, items_coming}
use Rattle.large_text.specs.LargeTrees.{too_many_items}
use Rattle.large_text.specs.LargeReading.{large_step, with_bytes}

-- nothing is wrong with the token, and it leads there
pub record Passed (work all_items : ℕ) (state : State) (token : Token) (next : State) : Type 0 where
  pub formed : large_form_fault state.bytes token.text ≡ None
  pub grammar : grammar_fault state.place state.head.has_if (length state.tree.blocks) token.text
      ≡ None
  pub limit : large_limit_by (is_inside_at state.place) work (all_items + items_coming state.place)
      (length state.head.items + items_coming state.place) (length state.tree.blocks) token.text
      ≡ None
  pub next_is : after_at state.place (with_bytes state (length token.text)) token.text token.line
      ≡ next

pub passed : (work all_items : ℕ) (state : State) (token : Token) (next : State)
    → large_step work all_items state token ≡ Ok next
    → Passed work all_items state token next
passed work all_items state token next h =
    let first = unless_ok (large_form_fault state.bytes token.text) token.line _ next h in
    let second = unless_ok
    (grammar_fault state.place state.head.has_if (length state.tree.blocks) token.text) token.line _
    next first.1 in
    let third = unless_ok
    (large_limit_by (is_inside_at state.place) work (all_items + items_coming state.place)
    (length state.head.items + items_coming state.place) (length state.tree.blocks) token.text)
    token.line _ next second.1 in
    record {
      formed = first.0;
      grammar = second.0;
      limit = third.0;
      next_is = ok_is _ next third.1;
    }

-- ---- the grammar at the place

pub closes_so : (place : Place) (depth : ℕ) (text : List ℕ)
    → closes_no_block place depth text ≡ closes_none place depth text
closes_so Statement zero text = refl
closes_so Statement (suc depth) text =
    ap (λ (b : Bool). b && is_text text (codes "}")) (eqb-suc-zero depth)
closes_so _ depth text = refl

pub record IsThere (place : Place) (has_if : Bool) (depth : ℕ) (text : List ℕ) : Type 0 where
  pub header : not (is_header place text) ≡ false
  pub unopened : closes_no_block place depth text ≡ false
  pub allowed : not (is_allowed place has_if text) ≡ false

pub is_there : (place : Place) (has_if : Bool) (depth : ℕ) (text : List ℕ)
    → grammar_fault place has_if depth text ≡ None
    → IsThere place has_if depth text
is_there place has_if depth text h =
    let first = row_passed _ _ _ h in
    let second = row_passed _ _ _ first.1 in
    let third = row_passed _ _ _ second.1 in
    record { header = first.0; unopened = second.0; allowed = third.0 }

-- ---- the limits

pub record IsUnder (inside : Bool) (work all_items items open_blocks : ℕ) (text : List ℕ)
    : Type 0 where
  pub value : is_value_too_large inside text ≡ false
  pub all_fit : nat_lt MOST_LARGE_ITEMS all_items ≡ false
  pub items_fit : nat_lt MOST_TASK_ITEMS items ≡ false
  pub work_fits : is_work_past inside work text ≡ false

none_or : (many : Bool) (kind : ReadKind) (later : Option ReadKind)
    → option_or (cond many (Some kind) None) later ≡ None
    → (many ≡ false) × (later ≡ None)
none_or true kind later h = absurd cc
none_or false kind later h = (refl, h)

pub is_under : (inside : Bool) (work all_items items open_blocks : ℕ) (text : List ℕ)
    → large_limit_by inside work all_items items open_blocks text ≡ None
    → IsUnder inside work all_items items open_blocks text
is_under inside work all_items items open_blocks text h =
    let work_row : Option ReadKind =
    cond (is_work_past inside work text) (Some WorkTooLarge) None in
    let items_row : Option ReadKind =
    cond (nat_lt MOST_TASK_ITEMS items) (Some TooManyItems) work_row in
    let first = row_passed _ _ _ h in
    let second = row_passed (is_too_deep MOST_LARGE_NESTING open_blocks text) TooDeep
    (option_or (too_many_items all_items) items_row) first.1 in
    let all = none_or (nat_lt MOST_LARGE_ITEMS all_items) TooManyItems items_row second.1 in
    let third = row_passed (nat_lt MOST_TASK_ITEMS items) TooManyItems work_row all.1 in
    let fourth = row_passed (is_work_past inside work text) WorkTooLarge None third.1 in
    record { value = first.0; all_fit = all.0; items_fit = third.0; work_fits = fourth.0 }

pub number_fits : (place : Place) (has_if : Bool) (text : List ℕ)
    → is_allowed place has_if text ≡ true
    → is_value_too_large (is_inside_at place) text ≡ false
    → is_number_too_large place text ≡ false
number_fits WorkNumber has_if text allowed h = and_right_false (is_number text) _ h allowed
number_fits IfNumber has_if text allowed h = and_right_false (is_number text) _ h allowed
number_fits _ has_if text allowed h = refl

-- ---- the form

pub record IsLargeFormed (bytes : ℕ) (text : List ℕ) : Type 0 where
  pub some : 1 ≤ length text
  pub bytes_fit : bytes + length text ≤ MOST_LARGE_TOKEN_BYTES

pub is_formed : (bytes : ℕ) (text : List ℕ)
    → large_form_fault bytes text ≡ None
    → IsLargeFormed bytes text
is_formed bytes text h =
    let bytes_row : Option ReadKind =
    cond (nat_lt MOST_LARGE_TOKEN_BYTES (bytes + length text)) (Some TooLong) None in
    let word_row : Option ReadKind =
    cond (is_word text && nat_lt MOST_WORD_BYTES (length text)) (Some BadWord) bytes_row in
    let number_row : Option ReadKind =
    cond (begins_with_digit text && not (is_number text)) (Some BadNumber) word_row in
    let first = row_passed (not (is_run text || is_sign text)) BadByte number_row h in
    let second =
    row_passed (begins_with_digit text && not (is_number text)) BadNumber word_row first.1 in
    let third = row_passed (is_word text && nat_lt MOST_WORD_BYTES (length text)) BadWord bytes_row
    second.1 in
    let fourth =
    row_passed (nat_lt MOST_LARGE_TOKEN_BYTES (bytes + length text)) TooLong None third.1 in
    record {
      some = some_text text first.0;
      bytes_fit = ltb-false MOST_LARGE_TOKEN_BYTES (bytes + length text) fourth.0;
    }

-- ---- how names and items grow

abbrev pub NamesGrow : Place → State → List ℕ → ℕ → Type 0
NamesGrow place state text line =
    length (after_at place state text line).names ≤ length state.names + items_coming place

abbrev pub ItemsGrow : Place → State → List ℕ → ℕ → Type 0
ItemsGrow place state text line =
    length (after_at place state text line).head.items
    ≤ length state.head.items + items_coming place

statement_grows : (state : State) (text : List ℕ) (line : ℕ)
    → NamesGrow Statement state text line × ItemsGrow Statement state text line
statement_grows state text line =
    bool_cases (is_text text (codes "work"))
    (λ work. rw work (omega arith, omega arith))
    (λ no_work. bool_cases (is_text text (codes "task"))
    (λ task. rw (no_work, task) (omega arith, omega arith))
    (λ no_task. bool_cases (is_text text (codes "taskwait"))
    (λ wait. rw (no_work, no_task, wait) (omega arith, omega arith))
    (λ no_wait. bool_cases (is_text text (codes "taskgroup"))
    (λ group. rw (no_work, no_task, no_wait, group) (omega arith, omega arith))
    (λ no_group. rw (no_work, no_task, no_wait, no_group) (omega arith, omega arith)))))

both_grow : (place : Place) (state : State) (text : List ℕ) (line : ℕ)
    → NamesGrow place state text line × ItemsGrow place state text line
both_grow Statement state text line = statement_grows state text line
both_grow Clause state text line =
    bool_cases (is_text text (codes "{"))
    (λ brace. rw brace (omega arith, omega arith))
    (λ no_brace. bool_cases (is_text text (codes "if"))
    (λ if_word. rw (no_brace, if_word) (omega arith, omega arith))
    (λ no_if. rw (no_brace, no_if) (omega arith, omega arith)))
both_grow (DependMore kind) state text line =
    bool_cases (is_text text (codes ","))
    (λ comma. rw comma (omega arith, omega arith))
    (λ other. rw other (omega arith, omega arith))
both_grow (DependName kind) state text line = (
  one_name_more state.names text,
  omega (
    arith,
    length-append state.head.items
        (record { kind = kind; name = number_of_name state.names text } ∷ []),
  ),
)
both_grow _ state text line = (omega arith, omega arith)

pub names_grow : (place : Place) (state : State) (text : List ℕ) (line : ℕ)
    → NamesGrow place state text line
names_grow place state text line = (both_grow place state text line).0

pub items_grow : (place : Place) (state : State) (text : List ℕ) (line : ℕ)
    → ItemsGrow place state text line
items_grow place state text line = (both_grow place state text line).1
