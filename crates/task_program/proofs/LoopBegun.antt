-- After the tokens read so far in version 2: what the grammar has there, what it has not, and which
-- blocks are open.
use Rattle.std.proofs.Common.{◌≡◌, ℕ, Bool, true, false, not, ◌&&◌, cond, List, [], ◌∷◌, ◌++◌, map}
use Rattle.std.proofs.Common.{append_assoc, Option, Some, None, Result, Ok, refl, sym, ap, subst}
use Rattle.std.proofs.Common.{◌∙◌, codes}
use Rattle.std.proofs.lemmas.List.Sums.{fold-append}
use Rattle.std.proofs.lemmas.Bool.{not-false}
use Rattle.program_text.specs.declared.fault.ReadKind.{ReadKind}
use Rattle.program_text.specs.declared.fault.ReadFault.{ReadFault}
use Rattle.loop_text.specs.declared.loop_place.LoopPlace.{LoopPlace}
use Rattle.loop_text.specs.declared.loop_place.LoopPlace.TheVariants.{Statement}
use Rattle.loop_text.specs.declared.loop_place.LoopPlace.TheVariants.{GroupBrace}
use Rattle.loop_text.specs.declared.loop_place.LoopPlace.TheVariants.{ForBrace}
use Rattle.loop_text.specs.declared.loop_place.LoopPlace.TheVariants.{Clause}
use Rattle.loop_text.specs.declared.loop_place.LoopPlace.TheVariants.{Subscript, IndexStart}
use Rattle.loop_text.specs.declared.loop_place.LoopPlace.TheVariants.{IndexSign}
use Rattle.loop_text.specs.declared.loop_place.LoopPlace.TheVariants.{DependMore}
use Rattle.loop_text.specs.declared.open_loops.LoopBlock.{LoopBlock}
use Rattle.program_text.specs.declared.statement.DependKind.{DependKind}
use Rattle.program_text.specs.Tokens.{Token, texts}
use Rattle.task_program.specs.TokenCounts.{braces_after, open_braces}
use Rattle.program_text.specs.Words.{is_text, is_number}
use Rattle.loop_text.specs.Loops.{Tree}
use Rattle.loop_text.specs.OpenBlocks as blocks
use Rattle.loop_text.specs.OpenBlocks.{variables_of, brace_of}
use Rattle.loop_text.specs.FirstPass.{State, is_allowed, closes_nothing, place_fault}
use Rattle.loop_text.specs.LoopTokens.{form_fault}
use Rattle.loop_text.specs.FirstPass.{unless_fault, step, after_at, is_number_too_large}
use Rattle.loop_text.specs.FirstPass.{nests_too_deep}
use Rattle.task_program.specs.FirstFault.{IsViable}
use Rattle.task_program.specs.FirstLoopFault.{IsLoopSentence}
use Rattle.task_program.proofs.FoundPlaces.{same_text}
use Rattle.task_program.proofs.Tallies.{other_text}
use Rattle.task_program.proofs.LoopContinued.{steps_back, may_continue}
use Rattle.task_program.proofs.LoopShapes.{is_loop_end, clause_depend, LoopShape, shape_at}
use Rattle.task_program.proofs.LoopShapes.{closes_none, allowed_at, fits, lead_end, lead_at, lead}
use Rattle.task_program.proofs.LoopShapes.{Follows}
use Rattle.task_program.proofs.LoopAccepting.{accepts, accepts_next}
use Rattle.program_text.proofs.Bools.{bool_cases}
use Rattle.program_text.proofs.FaultRows.{row_passed}
use Rattle.task_program.proofs.Keeping.{ok_is}
use Rattle.task_program.proofs.Begun.{texts_more}

-- for each open block the variables of the loops around it
abbrev pub variables_of_each : List LoopBlock → List (List (List ℕ))
variables_of_each [] = []
variables_of_each (block ∷ others) = variables_of others ∷ variables_of_each others

abbrev pub shape_of : State → LoopShape
shape_of state =
    shape_at state.place state.head.has_if state.head.has_final state.bounds.variable
    (variables_of state.tree.blocks) (variables_of_each state.tree.blocks)

abbrev at : State → LoopPlace → State
at state place = record state { place = place }

-- ---- where a token leads

abbrev LeadsSo : State → LoopPlace → List ℕ → ℕ → Type 0
LeadsSo state place text line =
    shape_of (after_at place (at state place) text line)
    ≡ lead_at place state.head.has_if state.head.has_final state.bounds.variable
    (variables_of state.tree.blocks) (variables_of_each state.tree.blocks) text

abbrev shape_with : State → List LoopBlock → LoopShape
shape_with state open_now =
    shape_at Statement state.head.has_if state.head.has_final state.bounds.variable
    (variables_of open_now) (variables_of_each open_now)

end_leads : (state : State) (open_now : List LoopBlock) (statements : Tree)
    → shape_with state (blocks.after_end_of open_now statements).blocks
    ≡ lead_end state.head.has_if state.head.has_final state.bounds.variable (variables_of open_now)
    (variables_of_each open_now)
unfolding variables_of
end_leads state [] statements = refl
end_leads state (block ∷ others) statements = refl

-- the word of a statement leads where the table of places says
statement_leads : (state : State) (text : List ℕ) (line : ℕ) → LeadsSo state Statement text line
statement_leads state text line =
    bool_cases (is_text text (codes "work"))
    (λ work. rw work refl)
    (λ no_work. bool_cases (is_text text (codes "task"))
    (λ task. rw (no_work, task) refl)
    (λ no_task. bool_cases (is_text text (codes "taskwait"))
    (λ wait. rw (no_work, no_task, wait) refl)
    (λ no_wait. bool_cases (is_text text (codes "taskgroup"))
    (λ group. rw (no_work, no_task, no_wait, group) refl)
    (λ no_group. bool_cases (is_text text (codes "for"))
    (λ loop. rw (no_work, no_task, no_wait, no_group, loop) refl)
    (λ no_for. rw (no_work, no_task, no_wait, no_group, no_for)
    (end_leads state state.tree.blocks state.tree.statements))))))

clause_leads : (state : State) (text : List ℕ) (line : ℕ) → LeadsSo state Clause text line
unfolding variables_of
clause_leads state text line =
    bool_cases (is_text text (codes "{"))
    (λ brace. rw brace refl)
    (λ no_brace. bool_cases (is_text text (codes "if"))
    (λ if_word. rw (no_brace, if_word) refl)
    (λ no_if. bool_cases (is_text text (codes "final"))
    (λ final_word. rw (no_brace, no_if, final_word) refl)
    (λ no_final. rw (no_brace, no_if, no_final) refl)))

subscript_leads : (state : State) (kind : DependKind) (text : List ℕ) (line : ℕ)
    → LeadsSo state (Subscript kind) text line
subscript_leads state kind text line =
    bool_cases (is_text text (codes "["))
    (λ opens. rw opens refl)
    (λ no_opens. bool_cases (is_text text (codes ","))
    (λ comma. rw (no_opens, comma) refl)
    (λ other. rw (no_opens, other) refl))

start_leads : (state : State) (kind : DependKind) (text : List ℕ) (line : ℕ)
    → LeadsSo state (IndexStart kind) text line
start_leads state kind text line =
    bool_cases (is_number text)
    (λ number. rw number refl)
    (λ no_number. bool_cases (is_text text (codes "-"))
    (λ minus. rw (no_number, minus) refl)
    (λ other. rw (no_number, other) refl))

sign_leads : (state : State) (kind : DependKind) (text : List ℕ) (line : ℕ)
    → LeadsSo state (IndexSign kind) text line
sign_leads state kind text line =
    bool_cases (is_text text (codes "]"))
    (λ closes. rw closes refl)
    (λ other. rw other refl)

more_leads : (state : State) (kind : DependKind) (text : List ℕ) (line : ℕ)
    → LeadsSo state (DependMore kind) text line
more_leads state kind text line =
    bool_cases (is_text text (codes ","))
    (λ comma. rw comma refl)
    (λ other. rw other refl)

pub place_leads : (place : LoopPlace) (state : State) (text : List ℕ) (line : ℕ)
    → LeadsSo state place text line
unfolding variables_of
place_leads Statement state text line = statement_leads state text line
place_leads Clause state text line = clause_leads state text line
place_leads (Subscript kind) state text line = subscript_leads state kind text line
place_leads (IndexStart kind) state text line = start_leads state kind text line
place_leads (IndexSign kind) state text line = sign_leads state kind text line
place_leads (DependMore kind) state text line = more_leads state kind text line
place_leads _ state text line = refl

-- ---- which tokens are allowed

pub closes_same : (place : LoopPlace) (open_now : List LoopBlock) (text : List ℕ)
    → closes_nothing place open_now text ≡ closes_none place (variables_of_each open_now) text
closes_same Statement [] text = refl
closes_same Statement (block ∷ others) text = refl
closes_same _ open_now text = refl

-- what is allowed depends on the place, the clauses so far and the variables alone
allowed_same : (place : LoopPlace) (state : State) (text : List ℕ)
    → is_allowed place state.head state.tree.blocks text
    ≡ allowed_at place state.head.has_if state.head.has_final (variables_of state.tree.blocks) text
allowed_same Statement state text = refl
allowed_same _ state text = refl

both_tests : (closes other allowed known : Bool)
    → closes ≡ false
    → closes ≡ other
    → allowed ≡ true
    → allowed ≡ known
    → (not other && known) ≡ true
both_tests false false true true h s a k = refl
both_tests false false true false h s a k = absurd cc
both_tests false false false known h s a k = absurd cc
both_tests false true allowed known h s a k = absurd cc
both_tests true other allowed known h s a k = absurd cc

no_close : (closes other known : Bool)
    → closes ≡ true
    → closes ≡ other
    → (not other && known) ≡ false
no_close true true known h s = refl
no_close true false known h s = absurd cc
no_close false other known h s = absurd cc

none_allowed : (other allowed known : Bool)
    → not allowed ≡ true
    → allowed ≡ known
    → (not other && known) ≡ false
none_allowed true false known h s = refl
none_allowed false false false h s = refl
none_allowed false false true h s = absurd cc
none_allowed other true known h s = absurd cc

pub fits_of : (state : State) (text : List ℕ)
    → closes_nothing state.place state.tree.blocks text ≡ false
    → is_allowed state.place state.head state.tree.blocks text ≡ true
    → fits (shape_of state) text ≡ true
fits_of state text unopened allowed =
    both_tests (closes_nothing state.place state.tree.blocks text)
    (closes_none state.place (variables_of_each state.tree.blocks) text)
    (is_allowed state.place state.head state.tree.blocks text)
    (allowed_at state.place state.head.has_if state.head.has_final (variables_of state.tree.blocks)
    text)
    unopened (closes_same state.place state.tree.blocks text) allowed
    (allowed_same state.place state text)

pub unfit_close : (state : State) (text : List ℕ)
    → closes_nothing state.place state.tree.blocks text ≡ true
    → fits (shape_of state) text ≡ false
unfit_close state text closes =
    no_close (closes_nothing state.place state.tree.blocks text)
    (closes_none state.place (variables_of_each state.tree.blocks) text) _ closes
    (closes_same state.place state.tree.blocks text)

pub unfit_word : (state : State) (text : List ℕ)
    → not (is_allowed state.place state.head state.tree.blocks text) ≡ true
    → fits (shape_of state) text ≡ false
unfit_word state text bad =
    none_allowed (closes_none state.place (variables_of_each state.tree.blocks) text)
    (is_allowed state.place state.head state.tree.blocks text) _ bad
    (allowed_same state.place state text)

-- ---- what is known where these tokens were read

abbrev pub brace_lines : List LoopBlock → List ℕ
brace_lines open_now = map (λ block. brace_of block.opening) open_now

pub record LoopBegan (before : List Token) (state : State) : Type 0 where
  pub follows : (later : List (List ℕ))
      → Follows (shape_of state) later
      → IsLoopSentence (texts before ++ later)
  pub accepted : (later : List (List ℕ))
      → IsLoopSentence (texts before ++ later)
      → accepts (shape_of state) later ≡ true
  pub braces_are : open_braces before ≡ brace_lines state.tree.blocks

-- a token that the grammar does not have
pub is_not_viable : (before : List Token) (state : State) (text : List ℕ) → LoopBegan before state
    → fits (shape_of state) text ≡ false → IsViable IsLoopSentence (texts before ++ text ∷ []) → ⊥
is_not_viable before state text b wrong_here v =
    let sentence : IsLoopSentence (texts before ++ text ∷ v.0) =
    subst IsLoopSentence (append_assoc (texts before) (text ∷ []) v.0) v.1 in
    let fits_so : fits (shape_of state) text ≡ true =
    (accepts_next (shape_of state) text v.0 (b.accepted (text ∷ v.0) sentence)).0 in
    absurd (let wrong : true ≡ false = sym fits_so ∙ wrong_here in cc)

-- and one that it has
pub viable_next : (before : List Token) (state : State) (text : List ℕ) → LoopBegan before state
    → fits (shape_of state) text ≡ true → IsViable IsLoopSentence (texts before ++ text ∷ [])
viable_next before state text b fits_so =
    let shape = shape_of state in
    let next = lead shape text in
    let continued =
    may_continue next.place next.has_if next.has_final next.variable next.variables next.around in
    let back =
    steps_back shape.place shape.has_if shape.has_final shape.variable shape.variables shape.around
    text continued.0 fits_so
    continued.1 in (
      continued.0,
      subst IsLoopSentence (sym (append_assoc (texts before) (text ∷ []) continued.0))
          (b.follows (text ∷ continued.0) back),
    )

-- ---- open blocks

abbrev token_so : List ℕ → ℕ → Token
token_so text line = record { text = text; line = line }

abbrev BracesGo : LoopPlace → State → List ℕ → ℕ → Type 0
BracesGo place state text line =
    braces_after (brace_lines state.tree.blocks) (token_so text line)
    ≡ brace_lines (after_at place (at state place) text line).tree.blocks

-- at a place that has no `{` and no `}`
no_brace : (place : LoopPlace) (state : State) (text : List ℕ) (line : ℕ)
    → is_allowed place state.head state.tree.blocks text ≡ true
    → is_allowed place state.head state.tree.blocks (codes "{") ≡ false
    → is_allowed place state.head state.tree.blocks (codes "}") ≡ false
    → (after_at place (at state place) text line).tree.blocks ≡ state.tree.blocks
    → BracesGo place state text line
no_brace place state text line allowed no_open no_end same =
    let test : List ℕ → Bool = λ t. is_allowed place state.head state.tree.blocks t in
    let opens = other_text test text (codes "{") allowed no_open in
    let ends = other_text test text (codes "}") allowed no_end in
    let stay : braces_after (brace_lines state.tree.blocks) (token_so text line)
    ≡ brace_lines state.tree.blocks =
    rw (opens, ends) refl in
    stay ∙ sym (ap brace_lines same)

either_blocks : (b : Bool) (one other : State) (open_now : List LoopBlock)
    → one.tree.blocks ≡ open_now
    → other.tree.blocks ≡ open_now
    → (cond b one other).tree.blocks ≡ open_now
either_blocks true one other open_now h g = h
either_blocks false one other open_now h g = g

end_braces : (open_now : List LoopBlock) (statements : Tree) (line : ℕ)
    → braces_after (brace_lines open_now) (token_so (codes "}") line)
    ≡ brace_lines (blocks.after_end_of open_now statements).blocks
end_braces [] statements line = refl
end_braces (block ∷ others) statements line = refl

-- a statement opens or ends a block as its brace says
statement_braces : (state : State) (text : List ℕ) (line : ℕ)
    → is_allowed Statement state.head state.tree.blocks text ≡ true
    → BracesGo Statement state text line
statement_braces state text line allowed =
    bool_cases (is_text text (codes "work"))
    (λ work. rw (same_text text (codes "work") work) refl)
    (λ no_work. bool_cases (is_text text (codes "task"))
    (λ task. rw (same_text text (codes "task") task) refl)
    (λ no_task. bool_cases (is_text text (codes "taskwait"))
    (λ wait. rw (same_text text (codes "taskwait") wait) refl)
    (λ no_wait. bool_cases (is_text text (codes "taskgroup"))
    (λ group. rw (same_text text (codes "taskgroup") group) refl)
    (λ no_group. bool_cases (is_text text (codes "for"))
    (λ loop. rw (same_text text (codes "for") loop) refl)
    (λ no_for. rw (is_loop_end text allowed no_work no_task no_wait no_group no_for)
    (end_braces state.tree.blocks state.tree.statements line))))))

clause_braces : (state : State) (text : List ℕ) (line : ℕ)
    → is_allowed Clause state.head state.tree.blocks text ≡ true → BracesGo Clause state text line
clause_braces state text line allowed =
    bool_cases (is_text text (codes "{"))
    (λ brace. rw (same_text text (codes "{") brace) refl)
    (λ no_brace_here. bool_cases (is_text text (codes "if"))
    (λ if_word. rw (same_text text (codes "if") if_word) refl)
    (λ no_if. bool_cases (is_text text (codes "final"))
    (λ final_word. rw (same_text text (codes "final") final_word) refl)
    (λ no_final. rw
    (clause_depend text state.head.has_if state.head.has_final allowed no_brace_here no_if no_final)
    refl)))

-- at every place, blocks open and end as the braces say
place_braces : (place : LoopPlace) (state : State) (text : List ℕ) (line : ℕ)
    → is_allowed place state.head state.tree.blocks text ≡ true → BracesGo place state text line
place_braces Statement state text line h = statement_braces state text line h
place_braces GroupBrace state text line h = rw (same_text text (codes "{") h) refl
place_braces ForBrace state text line h = rw (same_text text (codes "{") h) refl
place_braces Clause state text line h = clause_braces state text line h
place_braces (Subscript kind) state text line h =
    no_brace (Subscript kind) state text line h refl refl (either_blocks (is_text text (codes "["))
    _ _ state.tree.blocks refl
    (either_blocks (is_text text (codes ",")) _ _ state.tree.blocks refl refl))
place_braces (IndexStart kind) state text line h =
    no_brace (IndexStart kind) state text line h refl refl (either_blocks (is_number text) _ _
    state.tree.blocks refl
    (either_blocks (is_text text (codes "-")) _ _ state.tree.blocks refl refl))
place_braces (IndexSign kind) state text line h =
    no_brace (IndexSign kind) state text line h refl refl
    (either_blocks (is_text text (codes "]")) _ _ state.tree.blocks refl refl)
place_braces (DependMore kind) state text line h =
    no_brace (DependMore kind) state text line h refl refl
    (either_blocks (is_text text (codes ",")) _ _ state.tree.blocks refl refl)
place_braces place state text line h = no_brace place state text line h refl refl refl

-- ---- one token more

unless_cases : {P : Type 0} (found : Option ReadKind) (line : ℕ) (after : Result State ReadFault)
    (next : State)
    → unless_fault found line after ≡ Ok next → (found ≡ None → after ≡ Ok next → P) → P
unless_cases (Some kind) line after next h on = absurd cc
unless_cases None line after next h on = on refl h

pub record Passed (state next : State) (token : Token) : Type 0 where
  pub formed : form_fault token.text ≡ None
  pub unopened : closes_nothing state.place state.tree.blocks token.text ≡ false
  pub allowed : is_allowed state.place state.head state.tree.blocks token.text ≡ true
  pub small : is_number_too_large state.place token.text ≡ false
  pub shallow : nests_too_deep state.place state.tree.blocks token.text ≡ false
  pub next_is : after_at state.place state token.text token.line ≡ next

-- a token that is read passes both tables
pub step_passes : (state next : State) (token : Token) → step state token ≡ Ok next
    → Passed state next token
unfolding step
step_passes state next token h =
    unless_cases (form_fault token.text) token.line _ next h
    (λ form h1. unless_cases (place_fault state token.text) token.line _ next h1
    (λ place h2.
    let unopened_row = row_passed _ _ _ place in
    let allowed_row = row_passed _ _ _ unopened_row.1 in
    let small_row = row_passed _ _ _ allowed_row.1 in
    record {
      formed = form;
      unopened = unopened_row.0;
      allowed = not-false _ allowed_row.0;
      small = small_row.0;
      shallow = (row_passed _ _ _ small_row.1).0;
      next_is = ok_is _ next h2;
    }))

-- one token more: what was read is still the beginning of a text
pub step_begins : (before : List Token) (state next : State) (token : Token)
    → LoopBegan before state
    → step state token ≡ Ok next
    → LoopBegan (before ++ token ∷ []) next
step_begins before state next token b h =
    let passed = step_passes state next token h in
    let shape = shape_of state in
    let fits_so : fits shape token.text ≡ true = fits_of state token.text passed.unopened
    passed.allowed in
    let leads : shape_of next ≡ lead shape token.text = sym
    (ap (λ (t : State). shape_of t) passed.next_is)
    ∙ place_leads state.place state token.text token.line in
    let on : (later : List (List ℕ))
    → texts (before ++ token ∷ []) ++ later ≡ texts before ++ token.text ∷ later =
    λ later. ap (λ (ts : List (List ℕ)). ts ++ later) (texts_more before token)
    ∙ append_assoc (texts before) (token.text ∷ []) later in
    record {
      follows = λ later f.
          subst IsLoopSentence (sym (on later))
          (b.follows (token.text ∷ later)
          (steps_back shape.place shape.has_if shape.has_final shape.variable
          shape.variables shape.around token.text later fits_so
          (subst (λ (t : LoopShape). Follows t later) leads f)));
      accepted = λ later sentence.
          subst (λ (t : LoopShape). accepts t later ≡ true) (sym leads)
          (accepts_next shape token.text
          later (b.accepted (token.text ∷ later) (subst IsLoopSentence (on later) sentence))).1;
      braces_are = fold-append braces_after [] before (token ∷ [])
          ∙ ap (λ (lines : List ℕ). braces_after lines token) b.braces_are
          ∙ place_braces state.place state token.text token.line passed.allowed
          ∙ ap (λ (t : State). brace_lines t.tree.blocks) passed.next_is;
    }
