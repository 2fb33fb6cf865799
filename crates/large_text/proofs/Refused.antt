-- What is wrong with a token at which the reading stops.
use Rattle.std.proofs.Common.{◌≡◌, ◌≢◌, ℕ, ◌+◌, Bool, true, false, List, [], ◌∷◌, ◌++◌, length}
use Rattle.std.proofs.Common.{Some, None, Result, Err, sym, subst, ◌∙◌}
use Rattle.std.specs.Prelude.{MatchBool, sum_by}
use Rattle.program_text.specs.declared.fault.ReadKind.{ReadKind}
use Rattle.program_text.specs.declared.fault.ReadKind.TheVariants.{OutOfMemory}
use Rattle.program_text.specs.declared.fault.ReadFault.{ReadFault}
use Rattle.program_text.specs.Answers.{Fails, is_memory}
use Rattle.program_text.specs.Limits.{work_of}
use Rattle.program_text.specs.Marks.{Mark}
use Rattle.program_text.specs.Tokens.{Token, texts}
use Rattle.task_program.specs.Faults.{State}
use Rattle.task_program.specs.FirstFault.{IsViable, IsWrong}
use Rattle.task_program.specs.FirstFault.IsFirstFault.{AtToken}
use Rattle.task_program.specs.FirstFault.IsWrong.{ByItself, PastLimit}
use Rattle.task_program.specs.FirstPlainFault.{IsSentence}
use Rattle.task_program.proofs.Machines.{WrongSo}
use Rattle.task_program.proofs.Readings.{not_memory}
use Rattle.task_program.proofs.Begun.{Began, viable_next}
use Rattle.task_program.proofs.Begun.{fits_of, closes_same}
use Rattle.task_program.proofs.FaultFound.{misplaced_or, unless_err}
use Rattle.large_text.specs.declared.limits.TheConstants.{MOST_LARGE_TOKEN_BYTES}
use Rattle.large_text.specs.declared.limits.TheConstants.{MOST_LARGE_NESTING, MOST_TASK_ITEMS}
use Rattle.large_text.specs.declared.reader.MarkReader.{MarkReader}
use Rattle.large_text.specs.LargeFaults.{grammar_fault, large_limit_by}
use Rattle.large_text.specs.LargeFaults.{closes_no_block, is_inside_at, items_coming}
use Rattle.large_text.specs.LargeFaults.{large_form_fault}
use Rattle.large_text.specs.LargeReading.{state_of, large_step}
use Rattle.large_text.specs.LargeTrees.{large_rules, too_many_large, IsLargeFirstFault}
use Rattle.large_text.proofs.Items.{AreCounted}
use Rattle.large_text.proofs.Steps.{closes_so, is_there}
use Rattle.large_text.proofs.Sound.{IsBehind, IsSound}
use Rattle.large_text.proofs.SoFar.{limits_so}

-- the grammar has not the token there
misplaced : (before : List Token) (state : State) (text : List ℕ) (kind : ReadKind)
    → Began (texts before) state
    → large_form_fault (sum_by length (texts before)) text ≡ None
    → grammar_fault state.place state.head.has_if (length state.tree.blocks) text ≡ Some kind
    → IsWrong large_rules before text kind
misplaced before state text kind began formed h =
    misplaced_or MOST_LARGE_TOKEN_BYTES MOST_LARGE_NESTING MOST_TASK_ITEMS too_many_large before state text
    kind (closes_no_block state.place (length state.tree.blocks) text) None began formed
    (closes_so state.place (length state.tree.blocks) text) h
    (λ header unopened allowed none. absurd cc)

-- the grammar has it, so a sentence begins with it
viable_there : (before : List Token) (state : State) (text : List ℕ) → Began (texts before) state
    → grammar_fault state.place state.head.has_if (length state.tree.blocks) text ≡ None
    → IsViable IsSentence (texts before ++ text ∷ [])
viable_there before state text began h =
    let there = is_there state.place state.head.has_if (length state.tree.blocks) text h in
    viable_next (texts before) state text began (fits_of state text there.header
    (closes_same state.place state.tree.blocks text
    ∙ sym (closes_so state.place (length state.tree.blocks) text)
    ∙ there.unopened)
    there.allowed)

-- a token that is refused is wrong
pub token_wrong : (before : List Token) (work all_items : ℕ) (state : State) (token : Token)
    (fault : ReadFault)
    → IsBehind before state
    → work ≡ work_of state.tree.marks
    → AreCounted before state.place all_items
    → large_step work all_items state token ≡ Err fault
    → WrongSo large_rules before token fault
token_wrong before work all_items state token fault b work_is counted h =
    let text = token.text in
    unless_err (large_form_fault state.bytes text) token.line _ fault h
    (λ kind form same. (
      kind,
      ByItself (subst (λ (n : ℕ). large_form_fault n text ≡ Some kind) b.began.bytes_are form),
      same,
    ))
    (λ form h1.
    let formed = subst (λ (n : ℕ). large_form_fault n text ≡ None) b.began.bytes_are form in
    unless_err (grammar_fault state.place state.head.has_if (length state.tree.blocks) text)
    token.line _ fault h1
    (λ kind wrong same. (kind, misplaced before state text kind b.began formed wrong, same))
    (λ grammar h2. unless_err (large_limit_by (is_inside_at state.place) work
    (all_items + items_coming state.place) (length state.head.items + items_coming state.place)
    (length state.tree.blocks) text)
    token.line _ fault h2
    (λ kind limit same. (
      kind,
      PastLimit formed (viable_there before state text b.began grammar)
          (limits_so before state work all_items text b.tally_is work_is counted ∙ limit),
      same,
    ))
    (λ none wrong. absurd cc)))

-- so its fault is the first
pub first_fault : (before later : List Token) (marks : List Mark) (reader : MarkReader)
    (token : Token) (end_line : ℕ) (fault : ReadFault)
    → IsSound before marks reader
    → large_step reader.work reader.all_items (state_of reader marks) token ≡ Err fault
    → IsLargeFirstFault (before ++ token ∷ later) end_line fault
first_fault before later marks reader token end_line fault r h =
    let told = token_wrong before reader.work reader.all_items (state_of reader marks) token fault
    r.behind r.work_is r.counted h in
    subst (IsLargeFirstFault (before ++ token ∷ later) end_line) told.2
    (AtToken before later token end_line told.0 r.right told.1)

by_fault : (memory : Bool) (fault : ReadFault) (answer : Result State ReadFault)
    → memory ≡ false
    → MatchBool memory (fault.line ≡ 0) (answer ≡ Err fault)
    → answer ≡ Err fault
by_fault true fault answer quiet h = absurd cc
by_fault false fault answer quiet h = h

-- memory aside, a fault is that of the step
pub fault_told : (fault : ReadFault) (answer : Result State ReadFault)
    → fault.kind ≢ OutOfMemory
    → Fails fault answer
    → answer ≡ Err fault
fault_told fault answer other h =
    by_fault (is_memory fault.kind) fault answer (not_memory fault.kind other) h
