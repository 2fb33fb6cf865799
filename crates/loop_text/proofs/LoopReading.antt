-- Reading on from token to token, in version 2.
use Rattle.std.proofs.Common.{◌≡◌, ℕ, Bool, true, false, List, [], ◌∷◌, Result, Ok, Err, refl, sym}
use Rattle.std.proofs.Common.{ap, ◌∙◌}
use Rattle.std.specs.Prelude.{MatchBool}
use Rattle.program_text.specs.declared.fault.ReadFault.{ReadFault}
use Rattle.program_text.specs.Answers.{Fails, is_memory}
use Rattle.program_text.specs.Tokens.{Token}
use Rattle.loop_text.specs.Loops.{Tree}
use Rattle.loop_text.specs.FirstPass.{State, step, first_pass, tree_or_fault, end_at}

pub goes_on : (tokens later : List Token) (token : Token) (end_line : ℕ) (state next : State)
    (total : Result Tree ReadFault)
    → tokens ≡ token ∷ later
    → step state token ≡ Ok next
    → first_pass tokens end_line state ≡ total
    → first_pass later end_line next ≡ total
unfolding first_pass
goes_on tokens later token end_line state next total split one so_far =
    let here : first_pass (token ∷ later) end_line state ≡ first_pass later end_line next =
    rw one refl in
    sym here ∙ sym (ap (λ ts. first_pass ts end_line state) split) ∙ so_far

fails_by : (memory : Bool) (fault : ReadFault) (total : Result Tree ReadFault)
    (answer : Result State ReadFault)
    → MatchBool memory (fault.line ≡ 0) (answer ≡ Err fault)
    → (answer ≡ Err fault → total ≡ Err fault)
    → MatchBool memory (fault.line ≡ 0) (total ≡ Err fault)
fails_by true fault total answer h later = h
fails_by false fault total answer h later = later h

pub fails : (tokens later : List Token) (token : Token) (end_line : ℕ) (state : State)
    (fault : ReadFault) (total : Result Tree ReadFault)
    → tokens ≡ token ∷ later
    → Fails fault (step state token)
    → first_pass tokens end_line state ≡ total
    → Fails fault total
unfolding first_pass
fails tokens later token end_line state fault total split one so_far =
    fails_by (is_memory fault.kind) fault total (step state token) one (λ here.
    let there : first_pass (token ∷ later) end_line state ≡ Err fault = rw here refl in
    sym so_far ∙ ap (λ ts. first_pass ts end_line state) split ∙ there)

pub ends : (tokens : List Token) (end_line : ℕ) (state : State) (total : Result Tree ReadFault)
    → tokens ≡ []
    → first_pass tokens end_line state ≡ total
    → tree_or_fault (end_at state.place state.tree.blocks end_line) state ≡ total
unfolding first_pass
ends tokens end_line state total none so_far =
    sym (ap (λ ts. first_pass ts end_line state) none) ∙ so_far
