-- One token of version 2.
use Rattle.std.proofs.Common.{◌≡◌, ℕ, false, List, Some, None, refl}
use Rattle.program_text.specs.declared.fault.ReadKind.{ReadKind}
use Rattle.program_text.specs.declared.fault.ReadKind.TheVariants.{BadByte, BadWord, BadNumber}
use Rattle.program_text.specs.declared.fault.ReadFault.{ReadFault}
use Rattle.program_text.specs.Answers.{is_memory, Fails}
use Rattle.program_text.specs.Tokens.{Token}
use Rattle.loop_text.specs.FirstPass.{State, place_step, step}
use Rattle.loop_text.specs.LoopTokens.{form_fault}
use Rattle.program_text.proofs.FaultRows.{row_no_memory, no_row}

form_no_memory : (text : List ℕ) (kind : ReadKind)
    → form_fault text ≡ Some kind
    → is_memory kind ≡ false
form_no_memory text kind h =
    row_no_memory _ BadByte kind _ refl
    (row_no_memory _ BadNumber kind _ refl (row_no_memory _ BadWord kind _ refl (no_row kind))) h

-- a token that is none by itself
pub form_fails : (state : State) (token : Token) (kind : ReadKind) (fault : ReadFault)
    → form_fault token.text ≡ Some kind
    → fault ≡ record { kind = kind; line = token.line }
    → Fails fault (step state token)
unfolding step
form_fails state token kind fault h fault_is =
    let no_memory = form_no_memory token.text kind h in
    rw (fault_is, no_memory, h) refl

pub form_passes : (state : State) (token : Token)
    → form_fault token.text ≡ None
    → step state token ≡ place_step state token
unfolding step
form_passes state token h = rw h refl
