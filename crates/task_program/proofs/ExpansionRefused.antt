-- The second pass refuses an expansion with the fault that it has by the definition, and with no
-- other.
use Rattle.std.proofs.Common.{◌≡◌, false, List, [], ◌∷◌, Option, Some, None, Result, Ok, Err}
use Rattle.std.proofs.Common.{refl, sym, ◌∙◌}
use Rattle.std.specs.Prelude.{◌↔◌}
use Rattle.std.specs.Option.{option_or}
use Rattle.program_text.specs.declared.fault.ReadFault.{ReadFault}
use Rattle.loop_text.specs.Loops.{Tree}
use Rattle.task_program.specs.Expansion.{Piece, expansion}
use Rattle.task_program.specs.SecondPass.{take_pieces, take_pieces_by, then_take, unless_at_fault}
use Rattle.task_program.specs.PieceFaults.{fault_of}
use Rattle.task_program.specs.Expanded.{ExpansionState, after_piece, empty_expansion}
use Rattle.task_program.specs.ReadInVersion.{second_pass, expanded_program}
use Rattle.task_program.specs.ExpansionFault.{first_fault_by, HasExpansionFault}

abbrev fault_in : Result ExpansionState ReadFault → Option ReadFault
fault_in (Ok state) = None
fault_in (Err fault) = Some fault

one_piece_fault : (found : Option ReadFault) (next : ExpansionState)
    (later : ExpansionState → Result ExpansionState ReadFault) (first : Option ReadFault)
    → fault_in (later next) ≡ first
    → fault_in (then_take (unless_at_fault found next) later) ≡ option_or found first
one_piece_fault None next later first h = h
one_piece_fault (Some fault) next later first h = refl

-- the pass stops where the first fault is
stops_at_first : (state : ExpansionState) (pieces : List Piece)
    → fault_in (take_pieces state pieces) ≡ first_fault_by fault_of state pieces
unfolding take_pieces_by first_fault_by
stops_at_first state [] = refl
stops_at_first state (piece ∷ pieces) =
    one_piece_fault (fault_of state piece) (after_piece state piece)
    (λ next. take_pieces next pieces) (first_fault_by fault_of (after_piece state piece) pieces)
    (stops_at_first (after_piece state piece) pieces)

refused_with : (read : Result ExpansionState ReadFault) (fault : ReadFault)
    → (expanded_program read ≡ Err fault) ↔ (fault_in read ≡ Some fault)
refused_with (Ok state) fault = (λ h. absurd cc, λ h. absurd cc)
refused_with (Err other) fault = (λ h. cc, λ h. cc)

-- the second pass refuses a tree exactly with the fault of its expansion
pub expansion_fault : (tree : Tree) (fault : ReadFault)
    → (second_pass tree ≡ Err fault) ↔ HasExpansionFault tree fault
expansion_fault tree fault =
    let pieces = expansion [] false tree in
    let read = take_pieces empty_expansion pieces in
    let both = refused_with read fault in (
      λ h. sym (stops_at_first empty_expansion pieces) ∙ both.0 h,
      λ h. both.1 (stops_at_first empty_expansion pieces ∙ h),
    )
