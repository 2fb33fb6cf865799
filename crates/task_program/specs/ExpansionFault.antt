-- The fault of the expansion of a tree with loops: that of the first piece at which something is
-- wrong.
use Rattle.std.specs.Prelude.{◌≡◌, false, List, [], ◌∷◌, Option, Some, None}
use Rattle.std.specs.Option.{option_or}
use Rattle.program_text.specs.declared.fault.ReadFault.{ReadFault}
use Rattle.loop_text.specs.Loops.{Tree}
use Rattle.task_program.specs.Expansion.{Piece, expansion}
use Rattle.task_program.specs.Expanded.{ExpansionState, after_piece, empty_expansion}
use Rattle.task_program.specs.PieceFaults.{fault_of}
use Rattle.task_program.specs.SecondPass.{PieceTest}

-- the first fault that this test finds in these pieces, where those before them led so far
unfoldable pub first_fault_by : PieceTest → ExpansionState → List Piece → Option ReadFault
first_fault_by test before [] = None
first_fault_by test before (piece ∷ pieces) =
    option_or (test before piece) (first_fault_by test (after_piece before piece) pieces)

-- the first that it finds in all pieces of a tree's expansion
abbrev pub HasExpansionFaultBy : PieceTest → Tree → ReadFault → Type 0
HasExpansionFaultBy test tree fault =
    first_fault_by test empty_expansion (expansion [] false tree) ≡ Some fault

-- the same of a program
abbrev pub HasExpansionFault : Tree → ReadFault → Type 0
HasExpansionFault tree fault = HasExpansionFaultBy fault_of tree fault
