-- Carried out: how what takes the pieces of an expansion goes on, where it stands at a state.
use Rattle.std.specs.Prelude.{◌≡◌, ◌<◌, List, Result, Ok, Err, length}
use Rattle.program_text.specs.declared.fault.ReadFault.{ReadFault}
use Rattle.program_text.specs.Answers.{Fails}
use Rattle.task_program.specs.Expansion.{Piece}
use Rattle.task_program.specs.Expanded.{ExpansionState}
use Rattle.task_program.specs.SecondPass.{PieceTest, take_pieces_by}

-- it stands at some state
abbrev pub IsSomewhere : (ExpansionState → Type 0) → Type 0
IsSomewhere stands = (state : ExpansionState) × stands state

-- and a block is open there
abbrev pub IsInside : (ExpansionState → Type 0) → Type 0
IsInside stands = (state : ExpansionState) × stands state × (0 < length state.tree.blocks)

-- the pieces lead from each state at which it stood to one at which it stands
abbrev pub LeadsOn : PieceTest → List Piece → (before after : ExpansionState → Type 0) → Type 0
LeadsOn test pieces before after =
    (state : ExpansionState) → before state
    → (next : ExpansionState) × (take_pieces_by test state pieces ≡ Ok next) × after next

-- or the fault is that of the first of them which the test refuses, unless memory ran out
abbrev pub StopsAt : PieceTest → List Piece → (before : ExpansionState → Type 0) → ReadFault → Type 0
StopsAt test pieces before fault =
    (state : ExpansionState) → before state → Fails fault (take_pieces_by test state pieces)

abbrev pub TakesSo : {X : Type 0} → PieceTest → List Piece
    → (before after : ExpansionState → Type 0)
    → Result X ReadFault
    → Type 0
TakesSo test pieces before after (Ok x) = LeadsOn test pieces before after
TakesSo test pieces before after (Err fault) = StopsAt test pieces before fault
