-- What is wrong with a piece of an expansion after those before it.
use Rattle.std.specs.Prelude.{ℕ, ◌+◌, Bool, not, nat_lt, nat_le, if◌then◌else◌, length, Option}
use Rattle.std.specs.Prelude.{Some, None}
use Rattle.program_text.specs.declared.fault.ReadKind.TheVariants.{TooLong, BadNumber, TooManyTasks}
use Rattle.program_text.specs.declared.fault.ReadKind.TheVariants.{TooManySegments, TooManyItems}
use Rattle.program_text.specs.declared.fault.ReadKind.TheVariants.{WorkTooLarge, TooManyTurns}
use Rattle.program_text.specs.declared.fault.ReadKind.{ReadKind}
use Rattle.program_text.specs.declared.fault.ReadFault.{ReadFault}
use Rattle.program_text.specs.declared.limits.TheConstants.{MOST_TOKEN_BYTES, MOST_TASKS}
use Rattle.program_text.specs.declared.limits.TheConstants.{MOST_SEGMENTS, MOST_ITEMS, MOST_WORK}
use Rattle.program_text.specs.declared.limits.TheConstants.{MOST_TURNS}
use Rattle.program_text.specs.Limits.{tasks_of, segments_of, work_of}
use Rattle.task_program.specs.Expansion.{Piece}
use Rattle.task_program.specs.Expanded.{ExpansionState, after_piece}
use Rattle.task_program.specs.Expansion.Piece.{TurnBegins, TaskComes, ItemComes, TaskOpens}
use Rattle.task_program.specs.Expansion.Piece.{GroupComes, GroupOpens, BlockEnds, WorkIs, WaitIs}

abbrev pub fault_at : ReadKind → ℕ → Option ReadFault
fault_at kind line = Some (record { kind = kind; line = line })

abbrev pub fault_if : Bool → ReadKind → ℕ → Option ReadFault
fault_if holds kind line = if holds then fault_at kind line else None

abbrev pub are_segments_too_many : (more segments : ℕ) → Bool
are_segments_too_many more segments = nat_lt MOST_SEGMENTS (segments + more)

-- the canonical text would be too long
abbrev pub is_too_long : ℕ → Bool
is_too_long bytes = nat_lt MOST_TOKEN_BYTES bytes

-- The first test that holds. With this piece the canonical text has so many bytes outside blanks.
abbrev pub fault_by : (before : ExpansionState) (bytes : ℕ) → Piece → Option ReadFault
fault_by before bytes (TurnBegins line) =
    fault_if (nat_le MOST_TURNS before.turns) TooManyTurns line
fault_by before bytes (TaskComes line) =
    if nat_le MOST_TASKS (tasks_of before.tree.marks) then fault_at TooManyTasks line
    else fault_if (are_segments_too_many 2 (segments_of before.tree.marks)) TooManySegments line
fault_by before bytes (ItemComes place) =
    if nat_le MOST_ITEMS (length before.items) then fault_at TooManyItems place.line
    else fault_if (not place.index_fits) BadNumber place.index_line
fault_by before bytes (TaskOpens undeferred line) = fault_if (is_too_long bytes) TooLong line
fault_by before bytes (GroupComes line) =
    fault_if (are_segments_too_many 1 (segments_of before.tree.marks)) TooManySegments line
fault_by before bytes (GroupOpens line) = fault_if (is_too_long bytes) TooLong line
fault_by before bytes BlockEnds = None
fault_by before bytes (WorkIs cost line) =
    if nat_lt MOST_WORK (work_of before.tree.marks + cost) then fault_at WorkTooLarge line
    else fault_if (is_too_long bytes) TooLong line
fault_by before bytes (WaitIs line) =
    if are_segments_too_many 1 (segments_of before.tree.marks) then fault_at TooManySegments line
    else fault_if (is_too_long bytes) TooLong line

-- what is wrong with a piece where those before it led so far
abbrev pub fault_of : ExpansionState → Piece → Option ReadFault
fault_of before piece = fault_by before (after_piece before piece).bytes piece
