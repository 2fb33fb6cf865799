-- What is wrong with a piece of an expansion of any size after those before it.
use Rattle.std.specs.Prelude.{ℕ, ◌+◌, Bool, not, ◌||◌, nat_lt, nat_le, if◌then◌else◌, length, None}
use Rattle.program_text.specs.declared.fault.ReadKind.TheVariants.{TooLong, BadNumber, TooManyItems}
use Rattle.program_text.specs.declared.fault.ReadKind.TheVariants.{WorkTooLarge, TooManyTurns}
use Rattle.program_text.specs.declared.limits.TheConstants.{MOST_WORK}
use Rattle.program_text.specs.Limits.{work_of}
use Rattle.task_program.specs.Expansion.Piece.{TurnBegins, TaskComes, ItemComes, TaskOpens}
use Rattle.task_program.specs.Expansion.Piece.{GroupComes, GroupOpens, BlockEnds, WorkIs, WaitIs}
use Rattle.task_program.specs.PieceFaults.{fault_at, fault_if}
use Rattle.task_program.specs.SecondPass.{PieceTest}
use Rattle.task_program.specs.TreeSoFar.{TreeSoFar}
use Rattle.large_text.specs.declared.limits.TheConstants.{MOST_LARGE_TURNS, MOST_LARGE_LINES}
use Rattle.large_text.specs.declared.limits.TheConstants.{MOST_LARGE_ITEMS}
use Rattle.large_text.specs.declared.limits.TheConstants.{MOST_TASK_ITEMS}

-- the lines of the canonical text so far, behind its header, with a `}` for each open block
abbrev pub lines_of : TreeSoFar → ℕ
lines_of tree = length tree.marks + length tree.blocks

abbrev pub are_lines_too_many : (more : ℕ) → TreeSoFar → Bool
are_lines_too_many more tree = nat_lt MOST_LARGE_LINES (lines_of tree + more)

-- the task that comes has so many items, and the expansion so many names, that no item can follow
abbrev pub is_full : (items names : ℕ) → Bool
is_full items names = nat_le MOST_TASK_ITEMS items || nat_le MOST_LARGE_ITEMS names

-- the first test that holds
abbrev pub large_fault_of : PieceTest
large_fault_of before (TurnBegins line) =
    fault_if (nat_le MOST_LARGE_TURNS before.turns) TooManyTurns line
large_fault_of before (TaskComes line) = None
large_fault_of before (ItemComes place) =
    if is_full (length before.items) (length before.names)
    then fault_at TooManyItems place.line
    else fault_if (not place.index_fits) BadNumber place.index_line
large_fault_of before (TaskOpens undeferred line) =
    fault_if (are_lines_too_many 2 before.tree) TooLong line
large_fault_of before (GroupComes line) = None
large_fault_of before (GroupOpens line) =
    fault_if (are_lines_too_many 2 before.tree) TooLong line
large_fault_of before BlockEnds = None
large_fault_of before (WorkIs cost line) =
    if nat_lt MOST_WORK (work_of before.tree.marks + cost) then fault_at WorkTooLarge line
    else fault_if (are_lines_too_many 1 before.tree) TooLong line
large_fault_of before (WaitIs line) = fault_if (are_lines_too_many 1 before.tree) TooLong line
