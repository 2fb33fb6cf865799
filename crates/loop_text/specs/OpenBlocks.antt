-- The open blocks of a text of version 2, and the statements of the innermost.
use Rattle.std.specs.Prelude.{ℕ, nat_lt, if◌then◌else◌, List, [], ◌∷◌, Option, Some, None}
use Rattle.std.specs.List.{list_any, position_or_len}
use Rattle.std.specs.Str.{bytes_eq}
use Rattle.loop_text.specs.declared.open_loops.LoopOpening.{LoopOpening}
use Rattle.loop_text.specs.declared.open_loops.LoopOpening.TheVariants.{TaskOpening, GroupOpening}
use Rattle.loop_text.specs.declared.open_loops.LoopOpening.TheVariants.{ForOpening}
use Rattle.loop_text.specs.declared.open_loops.LoopBlock.{LoopBlock}
use Rattle.loop_text.specs.Loops.{Tree}
use Rattle.loop_text.specs.Loops.Tree.{NoStatement, ThenGroup, ThenTask, ThenFor}

-- the blocks, the innermost first, each with the statements before it in the block around it
pub record OpenBlocks : Type 0 where
  pub blocks : List LoopBlock
  pub statements : Tree

abbrev pub with_statements : OpenBlocks → Tree → OpenBlocks
with_statements open_blocks statements = record open_blocks { statements = statements }

-- a block opens
abbrev pub with_open_block : OpenBlocks → LoopOpening → OpenBlocks
with_open_block open_blocks opening = record {
  blocks = record { before = open_blocks.statements; opening = opening } ∷ open_blocks.blocks;
  statements = NoStatement;
}

-- A block as the statement after these. A loop that has no turn stands for nothing, and is left
-- out.
abbrev pub with_block : Tree → LoopOpening → Tree → Tree
with_block before (TaskOpening task) body = ThenTask before task body
with_block before (GroupOpening line brace_line) body = ThenGroup before line brace_line body
with_block before (ForOpening variable from to line brace_line) body =
    if nat_lt to from then before else ThenFor before from to line body

abbrev pub after_end_of : List LoopBlock → Tree → OpenBlocks
after_end_of [] statements = record { blocks = []; statements = statements }
after_end_of (block ∷ blocks)
    statements = record {
      blocks = blocks;
      statements = with_block block.before block.opening statements;
    }

-- the innermost block ends
abbrev pub without_innermost : OpenBlocks → OpenBlocks
without_innermost open_blocks = after_end_of open_blocks.blocks open_blocks.statements

-- the line of a block's `{`
abbrev pub brace_of : LoopOpening → ℕ
brace_of (TaskOpening task) = task.brace_line
brace_of (GroupOpening line brace_line) = brace_line
brace_of (ForOpening variable from to line brace_line) = brace_line

abbrev pub innermost_brace : List LoopBlock → Option ℕ
innermost_brace [] = None
innermost_brace (block ∷ blocks) = Some (brace_of block.opening)

-- ---- the variables of the loops around, the innermost first

abbrev pub variables_around : LoopOpening → List (List ℕ) → List (List ℕ)
variables_around (ForOpening variable from to line brace_line) others = variable ∷ others
variables_around _ others = others

unfoldable pub variables_of : List LoopBlock → List (List ℕ)
variables_of [] = []
variables_of (block ∷ blocks) = variables_around block.opening (variables_of blocks)

-- the loops between a variable's own and this place
abbrev pub variable_number : List (List ℕ) → List ℕ → Option ℕ
variable_number variables text =
    if list_any (bytes_eq text) variables
    then Some (position_or_len (bytes_eq text) variables)
    else None
