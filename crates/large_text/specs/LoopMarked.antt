-- Carried out: what is held of the pieces of an expansion that have been taken.
use Rattle.std.specs.Prelude.{◌≡◌, ℕ, ◌≤◌, Bool, false, List, [], ◌∷◌, ◌++◌, length, map, reverse}
use Rattle.program_text.specs.declared.statement.Item.{Item}
use Rattle.program_text.specs.declared.limits.TheConstants.{MOST_WORK}
use Rattle.program_text.specs.Limits.{work_of}
use Rattle.program_text.specs.Marks.{Mark}
use Rattle.program_text.specs.Marks.Mark.{Begins, GroupBegins}
use Rattle.task_program.specs.Nested.{IsNested}
use Rattle.task_program.specs.TreeSoFar.{Block}
use Rattle.task_program.specs.TreeSoFar.Block.{TaskBlock, GroupBlock}
use Rattle.program_text.specs.Answers.{Fails}
use Rattle.program_text.specs.declared.fault.ReadFault.{ReadFault}
use Rattle.loop_text.specs.Loops.{Tree}
use Rattle.task_program.specs.Expanded.{ExpansionState, empty_expansion}
use Rattle.task_program.specs.Expansion.{expansion}
use Rattle.task_program.specs.SecondPass.{take_pieces_by}
use Rattle.task_segments.specs.Moments.{last_moment}
use Rattle.large_text.specs.declared.limits.TheConstants.{MOST_LARGE_TURNS, MOST_LARGE_LINES}
use Rattle.large_text.specs.declared.limits.TheConstants.{MOST_LARGE_ITEMS}
use Rattle.large_text.specs.declared.limits.TheConstants.{MOST_TASK_ITEMS}
use Rattle.large_text.specs.declared.loop_marks.LoopMarks.{LoopMarks}
use Rattle.large_text.specs.declared.reader.OpenBlock.{OpenBlock}
use Rattle.large_text.specs.LargeReading.{block_seen}
use Rattle.large_text.specs.LoopFaults.{large_fault_of, lines_of}
use Rattle.task_program.specs.declared.version.Version.TheVariants.{Two}
use Rattle.large_text.specs.Printed.{PrintsIn}
use Rattle.large_text.specs.Tallied.{Tallies, keeps_rows, keeps_text}

-- marks behind which these blocks are open, the innermost first
pub data AreOpen : List Block → List Mark → Type 0 where
  NoneOpen : (marks : List Mark) → IsNested marks → AreOpen [] marks
  InTask : (line : ℕ) (blocks : List Block) (before : List Mark) (undeferred : Bool)
      (items : List Item) (inner : List Mark)
      → AreOpen blocks before
      → IsNested inner
      → AreOpen (TaskBlock line ∷ blocks) (before ++ Begins undeferred items ∷ inner)
  InGroup : (line : ℕ) (blocks : List Block) (before inner : List Mark)
      → AreOpen blocks before
      → IsNested inner
      → AreOpen (GroupBlock line ∷ blocks) (before ++ GroupBegins ∷ inner)

abbrev pub blocks_seen : List OpenBlock → List Block
blocks_seen blocks = reverse (map block_seen blocks)

-- it has taken pieces that amount to this, and entered their marks
pub record HasEntered (taker : LoopMarks) (state : ExpansionState) : Type 0 where
  pub turns : state.turns ≡ taker.turns
  pub few_turns : taker.turns ≤ MOST_LARGE_TURNS
  pub lines : lines_of state.tree ≡ taker.lines
  pub few_lines : taker.lines ≤ MOST_LARGE_LINES
  pub work : work_of state.tree.marks ≡ taker.work
  pub little_work : taker.work ≤ MOST_WORK
  pub names : state.names ≡ taker.names
  pub few_names : length taker.names ≤ MOST_LARGE_ITEMS
  pub items : state.items ≡ taker.items
  pub few_items : length taker.items ≤ MOST_TASK_ITEMS
  pub blocks : state.tree.blocks ≡ blocks_seen taker.blocks.items
  pub open_are : AreOpen state.tree.blocks state.tree.marks
  pub tallies : Tallies taker.tally (last_moment state.tree.marks)
  pub prints : PrintsIn Two taker.tally.printer state.names state.items state.tree.marks

-- and its tally keeps rows, and the text, where these are true
pub record HasKept (with_rows with_text : Bool) (taker : LoopMarks) (state : ExpansionState) : Type 0 where
  pub entered : HasEntered taker state
  pub rows : keeps_rows taker.tally ≡ with_rows
  pub text : keeps_text taker.tally ≡ with_text

-- the expansion of this tree is refused so, unless memory ran out
abbrev pub IsRefusedWith : Tree → ReadFault → Type 0
IsRefusedWith tree fault =
    Fails fault (take_pieces_by large_fault_of empty_expansion (expansion [] false tree))
