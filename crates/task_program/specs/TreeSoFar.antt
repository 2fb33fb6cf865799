-- The tree of a program so far: its marks, and the blocks that are open.
use Rattle.std.specs.Prelude.{ℕ, List, [], ◌∷◌, ◌++◌}
use Rattle.program_text.specs.Marks.{Mark}
use Rattle.program_text.specs.Marks.Mark.{Ends, GroupEnds}

-- an open block, by the line of its `{`
pub data Block : Type 0 where
  TaskBlock : (line : ℕ) → Block
  GroupBlock : (line : ℕ) → Block

-- the tree so far: its marks, and the blocks that are open, the innermost first
pub record TreeSoFar : Type 0 where
  pub blocks : List Block
  pub marks : List Mark

abbrev pub with_mark : TreeSoFar → Mark → TreeSoFar
with_mark tree mark = record tree { marks = tree.marks ++ mark ∷ [] }

abbrev pub with_block : TreeSoFar → Block → Mark → TreeSoFar
with_block tree block
    mark = record { blocks = block ∷ tree.blocks; marks = tree.marks ++ mark ∷ [] }

abbrev pub end_mark_of : Block → Mark
end_mark_of (TaskBlock line) = Ends
end_mark_of (GroupBlock line) = GroupEnds

-- the innermost block ends
abbrev pub after_end_of : List Block → List Mark → TreeSoFar
after_end_of [] marks = record { blocks = []; marks = marks }
after_end_of (block ∷ blocks)
    marks = record { blocks = blocks; marks = marks ++ end_mark_of block ∷ [] }

abbrev pub without_innermost : TreeSoFar → TreeSoFar
without_innermost tree = after_end_of tree.blocks tree.marks
