-- A text of version 2 as a tree: a loop stands in it as a loop, and an index may name the variable
-- of a loop around it.
use Rattle.std.specs.Prelude.{ℕ, ◌+◌}
use Rattle.loop_text.specs.declared.loops.LoopTask.{LoopTask}

-- A list of statements: none, or those before the last, and the last. The line of a `work` is that
-- of its number, and each other line that of the first word, or of the `{`.
pub data Tree : Type 0 where
  NoStatement : Tree
  ThenWork : (before : Tree) (cost line : ℕ) → Tree
  ThenWait : (before : Tree) (line : ℕ) → Tree
  ThenGroup : (before : Tree) (line brace_line : ℕ) (body : Tree) → Tree
  ThenTask : (before : Tree) (task : LoopTask) (body : Tree) → Tree
  ThenFor : (before : Tree) (from to line : ℕ) (body : Tree) → Tree

-- how many statements there are
unfoldable pub size_of_tree : Tree → ℕ
size_of_tree NoStatement = 0
size_of_tree (ThenWork before cost line) = 1 + size_of_tree before
size_of_tree (ThenWait before line) = 1 + size_of_tree before
size_of_tree (ThenGroup before line brace_line body) = 1 + (size_of_tree body + size_of_tree before)
size_of_tree (ThenTask before task body) = 1 + (size_of_tree body + size_of_tree before)
size_of_tree (ThenFor before from to line body) = 1 + (size_of_tree body + size_of_tree before)
