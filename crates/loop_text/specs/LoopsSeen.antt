-- The tree of a list of statements.
use Rattle.std.specs.Prelude.{List, fold}
use Rattle.loop_text.specs.Loops.{Tree}
use Rattle.loop_text.specs.Loops.Tree.{NoStatement, ThenWork, ThenWait, ThenGroup, ThenTask}
use Rattle.loop_text.specs.Loops.Tree.{ThenFor}
use Rattle.loop_text.specs.declared.loops.LoopStmt.{LoopStmt}
use Rattle.loop_text.specs.declared.loops.LoopStmt.TheVariants.{Work, Wait, Group, Task, For}

abbrev pub with_statement : Tree → LoopStmt → Tree
with_statement before (Work cost line) = ThenWork before cost line
with_statement before (Wait line) = ThenWait before line
with_statement before (Group line brace_line body) = ThenGroup before line brace_line body
with_statement before (Task task body) = ThenTask before task body
with_statement before (For from to line body) = ThenFor before from to line body

abbrev pub tree_of : List LoopStmt → Tree
tree_of statements = fold with_statement NoStatement statements
