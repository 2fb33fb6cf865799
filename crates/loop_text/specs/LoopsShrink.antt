-- Carried out: a body that stands in a statement has fewer statements than the list that holds it.
use Rattle.std.specs.Prelude.{◌≤◌, max, List, [], ◌∷◌, fold}
use Rattle.std.proofs.Common.{arith}
use denote.Param.Weighed.{most}
use Rattle.loop_text.specs.Loops.{Tree, size_of_tree}
use Rattle.loop_text.specs.Loops.Tree.{NoStatement}
use Rattle.loop_text.specs.LoopsSeen.{with_statement, tree_of}
use Rattle.loop_text.specs.declared.loops.LoopStmt.{LoopStmt}
use Rattle.loop_text.specs.declared.loops.LoopStmt.TheVariants.{Work, Wait, Group, Task, For}
use Rattle.loop_text.specs.declared.loops.LoopBody.TheDeep.{deep-LoopStmt}

one_shrinks : (before : Tree) (statement : LoopStmt)
    → max (deep-LoopStmt statement) (size_of_tree before)
    ≤ size_of_tree (with_statement before statement)
unfolding size_of_tree
one_shrinks before (Work cost line) = omega arith
one_shrinks before (Wait line) = omega arith
one_shrinks before (Group line brace_line body) = omega arith
one_shrinks before (Task task body) = omega arith
one_shrinks before (For from to line body) = omega arith

shrink_after : (before : Tree) (statements : List LoopStmt)
    → max (most deep-LoopStmt statements) (size_of_tree before)
    ≤ size_of_tree (fold with_statement before statements)
shrink_after before [] = omega arith
shrink_after before (statement ∷ statements) =
    omega
    (arith, one_shrinks before statement, shrink_after (with_statement before statement) statements)

pub tree_shrinks : (statements : List LoopStmt)
    → max (most deep-LoopStmt statements) 0 ≤ size_of_tree (tree_of statements)
tree_shrinks statements = omega (arith, shrink_after NoStatement statements)
