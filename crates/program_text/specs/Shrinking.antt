-- Carried out: a body that stands in a statement has fewer marks than the statements.
use Rattle.std.specs.Prelude.{◌≤◌, max, List, [], ◌∷◌, length}
use Rattle.std.proofs.Common.{arith, length-append}
use denote.Param.Weighed.{most}
use Rattle.program_text.specs.Statements.{marks_of, marks_of_one}
use Rattle.program_text.specs.Marks.Mark.{Ends, GroupEnds}
use Rattle.program_text.specs.declared.statement.Stmt.{Stmt}
use Rattle.program_text.specs.declared.statement.Stmt.TheVariants.{Work, Task, Wait, Group}
use Rattle.program_text.specs.declared.statement.Body.TheDeep.{deep-Stmt}

one_shrinks : (statement : Stmt) → deep-Stmt statement ≤ length (marks_of_one statement)
one_shrinks (Work cost) = omega arith
one_shrinks (Task task) = omega (arith, length-append task.body (Ends ∷ []))
one_shrinks Wait = omega arith
one_shrinks (Group body) = omega (arith, length-append body (GroupEnds ∷ []))

pub marks_shrink : (statements : List Stmt)
    → max (most deep-Stmt statements) 0 ≤ length (marks_of statements)
marks_shrink [] = omega arith
marks_shrink (s ∷ ss) =
    omega (arith, one_shrinks s, marks_shrink ss, length-append (marks_of_one s) (marks_of ss))
