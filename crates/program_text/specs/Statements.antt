-- The marks of a list of statements.
use Rattle.std.specs.Prelude.{List, [], ◌∷◌, ◌++◌}
use Rattle.std.specs.List.{flat_map}
use Rattle.program_text.specs.Marks.{Mark}
use Rattle.program_text.specs.Marks.Mark.{Begins, Ends, Works, Waits, GroupBegins, GroupEnds}
use Rattle.program_text.specs.declared.statement.Stmt.{Stmt}
use Rattle.program_text.specs.declared.statement.Stmt.TheVariants.{Work, Task, Wait, Group}

abbrev pub marks_of_one : Stmt → List Mark
marks_of_one (Work cost) = Works cost ∷ []
marks_of_one (Task task) = Begins task.undeferred task.items ∷ (task.body ++ Ends ∷ [])
marks_of_one Wait = Waits ∷ []
marks_of_one (Group body) = GroupBegins ∷ (body ++ GroupEnds ∷ [])

abbrev pub marks_of : List Stmt → List Mark
marks_of statements = flat_map marks_of_one statements
