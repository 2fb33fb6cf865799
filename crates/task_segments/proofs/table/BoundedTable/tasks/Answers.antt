use Rattle.std.proofs.Common.{arith}
use Rattle.std.proofs.lemmas.List.{length-map}
use Rattle.task_segments.proofs.LastMoment.{few_tasks}
use Rattle.task_segments.proofs.table.BoundedTable.tasks.Goals as goal

pub overflow_cast-result : goal.overflow_cast-result
overflow_cast-result g c =
    omega (arith, simp (length-map) at (few_tasks _ c.self.invariant.of_marks))
