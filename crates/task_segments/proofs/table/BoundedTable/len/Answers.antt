use Rattle.std.proofs.Common.{arith}
use Rattle.task_segments.proofs.LastMoment.{few_segments, few_tasks}
use Rattle.task_segments.proofs.table.BoundedTable.len.Goals as goal

pub overflow_cast-result : goal.overflow_cast-result
overflow_cast-result g c =
    grind
    (arith, few_segments _ c.self.invariant.of_marks, few_tasks _ c.self.invariant.of_marks)
