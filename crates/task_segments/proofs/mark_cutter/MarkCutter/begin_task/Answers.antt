use Rattle.task_segments.proofs.MarkCutting.{running_has_row}
use Rattle.task_segments.proofs.mark_cutter.MarkCutter.begin_task.Goals as goal

pub begin_task-requires-clause-task : goal.begin_task-requires-clause-task
begin_task-requires-clause-task c =
    running_has_row c.args.self.now c.requires.moment c.requires.tables
