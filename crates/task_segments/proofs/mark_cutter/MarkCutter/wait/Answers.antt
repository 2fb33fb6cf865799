use Rattle.task_segments.proofs.MarkCutting.{running_has_row}
use Rattle.task_segments.proofs.mark_cutter.MarkCutter.wait.Goals as goal

pub wait-requires-clause-task : goal.wait-requires-clause-task
wait-requires-clause-task c =
    running_has_row c.args.self.now c.requires.moment c.requires.tables
