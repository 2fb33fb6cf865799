use Rattle.task_segments.proofs.Totals.{has_all}
use Rattle.task_segments.proofs.laws.loses_nothing.Goals as goal

pub returns : goal.returns
returns c = has_all c.args.program.now c.body-statements.ensures.program
