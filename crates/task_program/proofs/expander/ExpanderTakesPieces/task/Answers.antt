use Rattle.task_program.proofs.FewNames.{given_so}
use Rattle.task_program.proofs.expander.ExpanderTakesPieces.task.Goals as goal

pub returns : goal.returns
returns c =
    given_so _ c.args.self.now c.open_task.new.self c.open_task.result c.open_task.ensures.exact
