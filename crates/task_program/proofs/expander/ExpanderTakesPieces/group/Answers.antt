use Rattle.task_program.proofs.FewNames.{given_so}
use Rattle.task_program.proofs.expander.ExpanderTakesPieces.group.Goals as goal

pub returns : goal.returns
returns c =
    given_so _ c.args.self.now c.open_group.new.self c.open_group.result c.open_group.ensures.exact
