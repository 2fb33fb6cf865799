use Rattle.task_program.specs.Expansion.Piece.{WorkIs}
use Rattle.task_program.proofs.FewNames.{given_one}
use Rattle.task_program.proofs.expander.ExpanderTakesPieces.work.Goals as goal

pub returns : goal.returns
returns c =
    given_one (WorkIs c.args.cost c.args.line) c.args.self.now c.add_work.new.self
    c.add_work.result c.add_work.ensures.exact
