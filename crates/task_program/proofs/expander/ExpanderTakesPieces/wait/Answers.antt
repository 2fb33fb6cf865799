use Rattle.task_program.specs.Expansion.Piece.{WaitIs}
use Rattle.task_program.proofs.FewNames.{given_one}
use Rattle.task_program.proofs.expander.ExpanderTakesPieces.wait.Goals as goal

pub returns : goal.returns
returns c =
    given_one (WaitIs c.args.line) c.args.self.now c.add_wait.new.self c.add_wait.result
    c.add_wait.ensures.exact
