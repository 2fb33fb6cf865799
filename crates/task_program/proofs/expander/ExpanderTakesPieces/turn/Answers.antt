use Rattle.task_program.specs.Expansion.Piece.{TurnBegins}
use Rattle.task_program.proofs.FewNames.{given_one}
use Rattle.task_program.proofs.expander.ExpanderTakesPieces.turn.Goals as goal

pub returns : goal.returns
returns c =
    given_one (TurnBegins c.args.line) c.args.self.now c.one_turn.new.self c.one_turn.result
    c.one_turn.ensures.exact
