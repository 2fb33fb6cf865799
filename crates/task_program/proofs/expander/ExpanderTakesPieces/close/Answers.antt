use Rattle.task_program.specs.Expansion.Piece.{BlockEnds}
use Rattle.task_program.proofs.FewNames.{given_one}
use Rattle.task_program.proofs.expander.ExpanderTakesPieces.close.Goals as goal

pub returns : goal.returns
returns c =
    given_one BlockEnds c.args.self.now c.end_block.new.self c.end_block.result c.end_block.ensures
