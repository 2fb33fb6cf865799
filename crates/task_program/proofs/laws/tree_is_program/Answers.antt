use Rattle.task_program.proofs.ReadWhole.{tree_is_program}
use Rattle.task_program.proofs.laws.tree_is_program.Goals as goal

pub returns : goal.returns
returns c = tree_is_program
