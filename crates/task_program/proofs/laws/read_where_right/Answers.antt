use Rattle.task_program.proofs.RightTexts.{read_where_right}
use Rattle.task_program.proofs.laws.read_where_right.Goals as goal

pub returns : goal.returns
returns c = read_where_right
