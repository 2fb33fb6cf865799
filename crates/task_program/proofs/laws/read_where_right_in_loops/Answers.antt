use Rattle.task_program.proofs.RightTexts.{read_where_right_in_loops}
use Rattle.task_program.proofs.laws.read_where_right_in_loops.Goals as goal

pub returns : goal.returns
returns c = read_where_right_in_loops
