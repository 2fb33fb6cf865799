use Rattle.task_program.proofs.Readings.{one_reading}
use Rattle.task_program.proofs.laws.one_reading.Goals as goal

pub returns : goal.returns
returns c = one_reading
