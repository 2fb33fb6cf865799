use Rattle.time_text.proofs.OneReading.{one_run}
use Rattle.time_text.proofs.laws.one_run.Goals as goal

pub returns : goal.returns
returns c = one_run
