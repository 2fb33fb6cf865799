use Rattle.large_text.proofs.LoopReading.{one_reading}
use Rattle.large_text.proofs.laws.one_reading.Goals as goal

pub returns : goal.returns
returns c = one_reading
