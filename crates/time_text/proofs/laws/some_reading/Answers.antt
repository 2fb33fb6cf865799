use Rattle.time_text.proofs.OneReading.{some_reading}
use Rattle.time_text.proofs.laws.some_reading.Goals as goal

pub returns : goal.returns
returns c = some_reading
