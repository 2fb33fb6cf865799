use Rattle.time_text.proofs.OneReading.{no_fault}
use Rattle.time_text.proofs.laws.no_fault.Goals as goal

pub returns : goal.returns
returns c = no_fault
