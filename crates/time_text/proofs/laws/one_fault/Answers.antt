use Rattle.time_text.proofs.OneReading.{one_fault}
use Rattle.time_text.proofs.laws.one_fault.Goals as goal

pub returns : goal.returns
returns c = one_fault
