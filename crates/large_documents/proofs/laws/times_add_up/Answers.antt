use Rattle.large_documents.proofs.PlaceTimes.{times_add_up}
use Rattle.large_documents.proofs.laws.times_add_up.Goals as goal

pub returns : goal.returns
returns c = times_add_up
