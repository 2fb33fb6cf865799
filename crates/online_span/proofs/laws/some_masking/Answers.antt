use Rattle.online_span.proofs.Hiding.{some_masking}
use Rattle.online_span.proofs.laws.some_masking.Goals as goal

pub returns : goal.returns
returns c = some_masking
