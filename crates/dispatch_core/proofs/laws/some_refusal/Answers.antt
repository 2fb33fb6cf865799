use Rattle.dispatch_core.proofs.FirstRefused.{legal_or_refused_of}
use Rattle.dispatch_core.proofs.laws.some_refusal.Goals as goal

pub returns : goal.returns
returns c = legal_or_refused_of
