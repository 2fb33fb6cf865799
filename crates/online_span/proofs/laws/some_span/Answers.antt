use Rattle.online_span.proofs.Program.{span_exists}
use Rattle.online_span.proofs.laws.some_span.Goals as goal

pub returns : goal.returns
returns c = span_exists
