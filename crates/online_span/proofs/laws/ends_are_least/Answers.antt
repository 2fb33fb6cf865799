use Rattle.online_span.proofs.LeastEnds.{segment_ends}
use Rattle.online_span.proofs.laws.ends_are_least.Goals as goal

pub returns : goal.returns
returns c = segment_ends
