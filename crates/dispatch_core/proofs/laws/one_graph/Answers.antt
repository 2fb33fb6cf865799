use Rattle.dispatch_core.proofs.StartAndEnd.{one_graph}
use Rattle.dispatch_core.proofs.laws.one_graph.Goals as goal

pub returns : goal.returns
returns c = one_graph
