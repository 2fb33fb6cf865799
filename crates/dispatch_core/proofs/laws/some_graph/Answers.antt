use Rattle.dispatch_core.proofs.SomeGraph.{some_graph_of}
use Rattle.dispatch_core.proofs.laws.some_graph.Goals as goal

pub returns : goal.returns
returns c = some_graph_of
