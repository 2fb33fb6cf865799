use Rattle.dispatch_core.proofs.SomeGraph.{some_value_of}
use Rattle.dispatch_core.proofs.laws.some_value.Goals as goal

pub returns : goal.returns
returns c = some_value_of
