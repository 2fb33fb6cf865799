use Rattle.dispatch_core.proofs.NeverStuck.{some_ready}
use Rattle.dispatch_core.proofs.laws.never_stuck.Goals as goal

pub returns : goal.returns
returns g c history = some_ready c.args.table.now history c.serves_runs.ensures
