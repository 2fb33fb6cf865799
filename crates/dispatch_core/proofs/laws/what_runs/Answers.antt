use Rattle.dispatch_core.proofs.Carried.{runs_so}
use Rattle.dispatch_core.proofs.laws.what_runs.Goals as goal

pub returns : goal.returns
returns g c history worker s legal runs =
    runs_so c.args.table.now history worker s c.serves_runs.ensures legal runs
