use Rattle.dispatch_core.proofs.StartAndEnd.{sound_first}
use Rattle.dispatch_core.proofs.dispatch.BoundedCore.new.Goals as goal

pub invariant_of-result : goal.invariant_of-result
invariant_of-result g c =
    let first = c.in-Ok.ensures in
    sound_first g.K.Kernel.value_of c.args.table _ _ _ _ _ _ _ _ c.serves_runs.ensures
    first.reserved first.history first.started first.running first.values first.waits
