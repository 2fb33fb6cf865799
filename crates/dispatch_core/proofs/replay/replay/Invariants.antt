use Rattle.std.proofs.Common.{◌≡◌, take}
use Rattle.dispatch_core.proofs.replay.replay.Given as goal

abbrev pub invariant-loop-index : goal.invariant-loop-index
invariant-loop-index g l = (l.core.history ≡ take l.index l.events) × (l.core.table ≡ l.fn.table)
