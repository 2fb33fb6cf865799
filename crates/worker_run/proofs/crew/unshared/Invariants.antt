use Rattle.std.proofs.Common.{◌≡◌, ◌++◌, length}
use Rattle.std.specs.Vec.Iter.{into_iter_items}
use Rattle.worker_run.proofs.crew.unshared.Given as goal

abbrev pub invariant-loop-lock : goal.invariant-loop-lock
invariant-loop-lock g l = record {
  count : length l.all.items ≡ length l.yielded;
  rest : l.yielded ++ into_iter_items l.lock-iterator ≡ l.fn.locks.items;
}
