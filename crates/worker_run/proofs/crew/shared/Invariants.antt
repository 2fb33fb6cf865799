use Rattle.std.proofs.Common.{◌≡◌, ◌++◌, length}
use Rattle.std.specs.Vec.Iter.{into_iter_items}
use Rattle.worker_run.proofs.crew.shared.Given as goal

abbrev pub invariant-loop-item : goal.invariant-loop-item
invariant-loop-item g l = record {
  count : length l.all.items ≡ length l.yielded;
  rest : l.yielded ++ into_iter_items l.item-iterator ≡ l.fn.items.items;
}
