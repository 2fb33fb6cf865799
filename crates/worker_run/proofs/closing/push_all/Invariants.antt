use Rattle.std.proofs.Common.{◌≡◌, ◌++◌}
use Rattle.std.specs.Vec.Iter.{into_iter_items}
use Rattle.worker_run.proofs.closing.push_all.Given as goal

abbrev pub invariant-loop-item : goal.invariant-loop-item
invariant-loop-item g l = record {
  all : l.all.items ≡ l.initial.all.items ++ l.yielded;
  rest : l.yielded ++ into_iter_items l.item-iterator ≡ l.fn.items.items;
}
