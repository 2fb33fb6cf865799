use Rattle.std.proofs.Common.{◌≡◌, ◌-◌, length, All, drop}
use Rattle.std.specs.Vec.Iter.{into_iter_items, into_iter_len}
use Rattle.worker_run.specs.declared.worker.Ending.TheVariants.{NoMemory}
use Rattle.worker_run.specs.WorkerEnds.{AreNumbered}
use Rattle.worker_run.proofs.crew.ends_of.Given as goal

abbrev pub invariant-loop-worker : goal.invariant-loop-worker
invariant-loop-worker g l = record {
  count : length l.ends.items ≡ l.worker;
  rest : into_iter_items l.handles ≡ drop l.worker l.fn.handles.items;
  left : into_iter_len l.handles ≡ length l.fn.handles.items - l.worker;
  numbers : AreNumbered (λ end. end.worker) l.ends.items;
  refused : All (λ end. end.how ≡ NoMemory) (drop (length l.fn.handles.items) l.ends.items);
}
