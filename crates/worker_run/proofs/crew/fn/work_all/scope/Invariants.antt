use Rattle.std.proofs.Common.{◌≡◌, length}
use Rattle.worker_run.specs.WorkerEnds.{AreNumbered}
use Rattle.worker_run.proofs.crew.fn.work_all.scope.Given as goal

abbrev pub invariant-loop-station : goal.invariant-loop-station
invariant-loop-station g l = record {
  count : length l.handles.items ≡ l.station-index;
  numbers : AreNumbered (λ h. h.promise.worker) l.handles.items;
}
