use Rattle.std.proofs.Common.{subst, sym}
use Rattle.worker_run.specs.WorkerEnds.{AreNumbered}
use Rattle.worker_run.proofs.run.core_after_workers.Goals as goal

pub into_core-requires-clause-numbers : goal.into_core-requires-clause-numbers
into_core-requires-clause-numbers g c κs within =
    subst (λ worked. AreNumbered (λ e. e.worker) worked.ends.items) (sym c.in_ok-fitting.ensures.same)
    c.in_ok-worked.ensures.numbers
