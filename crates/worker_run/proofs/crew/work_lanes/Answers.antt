use Rattle.std.proofs.Common.{subst, sym}
use Rattle.worker_run.specs.WorkerEnds.{AreNumbered}
use Rattle.worker_run.proofs.crew.work_lanes.Goals as goal

pub returns-clause-numbers : goal.returns-clause-numbers
returns-clause-numbers g c =
    subst (λ ends. AreNumbered (λ e. e.worker) ends.items) (sym c.new-2.ensures.1) c.in_ok-ends.ensures.numbers
