use Rattle.std.proofs.Common.{arith}
use Rattle.dispatch_core.specs.declared.event.Event.TheVariants.{Start}
use Rattle.worker_run.specs.Workers.{AreBelow}
use Rattle.worker_run.proofs.AtRest.{at_rest_once_finished}
use Rattle.worker_run.proofs.Runs.{below_push}
use Rattle.worker_run.proofs.alone.run_segment.Goals as goal

pub returns-in-Some-clause-rest : goal.returns-in-Some-clause-rest
returns-in-Some-clause-rest g c =
    let started : AreBelow 1 c.start.new.core.history =
    rw c.in-Some.ensures.started.2 (below_push 1 c.args.core.now.history (Start 0 c.args.segment)
    c.requires.below (omega arith)) in
    at_rest_once_finished c.finish_job.result c.start.new.core c.finish_job.new.core c.in-Some.started.job.segment started
    c.finish_job.ensures.ok c.finish_job.ensures.rest
