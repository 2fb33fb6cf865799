-- Carried out: when the only worker of a run has nothing under way.
use Rattle.std.specs.Prelude.{List}
use Rattle.dispatch_core.specs.declared.event.Event.{Event}
use Rattle.dispatch_core.specs.Refusals.{IsIdle}
use Rattle.worker_run.specs.Workers.{AreBelow}

-- all events are of worker 0, and it has finished all that it has started
pub record IsAtRest (history : List Event) : Type 0 where
  pub below : AreBelow 1 history
  pub idle : IsIdle history 0
