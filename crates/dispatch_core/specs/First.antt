-- Carried out: what a core keeps at the start of a run.
use Rattle.std.specs.Prelude.{◌*◌, ◌≤◌, ◌≡◌, false, None, [], length, replicate, vec_capacity}
use Rattle.task_segments.specs.Table.{Table}
use Rattle.dispatch_core.specs.declared.event.TheConstants.{MOST_WORKERS}
use Rattle.dispatch_core.specs.declared.run_state.RunState.{RunState}
use Rattle.dispatch_core.specs.Sound.{IsWaiting}

pub record AreFirst (table : Table) (state : RunState) : Type 0 where
  pub history : state.history.items ≡ []
  pub reserved : 2 * length table.segments ≤ vec_capacity state.history
  pub started : state.started.items ≡ replicate (length table.segments) false
  pub running : state.running.items ≡ replicate MOST_WORKERS None
  pub values : state.values.items ≡ replicate (length table.segments) None
  pub waits : IsWaiting table (replicate (length table.segments) None) state.graph state.successors
      state.counts.items
