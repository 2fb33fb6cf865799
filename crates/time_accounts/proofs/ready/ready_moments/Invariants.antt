use Rattle.std.proofs.Common.{ℕ, ◌≡◌, ◌<◌, length}
use Rattle.task_segments.specs.Schedule.{at}
use Rattle.dispatch_core.specs.RecordedGraph.{predecessors_of}
use Rattle.time_accounts.specs.Shares.{last_end}
use Rattle.time_accounts.proofs.ready.ready_moments.Given as goal

abbrev pub invariant-loop-segment : goal.invariant-loop-segment
invariant-loop-segment l = record {
  each : length l.moments.items ≡ l.segment;
  so_far : (s : ℕ) → s < l.segment
      → at l.moments.items s ≡ last_end l.times.ends (predecessors_of l.graph s);
}
