use Rattle.std.proofs.Common.{ℕ, ◌<◌, ◌≤◌, get_or}
use Rattle.task_segments.specs.Schedule.{at}
use Rattle.time_accounts.proofs.checks.first_to_end_after.Given as goal

abbrev pub invariant-loop-segment : goal.invariant-loop-segment
invariant-loop-segment l = (k : ℕ) → k < l.segment-index
    → at l.ends (get_or l.segments k 0) ≤ l.moment
