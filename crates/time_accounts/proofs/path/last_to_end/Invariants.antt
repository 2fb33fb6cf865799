use Rattle.std.proofs.Common.{ℕ, ◌≡◌, ◌<◌, ◌≤◌, length}
use Rattle.task_segments.specs.Schedule.{at}
use Rattle.time_accounts.proofs.path.last_to_end.Given as goal

abbrev pub invariant-loop-segment : goal.invariant-loop-segment
invariant-loop-segment l = record {
  inside : l.last < length l.ends;
  before : l.last ≤ l.segment;
  latest : (s : ℕ) → s < l.segment → at l.ends s ≤ at l.ends l.last;
  smallest : (s : ℕ) → s < l.segment → at l.ends s ≡ at l.ends l.last → l.last ≤ s;
}
