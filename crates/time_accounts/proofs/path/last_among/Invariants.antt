use Rattle.std.proofs.Common.{ℕ, ◌≡◌, ◌<◌, ◌≤◌, length, Contains, get_or}
use Rattle.task_segments.specs.Schedule.{at}
use Rattle.time_accounts.proofs.path.last_among.Given as goal

abbrev pub invariant-loop-segment : goal.invariant-loop-segment
invariant-loop-segment l = record {
  member : Contains l.segments l.last;
  latest : (k : ℕ) → k < l.segment-index → at l.ends (get_or l.segments k 0) ≤ at l.ends l.last;
  smallest : (k : ℕ) → k < l.segment-index
      → at l.ends (get_or l.segments k 0) ≡ at l.ends l.last → l.last ≤ get_or l.segments k 0;
  before : (k : ℕ) → l.segment-index ≤ k → k < length l.segments
      → l.last ≤ get_or l.segments k 0;
}
