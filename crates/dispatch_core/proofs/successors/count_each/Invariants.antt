use Rattle.std.proofs.Common.{ℕ, ◌≡◌, ◌+◌, ◌<◌, length, take, get_or}
use Rattle.dispatch_core.specs.Successors.{times}
use Rattle.dispatch_core.proofs.successors.count_each.Given as goal

abbrev pub invariant-loop-place : goal.invariant-loop-place
invariant-loop-place l = record {
  each : length l.counts ≡ length l.fn.counts;
  counted : (r : ℕ) → r < length l.fn.counts
      → get_or l.counts r 0 ≡ get_or l.fn.counts r 0 + times r (take l.place-index l.places);
}
