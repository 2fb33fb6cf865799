use Rattle.std.proofs.Common.{ℕ, ◌<◌, ◌≡◌, get_or}
use Rattle.spanprof_c.proofs.filling.put_slacks.Given as goal

abbrev pub invariant-loop-segment : goal.invariant-loop-segment
invariant-loop-segment l = (k : ℕ) → k < l.segment → get_or l.slacks k 0 ≡ get_or l.found.slacks k 0
