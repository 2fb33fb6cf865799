use Rattle.std.proofs.Common.{ℕ, ◌<◌, Contains}
use Rattle.greedy_sim.proofs.simulation.free_all.Given as goal

-- so many threads are free
abbrev pub invariant-loop-thread : goal.invariant-loop-thread
invariant-loop-thread l = record {
  free : (k : ℕ) → k < l.thread → Contains l.free k;
  only : (k : ℕ) → Contains l.free k → k < l.threads;
}
