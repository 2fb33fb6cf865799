use Rattle.std.proofs.Common.{◌≡◌, ℕ, ◌<◌, Some, None, slice_index_or}
use Rattle.greedy_sim.proofs.greedy.GreedyRun.threads_used.Given as goal

-- of the segments so far
abbrev pub invariant-loop-thread : goal.invariant-loop-thread
invariant-loop-thread l =
    (s k : ℕ) → s < l.thread-index → slice_index_or l.self.threads s None ≡ Some k → k < l.used
