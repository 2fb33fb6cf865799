use Rattle.std.proofs.Common.{ℕ, Contains, length}
use Rattle.greedy_sim.specs.Simulation.{IsUnstarted}
use Rattle.greedy_sim.proofs.simulation.take_unstarted.Given as goal

-- what has been dropped is out of date
abbrev pub invariant-loop-last : goal.invariant-loop-last
invariant-loop-last l = record {
  fewer : (x : ℕ) → Contains l.list.items x → Contains l.fn.list.items x;
  kept : (x : ℕ) → Contains l.fn.list.items x → IsUnstarted l.starts x → Contains l.list.items x;
}

abbrev pub decreases-loop-last : goal.decreases-loop-last
decreases-loop-last l = length l.list.items
