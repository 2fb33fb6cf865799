use Rattle.std.proofs.Common.{length, ◌≡◌, ◌-◌, ◌^◌}
use Rattle.greedy_sim.specs.Simulation.{IsUnderWay}
use Rattle.greedy_sim.proofs.simulation.Simulation.run.Given as goal

abbrev pub invariant-loop-next : goal.invariant-loop-next
invariant-loop-next l = record {
  under_way : IsUnderWay l.graph l.moment l.self;
  busy : length l.self.busy ≡ l.threads;
}

abbrev pub decreases-loop-next : goal.decreases-loop-next
decreases-loop-next l = 2 ^ 64 - l.moment
