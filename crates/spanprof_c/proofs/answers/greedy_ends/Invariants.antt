use Rattle.dispatch_core.specs.RecordedGraph.{Precedes}
use Rattle.greedy_sim.specs.Greedy.{IsCurve}
use Rattle.spanprof_c.proofs.answers.greedy_ends.Given as goal

abbrev pub invariant-loop-threads : goal.invariant-loop-threads
invariant-loop-threads l = IsCurve l.graph.costs (Precedes l.graph) l.threads l.ends.items
