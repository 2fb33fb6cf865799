use Rattle.dispatch_core.specs.RecordedGraph.{Precedes}
use Rattle.time_accounts.specs.TimedRun.{AreInOrder}
use Rattle.time_accounts.proofs.checks.check_order.Given as goal

abbrev pub invariant-loop-segment : goal.invariant-loop-segment
invariant-loop-segment l = AreInOrder l.segment (Precedes l.graph) l.times
