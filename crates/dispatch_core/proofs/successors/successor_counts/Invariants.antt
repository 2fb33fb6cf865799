use Rattle.dispatch_core.specs.Successors.{AreCounted}
use Rattle.dispatch_core.proofs.successors.successor_counts.Given as goal

abbrev pub invariant-loop-segment : goal.invariant-loop-segment
invariant-loop-segment l = AreCounted l.graph l.segment l.counts.items
