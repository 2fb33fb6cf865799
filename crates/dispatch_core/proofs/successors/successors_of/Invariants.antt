use Rattle.dispatch_core.proofs.Following.{IsFilledTo}
use Rattle.dispatch_core.proofs.successors.successors_of.Given as goal

abbrev pub invariant-loop-segment : goal.invariant-loop-segment
invariant-loop-segment l = IsFilledTo l.graph l.segment l.counts.items l.lists
