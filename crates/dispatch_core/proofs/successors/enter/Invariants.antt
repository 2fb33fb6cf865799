use Rattle.dispatch_core.proofs.Following.{IsEntered}
use Rattle.dispatch_core.proofs.successors.enter.Given as goal

abbrev pub invariant-loop-place : goal.invariant-loop-place
invariant-loop-place l = IsEntered l.places l.place-index l.number l.fn.lists l.lists
