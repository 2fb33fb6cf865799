use Rattle.std.proofs.Common.{length}
use Rattle.spanprof_c.proofs.Taking.{TakesFront}
use Rattle.spanprof_c.proofs.large.take_text.Given as goal

abbrev pub invariant-pieces : goal.invariant-pieces
invariant-pieces l = TakesFront l.text l.left l.meter

abbrev pub decreases-pieces : goal.decreases-pieces
decreases-pieces l = length l.left
