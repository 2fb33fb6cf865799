use Rattle.relaxations.proofs.Pairs.{PairsUpTo}
use Rattle.relaxations.proofs.judging.no_pair.Given as goal

-- t has to wait for each of them so far
abbrev pub invariant-loop-s : goal.invariant-loop-s
invariant-loop-s g l = PairsUpTo l.table l.segments l.t l.s-index
