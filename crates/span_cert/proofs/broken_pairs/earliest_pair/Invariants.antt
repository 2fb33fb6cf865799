use Rattle.span_cert.specs.BrokenPairs.{IsEarliestPair}
use Rattle.span_cert.proofs.broken_pairs.earliest_pair.Given as goal

-- the earliest of the pairs so far
abbrev pub invariant-loop-place : goal.invariant-loop-place
invariant-loop-place l = IsEarliestPair l.pairs l.place l.first
