use Rattle.span_cert.specs.Claims.{moments_of_starts}
use Rattle.span_cert.specs.BrokenPairs.{AreEndsUpTo}
use Rattle.span_cert.proofs.ends.ends_of.Given as goal

-- the ends of the segments so far
abbrev pub invariant-loop-s : goal.invariant-loop-s
invariant-loop-s g l = AreEndsUpTo l.table (moments_of_starts l.starts) l.ends.items l.s
