use Rattle.span_cert.specs.Claims.{moments_of_starts}
use Rattle.span_cert.proofs.Late.{NoneUpTo}
use Rattle.span_cert.proofs.late_segments.is_late.Given as goal

-- it starts before none of the predecessors so far ends
abbrev pub invariant-loop-s : goal.invariant-loop-s
invariant-loop-s l = NoneUpTo l.graph (moments_of_starts l.starts) l.t l.s-index
