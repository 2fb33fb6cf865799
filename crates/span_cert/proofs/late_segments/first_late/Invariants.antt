use Rattle.std.proofs.Common.{ℕ, ◌<◌}
use Rattle.span_cert.specs.LateSegments.{IsLate}
use Rattle.span_cert.specs.Claims.{moments_of_starts}
use Rattle.span_cert.proofs.late_segments.first_late.Given as goal

-- none of the segments so far is late
abbrev pub invariant-loop-t : goal.invariant-loop-t
invariant-loop-t l = (u : ℕ) → u < l.t → ¬ IsLate l.graph (moments_of_starts l.starts) u
