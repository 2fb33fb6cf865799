use Rattle.std.proofs.Common.{ℕ, ◌<◌}
use Rattle.span_cert.specs.Claims.{moments_of_starts}
use Rattle.span_cert.specs.Tests.{IsBroken}
use Rattle.span_cert.proofs.late_segments.broken_before.Given as goal

-- no segment before s is one that t has to wait for and does not
abbrev pub invariant-loop-s : goal.invariant-loop-s
invariant-loop-s g l = (r : ℕ) → r < l.s → ¬ IsBroken l.table (moments_of_starts l.starts) r l.t
