use Rattle.std.proofs.Common.{arith}
use Rattle.std.proofs.lemmas.Bool.{both_ways}
use Rattle.span_cert.specs.Claims.{moments_of_starts}
use Rattle.span_cert.proofs.Broken.{one_more, row_found}
use Rattle.span_cert.proofs.late_segments.broken_before.Goals as goal

pub returns-then-is_broken : goal.returns-then-is_broken
returns-then-is_broken g c =
    row_found c.args.table.now (moments_of_starts c.args.starts.now) c.loop-s.s c.args.t
    (c.is_broken.ensures.0 c.if-is_broken.true) c.loop-s.invariant

pub loop-s-preserved : goal.loop-s-preserved
loop-s-preserved g c =
    one_more c.args.table.now (moments_of_starts c.args.starts.now) c.loop-s.s c.args.t
    c.loop-s.invariant
    (λ b. both_ways c.is_broken.result c.if-is_broken.false (c.is_broken.ensures.1 b))

pub returns : goal.returns
returns g c = λ r b.
    let up = c.goes_up.ensures r c.args.t b.precedes in
    c.loop-s.invariant r (omega (arith, up)) b
