use Rattle.std.proofs.Common.{◌<◌, ◌∙◌, ap, arith, length, min, sym}
use Rattle.std.proofs.lemmas.Bool.{both_ways}
use Rattle.span_cert.specs.Claims.{moments_of_starts}
use Rattle.span_cert.proofs.Broken.{one_more, row_found}
use Rattle.span_cert.proofs.Counting.{moment-at}
use Rattle.span_cert.proofs.EndTimes.{has_ended}
use Rattle.span_cert.proofs.broken_pairs.broken_in_row.Goals as goal

pub returns-then-is_broken : goal.returns-then-is_broken
returns-then-is_broken g c =
    row_found c.args.table.now (moments_of_starts c.args.starts.now) c.loop-s.s c.args.t
    (c.is_broken.ensures.0 c.if-is_broken.true) c.loop-s.invariant

pub loop-s-preserved : goal.loop-s-preserved
loop-s-preserved g c =
    let starts = c.args.starts.now in
    let t_inside : c.args.t < length c.args.table.now.segments =
    omega (arith, c.if-t-len.false, c.len.ensures) in
    let moment = moment-at starts c.args.t _ (omega (arith, c.requires.each, t_inside)) in
    one_more c.args.table.now (moments_of_starts starts) c.loop-s.s c.args.t c.loop-s.invariant
    (elim c.else-start-ends.branch [
      | goal.else-start-ends-via-then-start-ends+then-may_wait+else-is_broken w ↦
          λ b. both_ways w.is_broken.result w.if-is_broken.false (w.is_broken.ensures.1 b)
      | goal.else-start-ends-via-then-start-ends+else-may_wait w ↦
          λ b. both_ways w.may_wait.result w.if-may_wait.false (w.may_wait.ensures b.precedes)
      | goal.else-start-ends-via-else-start-ends w ↦
          has_ended c.args.table.now (moments_of_starts starts) c.args.ends.now c.loop-s.s c.args.t
          c.min-start.result c.requires.ends (omega (arith, t_inside))
          (c.min-start.ensures ∙ ap (λ m. min m 18446744073709551614) (sym moment))
          w.if-start-ends.false
    ])

pub returns : goal.returns
returns g c = λ r b.
    let up = c.goes_up.ensures r c.args.t b.precedes in
    c.loop-s.invariant r (omega (arith, up)) b
