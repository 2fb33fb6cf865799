use Rattle.std.proofs.Common.{◌≡◌, ◌<◌, ◌+◌, ◌∙◌, arith, sym}
use Rattle.task_segments.specs.Schedule.{at}
use Rattle.task_segments.specs.Table.{costs_of}
use Rattle.span_cert.specs.Claims.{moments_of_starts}
use Rattle.span_cert.specs.declared.claim.Start.{Start}
use Rattle.span_cert.proofs.Counting.{cost-at, moment-at}
use Rattle.span_cert.proofs.broken_pairs.is_broken.Goals as goal

pub returns-then-is_too_soon : goal.returns-then-is_too_soon
returns-then-is_too_soon g c =
    let starts = c.args.starts.now in
    let none : Start = record { segment = 0; moment = 0 } in
    let to = moment-at starts c.args.t none (omega (arith, c.requires.each, c.requires.to)) in
    let from = moment-at starts c.args.s none (omega (arith, c.requires.each, c.requires.from)) in
    let cost : at (costs_of c.args.table.now) c.args.s ≡ c.cost.result =
    cost-at c.args.table.now c.args.s c.requires.from ∙ sym c.cost.ensures in
    let less : at (moments_of_starts starts) c.args.t
    < at (moments_of_starts starts) c.args.s + at (costs_of c.args.table.now) c.args.s =
    omega (arith, c.is_too_soon.ensures.0 c.if-is_too_soon.true) in (
      λ yes. record {
        is_segment = c.requires.to;
        precedes = c.must_precede.ensures.0 yes;
        too_soon = less;
      },
      λ b. c.must_precede.ensures.1 b.precedes,
    )
