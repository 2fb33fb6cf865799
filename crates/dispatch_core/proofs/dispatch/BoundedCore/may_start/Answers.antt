use Rattle.std.proofs.Common.{ap, arith, length}
use Rattle.std.proofs.lemmas.Bool.{both_ways}
use Rattle.dispatch_core.specs.Run.{Run}
use Rattle.dispatch_core.proofs.dispatch.BoundedCore.may_start.Goals as goal

pub returns-in-Some : goal.returns-in-Some
returns-in-Some g c =
    let same = ap (λ (run : Run). length run.table.segments) c.self.view_is in (
      record { worker_known = omega arith; segment_known = omega (arith, same, c.len.ensures) },
      λ other h. both_ways c.is_busy.result c.if-is_busy.false (c.is_busy.ensures.1 (other, h)),
      λ h. both_ways c.has_started.result c.if-has_started.false (c.has_started.ensures.1 h),
      c.in-Some.ensures,
    )

pub returns-in-None : goal.returns-in-None
returns-in-None g c =
    let same = ap (λ (run : Run). length run.table.segments) c.self.view_is in
    record {
      known = omega arith;
      idle = λ other h.
          both_ways c.is_busy.result c.if-is_busy.false (c.is_busy.ensures.1 (other, h));
      ready = record {
        known = omega (arith, same, c.len.ensures);
        not_started = λ h.
            both_ways c.has_started.result c.if-has_started.false (c.has_started.ensures.1 h);
        after = c.in-None.ensures;
      };
    }

pub returns-then-has_started : goal.returns-then-has_started
returns-then-has_started g c =
    let same = ap (λ (run : Run). length run.table.segments) c.self.view_is in (
      record { worker_known = omega arith; segment_known = omega (arith, same, c.len.ensures) },
      λ other h. both_ways c.is_busy.result c.if-is_busy.false (c.is_busy.ensures.1 (other, h)),
      c.has_started.ensures.0 c.if-has_started.true,
    )

pub returns-then-is_busy : goal.returns-then-is_busy
returns-then-is_busy g c =
    let same = ap (λ (run : Run). length run.table.segments) c.self.view_is in (
      record { worker_known = omega arith; segment_known = omega (arith, same, c.len.ensures) },
      c.is_busy.ensures.0 c.if-is_busy.true,
    )
