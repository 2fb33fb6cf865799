use Rattle.std.proofs.Common.{refl}
use Rattle.std.proofs.lemmas.Bool.{both_ways}
use Rattle.dispatch_core.proofs.dispatch.BoundedCore.is_ready.Goals as goal

pub returns-then-has_started : goal.returns-then-has_started
returns-then-has_started g c = (
  λ h. absurd (both_ways _ refl h),
  λ h. absurd (h.not_started (c.has_started.ensures.0 c.if-has_started.true)),
)

pub returns : goal.returns
returns g c = (
  λ h. record {
    known = c.requires;
    not_started = λ started.
        both_ways c.has_started.result c.if-has_started.false (c.has_started.ensures.1 started);
    after = c.is_free.ensures.0 h;
  },
  λ h. c.is_free.ensures.1 h.after,
)
