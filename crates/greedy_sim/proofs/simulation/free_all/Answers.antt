use Rattle.std.proofs.Common.{Contains, refl, arith, inl, inr, below_more}
use Rattle.greedy_sim.proofs.Members.{nothing_in}
use Rattle.greedy_sim.proofs.simulation.free_all.Goals as goal

pub loop-thread-init : goal.loop-thread-init
loop-thread-init c = record {
  free = λ k l. absurd (omega arith);
  only = λ k h. nothing_in c.clear.new.self k c.clear.ensures h;
}

pub loop-thread-preserved : goal.loop-thread-preserved
loop-thread-preserved c = record {
  free = below_more (λ k. Contains c.push.new.self k) c.loop-thread.thread
      (λ k l. c.in_ok-push.ensures.more k (inr (c.loop-thread.invariant.free k l)))
      (c.in_ok-push.ensures.more c.loop-thread.thread (inl refl));
  only = λ k h. elim (c.in_ok-push.ensures.only k h) [
    | inl e ↦ omega (arith, e, c.loop-thread-test.true)
    | inr old ↦ c.loop-thread.invariant.only k old
  ];
}

pub returns-clause-each : goal.returns-clause-each
returns-clause-each c k l = c.loop-thread.invariant.free k (omega (
  arith,
  l,
  c.loop-thread-test.false,
))

pub returns-clause-only : goal.returns-clause-only
returns-clause-only c k h = omega (
  arith,
  c.loop-thread.invariant.only k h,
  c.loop-thread.auto.thread-end,
)
