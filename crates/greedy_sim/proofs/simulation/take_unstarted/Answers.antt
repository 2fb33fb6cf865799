use Rattle.std.proofs.Common.{inl, inr, ap, ◌∙◌, Some}
use Rattle.task_segments.specs.Schedule.{at}
use Rattle.greedy_sim.proofs.Members.{last_in, last_or_left, left_in}
use Rattle.greedy_sim.proofs.simulation.take_unstarted.Goals as goal

pub loop-last-init : goal.loop-last-init
loop-last-init c = record { fewer = λ x h. h; kept = λ x h due. h }

pub bounds-starts-last : goal.bounds-starts-last
bounds-starts-last c = c.requires.inside c.in-Some.last
    (c.loop-last.invariant.fewer c.in-Some.last (last_in c.loop-last.list.items c.pop.new.self.items c.in-Some.last c.in-Some.ensures.items))

pub returns-then-starts-last : goal.returns-then-starts-last
returns-then-starts-last c = record {
  fewer = λ x h. c.loop-last.invariant.fewer x (left_in c.loop-last.list.items c.pop.new.self.items c.in-Some.last c.in-Some.ensures.items x h);
  kept = λ x h due.
      elim (last_or_left c.loop-last.list.items c.pop.new.self.items c.in-Some.last c.in-Some.ensures.items x (c.loop-last.invariant.kept x h due)) [
        | inl e ↦ inl (ap (λ y. Some y) e)
        | inr left ↦ inr left
      ];
  taken = (
    c.loop-last.invariant.fewer c.in-Some.last (last_in c.loop-last.list.items c.pop.new.self.items c.in-Some.last c.in-Some.ensures.items),
    c.if-starts-last.true,
  );
}

pub loop-last-preserved : goal.loop-last-preserved
loop-last-preserved c = record {
  fewer = λ x h. c.loop-last.invariant.fewer x (left_in c.loop-last.list.items c.pop.new.self.items c.in-Some.last c.in-Some.ensures.items x h);
  kept = λ x h due.
      elim (last_or_left c.loop-last.list.items c.pop.new.self.items c.in-Some.last c.in-Some.ensures.items x (c.loop-last.invariant.kept x h due)) [
        | inl e ↦ absurd (c.if-starts-last.false (ap (at c.args.starts.now) e ∙ due))
        | inr left ↦ left
      ];
}
