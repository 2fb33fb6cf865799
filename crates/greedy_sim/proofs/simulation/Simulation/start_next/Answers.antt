use Rattle.std.proofs.Common.{ℕ, arith, sym, ap, inl, inr, refl, subst, length, Contains, List}
use Rattle.greedy_sim.specs.Simulation.{IsIdle, IsTakingThreads, IsUnstarted, State}
use Rattle.greedy_sim.proofs.Steps.{taking_seen}
use Rattle.greedy_sim.proofs.simulation.Simulation.start_next.Goals.{After-first_idle}
use Rattle.greedy_sim.proofs.simulation.Simulation.start_next.Goals.{After-first_unstarted}
use Rattle.greedy_sim.proofs.simulation.Simulation.start_next.Goals as goal

pub first_unstarted-requires : goal.first_unstarted-requires
first_unstarted-requires c =
    let Q : State → Type 0 = λ s. IsTakingThreads c.args.graph.now c.args.moment s in
    let taking = subst Q (sym c.self.view_is) c.requires.taking in
    record {
      inside = λ x h. omega (
        arith,
        (taking.queues.ready x h).0,
        taking.run.each,
        ap length c.deref.ensures.value,
      );
    }

pub first_idle-requires : goal.first_idle-requires
first_idle-requires c =
    let Q : State → Type 0 = λ s. IsTakingThreads c.args.graph.now c.args.moment s in
    let taking = subst Q (sym c.self.view_is) c.requires.taking in
    record {
      inside = λ k h. omega (arith, taking.queues.free k h, ap length c.deref-2.ensures.value);
    }

-- the state without the ready members that are out of date
one_dropped : (c : After-first_unstarted) → IsTakingThreads c.args.graph.now c.args.moment (record {
  starts = c.self.inside.starts.items;
  threads = c.self.inside.threads.items;
  busy = c.self.inside.busy.items;
  left = c.self.inside.left.items;
  instant = c.self.inside.instant.items;
  ready = c.first_unstarted.new.queue;
  free = c.self.inside.free;
  ends = c.self.inside.ends;
})
one_dropped c =
    taking_seen _ c.first_unstarted.new.queue c.self.inside.free c.deref.result.now
    c.self.inside.busy.items c.self.view_is c.requires.taking c.deref.ensures.value refl
    c.first_unstarted.ensures.fewer c.first_unstarted.ensures.kept (λ k h. h) (λ k h due. h)

-- and without the threads that are busy
both_dropped : (c : After-first_idle) → IsTakingThreads c.args.graph.now c.args.moment (record {
  starts = c.self.inside.starts.items;
  threads = c.self.inside.threads.items;
  busy = c.self.inside.busy.items;
  left = c.self.inside.left.items;
  instant = c.self.inside.instant.items;
  ready = c.first_unstarted.new.queue;
  free = c.first_idle.new.free;
  ends = c.self.inside.ends;
})
both_dropped c =
    taking_seen _ c.first_unstarted.new.queue c.first_idle.new.free c.deref.result.now
    c.deref-2.result.now c.self.view_is c.requires.taking c.deref.ensures.value
    c.deref-2.ensures.value c.first_unstarted.ensures.fewer c.first_unstarted.ensures.kept
    c.first_idle.ensures.fewer c.first_idle.ensures.kept

pub returns-in_default-clause-taking : goal.returns-in_default-clause-taking
returns-in_default-clause-taking c =
    one_dropped (goal.at.returns-in_default-clause-taking c).After-first_unstarted

pub returns-in_default-clause-none : goal.returns-in_default-clause-none
returns-in_default-clause-none c over =
    let Y : List ℕ → Type 0 = λ starts. (r : ℕ) → Contains c.first_unstarted.new.queue r
    → IsUnstarted starts r → ⊥ in
    let none = subst Y c.deref.ensures.value c.in_default.ensures.first in
    record {
      taking = one_dropped (goal.at.returns-in_default-clause-none c).After-first_unstarted;
      none = inl (λ r l held was. none r held was);
    }

pub returns-in_default-first_idle-clause-taking : goal.returns-in_default-first_idle-clause-taking
returns-in_default-first_idle-clause-taking c =
    both_dropped (goal.at.returns-in_default-first_idle-clause-taking c).After-first_idle

pub returns-in_default-first_idle-clause-none : goal.returns-in_default-first_idle-clause-none
returns-in_default-first_idle-clause-none c over =
    let F : List ℕ → Type 0 = λ busy. (k : ℕ) → Contains c.first_idle.new.free k
    → IsIdle busy c.args.moment k → ⊥ in
    let none = subst F c.deref-2.ensures.value c.in_default-first_idle.ensures.first in
    record {
      taking = both_dropped (goal.at.returns-in_default-first_idle-clause-none c).After-first_idle;
      none = inr none;
    }

pub start_on-requires-clause-taking : goal.start_on-requires-clause-taking
start_on-requires-clause-taking c =
    both_dropped (goal.at.start_on-requires-clause-taking c).After-first_idle
