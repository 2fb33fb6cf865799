use Rattle.std.proofs.Common.{ℕ, ◌≡◌, ◌<◌, ◌≤◌, ◌∙◌, refl, subst, arith, length, List, [], Contains}
use Rattle.std.proofs.Common.{MatchOption, Option, None, Some}
use Rattle.task_segments.specs.Schedule.{end_of}
use Rattle.dispatch_core.specs.RecordedGraph.{IsGraph, Precedes, RecordedGraph}
use Rattle.greedy_sim.specs.Greedy.{IsGreedyRun}
use Rattle.greedy_sim.specs.Simulation.{State, IsUnderWay, IsOver}
use Rattle.greedy_sim.proofs.Members.{nothing_in}
use Rattle.greedy_sim.proofs.Steps.{moment_is_early, is_greedy}
use Rattle.greedy_sim.proofs.simulation.Simulation.run.Goals.{In-Some}
use Rattle.greedy_sim.proofs.simulation.Simulation.run.Goals as goal

pub loop-next-init : goal.loop-next-init
loop-next-init c = record {
  under_way = c.in_ok-set_out.ensures.under_way;
  busy = c.in_ok-set_out.ensures.busy;
}

-- the next moment comes later, and the run is under way at it
goes_on : (c : In-Some) → (c.loop-next.moment < c.in-Some.next)
    × IsUnderWay c.args.graph.now c.in-Some.next c.go_on.new.self
goes_on c =
    let N : Option ℕ → Type 0 = λ next. MatchOption next (c.go_on.new.self.ends ≡ [])
    (λ end. (c.loop-next.moment < end) × IsUnderWay c.args.graph.now end c.go_on.new.self) in
    subst N c.in-Some.is c.in_ok-next.ensures.next

pub loop-next-smaller : goal.loop-next-smaller
loop-next-smaller c =
    let is_graph = c.in_ok-set_out.ensures.is_graph in
    omega (arith, (goes_on c).0, moment_is_early is_graph c.in_ok-next.ensures.over.taking.run)

pub loop-next-preserved : goal.loop-next-preserved
loop-next-preserved c = record {
  under_way = (goes_on c).1;
  busy = c.in_ok-next.ensures.busy ∙ c.loop-next.invariant.busy;
}

-- no end is left when no moment is to come
none_left : (ends : List (ℕ × ℕ)) (D : ℕ → Type 0) (next : Option ℕ)
    → ((end : ℕ) → next ≡ Some end → ⊥)
    → MatchOption next (ends ≡ []) D
    → (e r : ℕ) → Contains ends (e, r) → ⊥
none_left ends D None over none e r held = nothing_in ends (e, r) none held
none_left ends D (Some end) over later e r held = over end refl

-- the run at its last moment is greedy, and ends at it
greedy : (graph : RecordedGraph) (p m : ℕ) (s : State) (next : Option ℕ)
    → IsGraph graph
    → 1 ≤ p
    → length s.busy ≡ p
    → IsOver graph m s
    → ((end : ℕ) → next ≡ Some end → ⊥)
    → MatchOption next (s.ends ≡ []) (λ end. (m < end) × IsUnderWay graph end s)
    → IsGreedyRun graph.costs (Precedes graph) p s.starts s.threads
    × (m ≡ end_of graph.costs s.starts)
greedy graph p m s next is_graph some busy over last ends =
    let done = is_greedy is_graph (omega (arith, some, busy)) over
    (none_left s.ends _ next last ends) in
    let N : ℕ → Type 0 = λ n. IsGreedyRun graph.costs (Precedes graph) n s.starts s.threads in
    (subst N busy done.0, done.1)

pub returns-clause-run : goal.returns-clause-run
returns-clause-run c =
    (greedy c.args.graph.now c.args.threads c.loop-next.moment c.go_on.new.self c.in_ok-next.field-0
    c.in_ok-set_out.ensures.is_graph c.requires.some
    (c.in_ok-next.ensures.busy ∙ c.loop-next.invariant.busy)
    c.in_ok-next.ensures.over c.in_default.not-Some c.in_ok-next.ensures.next).0

pub returns-clause-end : goal.returns-clause-end
returns-clause-end c =
    (greedy c.args.graph.now c.args.threads c.loop-next.moment c.go_on.new.self c.in_ok-next.field-0
    c.in_ok-set_out.ensures.is_graph c.requires.some
    (c.in_ok-next.ensures.busy ∙ c.loop-next.invariant.busy)
    c.in_ok-next.ensures.over c.in_default.not-Some c.in_ok-next.ensures.next).1
