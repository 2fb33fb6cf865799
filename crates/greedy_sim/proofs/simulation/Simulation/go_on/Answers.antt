use Rattle.std.proofs.Common.{ℕ, ◌≤◌, List, Contains, ap, subst}
use Rattle.greedy_sim.specs.Simulation.{State}
use Rattle.greedy_sim.proofs.Steps.{goes_on}
use Rattle.greedy_sim.proofs.simulation.Simulation.go_on.Goals as goal

pub returns-clause-next : goal.returns-clause-next
returns-clause-next c =
    let end : ℕ = c.in-Some.end in
    let H : List (ℕ × ℕ) → Type 0 = λ ends. Contains ends (end, c.in-Some.field-0-1)
    × ((x : ℕ × ℕ) → Contains ends x → end ≤ x.0) in
    let first = subst H (ap (λ (s : State). s.ends) c.self.view_is) c.in-Some.ensures.first in
    goes_on end c.in-Some.field-0-1 c.requires.graph c.in_ok-start_all.ensures.over first.0
    (λ e t h. first.1 (e, t) h)
