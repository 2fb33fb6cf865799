use Rattle.std.proofs.Common.{ℕ, ◌≡◌, ◌∙◌, inl, inr, sym, subst, arith}
use Rattle.std.proofs.lemmas.Bool.{cases_lt}
use Rattle.dispatch_core.specs.RecordedGraph.{Precedes}
use Rattle.greedy_sim.specs.Greedy.{IsGreedyRun}
use Rattle.greedy_sim.proofs.ThreadsUsed.{on_fewer}
use Rattle.greedy_sim.proofs.curve.end_and_width.Goals as goal

pub returns-clause-same : goal.returns-clause-same
returns-clause-same c = λ p above below.
    let run = c.in_ok-run.run' in
    let found = c.in_ok-run.ensures.run in
    let width = c.clamp-width.ensures in
    let G : ℕ → Type 0 = λ q.
    IsGreedyRun c.args.graph.now.costs (Precedes c.args.graph.now) q run.starts run.threads in
    let same : G p = elim (cases_lt c.args.upto c.threads_used.result) [
      | inl more ↦
          let all : c.args.upto ≡ p =
          omega (arith, more, above, below, width, c.from.ensures, c.requires.some) in
          subst G all found
      | inr few ↦ on_fewer found below
          (λ s k has. omega (
            arith,
            c.threads_used.ensures s k has,
            few,
            above,
            width,
            c.from.ensures,
          ))
    ] in
    (run.starts, run.threads, same, sym (c.end.ensures ∙ c.in_ok-run.ensures.end))
