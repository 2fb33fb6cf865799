use Rattle.std.proofs.Common.{List, ℕ, ◌+◌, ◌∙◌, subst, sym}
use Rattle.dispatch_core.specs.RecordedGraph.{Precedes}
use Rattle.greedy_sim.specs.Greedy.{IsCurve}
use Rattle.spanprof_c.proofs.Filled.{one_more_end}
use Rattle.spanprof_c.proofs.answers.greedy_ends.Goals as goal

pub loop-threads-preserved : goal.loop-threads-preserved
loop-threads-preserved c =
    let graph = c.args.graph.now in
    let made = one_more_end graph.costs (Precedes graph) c.loop-threads.ends.items
    c.loop-threads.threads c.end.result c.loop-threads.invariant (
      c.in-Ok.run'.starts,
      c.in-Ok.run'.threads,
      c.in-Ok.ensures.run,
      sym c.in-Ok.ensures.end ∙ sym c.end.ensures,
    ) in
    let V : List ℕ → Type 0 =
    λ ends. IsCurve graph.costs (Precedes graph) (c.loop-threads.threads + 1) ends in
    subst V (sym c.in_ok-push-in-Ok.ensures.items) made
