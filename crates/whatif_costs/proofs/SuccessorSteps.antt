-- The lists of successors, as the passes ask for them.
use Rattle.std.proofs.Common.{◌≡◌, ℕ, ◌<◌, List, [], length, get_or, ap, arith, inl, inr, Contains}
use Rattle.std.proofs.lemmas.Bool.{cases_lt}
use Rattle.std.proofs.lemmas.List.{get_or_past}
use Rattle.dispatch_core.specs.RecordedGraph.{RecordedGraph, IsGraph, Precedes}
use Rattle.dispatch_core.specs.Successors as graph_lists
use Rattle.whatif_costs.specs.Successors.{list_at, AreSuccessors}
use Rattle.whatif_costs.proofs.TailSteps.{Precedes-inside}

pub are_followers : (graph : RecordedGraph) (lists : List (List ℕ))
    → IsGraph graph
    → graph_lists.AreSuccessors graph lists
    → AreSuccessors graph lists
are_followers graph lists is are = record {
  each = are.each;
  all = λ s t precedes.
      let known = Precedes-inside graph s t is precedes in
      let less = is.smaller s t precedes in
      ((are.follow s (omega (arith, known, less))).each t).1 precedes;
  only = λ s t has. elim (cases_lt s (length graph.costs)) [
    | inl known ↦ ((are.follow s known).each t).0 has
    | inr past ↦
        let each = are.each in
        let within : has.0 < length (list_at lists s) = has.1 in
        absurd (omega (
          arith,
          within,
          ap (λ (l : List ℕ). length l) (get_or_past lists s [] (omega (arith, each, past))),
        ))
  ];
}
