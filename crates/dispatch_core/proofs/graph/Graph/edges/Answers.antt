use Rattle.std.proofs.Common.{ℕ, ◌+◌, ◌<◌, List, [], ap, arith, length}
use Rattle.std.proofs.lemmas.List.Sums.{sum_by_more, sum_by-take-drop}
use Rattle.dispatch_core.proofs.StartAndEnd.{few_edges}
use Rattle.dispatch_core.proofs.graph.Graph.edges.Goals as goal

pub overflow_add-total : goal.overflow_add-total
overflow_add-total c =
    let graph = c.args.self.now in
    let lists : List (List ℕ) = graph.predecessors in
    let segment : ℕ = c.loop-segment.segment in
    let is = c.len-segment-end.ensures.is_graph in
    let all = is.each in
    let within : segment < length lists =
    omega (arith, c.loop-segment-test.true, c.len-segment-end.ensures.count, all) in
    record {
      fits = omega (
        arith,
        few_edges graph is,
        c.loop-segment.invariant,
        ap (λ (l : List ℕ). length l) c.preds.ensures,
        sum_by_more (λ (l : List ℕ). length l) lists segment [] within,
        sum_by-take-drop (λ (l : List ℕ). length l) lists (segment + 1),
      );
    }
