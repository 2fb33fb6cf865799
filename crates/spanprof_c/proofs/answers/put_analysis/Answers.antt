use Rattle.std.proofs.Common.{ℕ, ◌≡◌, List, ap, arith, length}
use Rattle.dispatch_core.specs.RecordedGraph.{Precedes}
use Rattle.spanprof_c.proofs.Filled.{few_in_chain}
use Rattle.spanprof_c.proofs.answers.put_analysis.Goals as goal

pub put_path-requires : goal.put_path-requires
put_path-requires c =
    let graph = c.args.graph.now in
    let few = few_in_chain graph.costs (Precedes graph) c.args.found.now.chain
    c.is_graph.ensures.smaller c.requires.found.segments c.requires.found.linked in
    let same : length c.chain.result.now ≡ length c.args.found.now.chain =
    ap (λ (xs : List ℕ). length xs) c.chain.ensures in
    omega (arith, few, same, c.requires.path)
