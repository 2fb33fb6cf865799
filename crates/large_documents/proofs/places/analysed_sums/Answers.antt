use Rattle.std.proofs.Common.{◌<◌, ℕ, arith, subst, sym}
use Rattle.dispatch_core.specs.RecordedGraph.{Precedes}
use Rattle.large_documents.proofs.PlaceRows.{path_work}
use Rattle.large_documents.proofs.places.analysed_sums.Goals as goal

pub sums_by_place-requires-clause-path : goal.sums_by_place-requires-clause-path
sums_by_place-requires-clause-path c =
    let graph = c.args.graph.now in
    let is = c.is_graph.ensures in
    let of = c.in_ok-found.ensures.findings in
    let among = path_work graph.costs (Precedes graph) is.smaller c.in_ok-found.found.chain of.linked
    of.segments in
    rw c.costs.ensures (record {
      inside = λ s stands. subst (λ (n : ℕ). s < n) (sym c.requires) (of.segments s stands);
      little = omega (arith, among, is.small);
    })
