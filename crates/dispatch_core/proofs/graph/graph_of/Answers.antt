use Rattle.std.proofs.Common.{sym, subst}
use Rattle.dispatch_core.specs.Graph.{IsGraphOf}
use Rattle.dispatch_core.specs.RecordedGraph.{RecordedGraph}
use Rattle.dispatch_core.proofs.StartAndEnd.{graph_of_lists, graph_of_program}
use Rattle.dispatch_core.proofs.graph.graph_of.Goals as goal

pub make_graph-requires : goal.make_graph-requires
make_graph-requires g c =
    graph_of_program c.args.table.now _ c.serves_runs.ensures (graph_of_lists c.args.table.now
    c.in_ok-costs.costs.items c.in_ok-predecessors.predecessors c.in_ok-costs.ensures
    c.in_ok-predecessors.ensures)

pub returns : goal.returns
returns g c =
    subst (λ (graph : RecordedGraph). IsGraphOf c.args.table.now graph) (sym c.make_graph.ensures)
    (graph_of_lists c.args.table.now c.in_ok-costs.costs.items
    c.in_ok-predecessors.predecessors c.in_ok-costs.ensures c.in_ok-predecessors.ensures)
