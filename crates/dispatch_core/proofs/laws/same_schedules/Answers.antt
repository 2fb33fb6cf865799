use Rattle.task_segments.specs.Precedence.{MustPrecede}
use Rattle.task_segments.proofs.SameSchedules.{same_least_end, same_least_start, same_legal}
use Rattle.task_segments.proofs.SameSchedules.{same_slack, same_span}
use Rattle.dispatch_core.specs.RecordedGraph.{Precedes}
use Rattle.dispatch_core.proofs.Carried.{graph_edges, graph_within, graph_ways}
use Rattle.dispatch_core.proofs.laws.same_schedules.Goals as goal

pub returns-clause-edges : goal.returns-clause-edges
returns-clause-edges g c graph s t of =
    graph_edges c.args.table.now graph s t c.serves_runs.ensures of

pub returns-clause-legal : goal.returns-clause-legal
returns-clause-legal g c graph starts of =
    let table = c.args.table.now in
    let sound = c.serves_runs.ensures in
    same_legal (MustPrecede table) (Precedes graph) sound.goes_up.ascending
    (graph_within table graph sound of) (graph_ways table graph sound of) graph.costs starts

pub returns-clause-span : goal.returns-clause-span
returns-clause-span g c graph span of =
    let table = c.args.table.now in
    let sound = c.serves_runs.ensures in
    same_span (MustPrecede table) (Precedes graph) sound.goes_up.ascending
    (graph_within table graph sound of) (graph_ways table graph sound of) graph.costs span

pub returns-clause-least_end : goal.returns-clause-least_end
returns-clause-least_end g c graph end of =
    let table = c.args.table.now in
    let sound = c.serves_runs.ensures in
    same_least_end (MustPrecede table) (Precedes graph) sound.goes_up.ascending
    (graph_within table graph sound of) (graph_ways table graph sound of) graph.costs end

pub returns-clause-least_start : goal.returns-clause-least_start
returns-clause-least_start g c graph s start of =
    let table = c.args.table.now in
    let sound = c.serves_runs.ensures in
    same_least_start (MustPrecede table) (Precedes graph) sound.goes_up.ascending
    (graph_within table graph sound of) (graph_ways table graph sound of) graph.costs s start

pub returns-clause-slack : goal.returns-clause-slack
returns-clause-slack g c graph s slack of =
    let table = c.args.table.now in
    let sound = c.serves_runs.ensures in
    same_slack (MustPrecede table) (Precedes graph) sound.goes_up.ascending
    (graph_within table graph sound of) (graph_ways table graph sound of) graph.costs s slack
