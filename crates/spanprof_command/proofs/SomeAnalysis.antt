-- Each program has a graph with an analysis.
use Rattle.std.proofs.Common.{ℕ, ◌<◌}
use Rattle.task_segments.proofs.SameSchedules.{same_least_end, same_least_start, same_legal}
use Rattle.task_segments.proofs.SameSchedules.{same_slack, same_span}
use Rattle.task_segments.specs.Precedence.{MustPrecede}
use Rattle.task_segments.specs.Table.{Table}
use Rattle.depend_table.proofs.Chains.{edge_reaches}
use Rattle.depend_table.specs.KeptEdges.{IsKeptEdge}
use Rattle.dispatch_core.proofs.StartAndEnd.{graph_of_program}
use Rattle.dispatch_core.specs.Graph.{IsGraphOf}
use Rattle.dispatch_core.specs.RecordedGraph.{RecordedGraph}
use Rattle.span_analysis.proofs.OfProgram.{of_program}
use Rattle.span_analysis.proofs.SomeAnalysis.{some_analysis}
use Rattle.span_analysis.specs.Findings.{Findings, IsAnalysis}
use Rattle.dispatch_core.proofs.SomeGraph.{IsWhole, some_graph}
use Rattle.spanprof_command.specs.Slacks.{AreAnalysed}

-- what is found of a graph is so of its program
pub are_analysed : (table : Table) (graph : RecordedGraph) (found : Findings)
    → IsWhole table
    → IsGraphOf table graph
    → IsAnalysis graph found
    → AreAnalysed table graph found
are_analysed table graph found whole of analysis =
    let R : ℕ → ℕ → Type 0 = MustPrecede table in
    let K : ℕ → ℕ → Type 0 = IsKeptEdge table in
    let up : (s t : ℕ) → R s t → s < t = whole.sound.goes_up.ascending in
    let within : (s t : ℕ) → K s t → R s t = whole.sound.chains.within in
    let ways = edge_reaches table whole.nested whole.grouped in
    record {
      is_graph = graph_of_program table graph whole.sound of;
      is_graph_of = of;
      is_analysis = analysis;
      are_findings =
          of_program table within (same_legal R K up within ways) (same_span R K up within ways)
          (same_least_end R K up within ways)
          (same_least_start R K up within ways) (same_slack R K up within ways) graph found of
          analysis.findings;
    }

pub record IsAnalysed (table : Table) : Type 0 where
  pub graph : RecordedGraph
  pub found : Findings
  pub are_analysed : AreAnalysed table graph found

pub some_analysed : (table : Table) → IsWhole table → IsAnalysed table
some_analysed table whole =
    let graph : (graph : RecordedGraph) × IsGraphOf table graph = some_graph table whole.sound in
    let found = some_analysis graph.0 (graph_of_program table graph.0 whole.sound graph.1) in
    record {
      graph = graph.0;
      found = found.0;
      are_analysed = are_analysed table graph.0 found.0 whole graph.1 found.1;
    }
