-- The report of a program's recorded graph.
use Rattle.std.specs.Prelude.{◌≡◌, ℕ, ◌++◌, List, [], ◌∷◌, Some, codes, flat_map, length}
use Rattle.std.specs.List.{range_with_len}
use Rattle.csv_table.specs.Row.{line_of, list_line}
use Rattle.dispatch_core.specs.Graph.{IsGraphOf}
use Rattle.dispatch_core.specs.RecordedGraph.{RecordedGraph, predecessors_of}
use Rattle.task_segments.specs.Table.{Table, segment}
use Rattle.spanprof_command.specs.Report.{Report}
use Rattle.spanprof_command.specs.declared.report.Status.TheVariants.{Done}

abbrev pub graph_header : List (List ℕ)
graph_header = codes "segment" ∷ codes "task" ∷ codes "cost" ∷ codes "predecessors" ∷ []

-- a segment, its task, its cost and its predecessors
abbrev pub graph_row : Table → RecordedGraph → ℕ → List ℕ
graph_row table graph s =
    list_line (Some s ∷ Some (segment table s).task ∷ Some (segment table s).cost ∷ [])
    (predecessors_of graph s)

-- a header, and a row for each segment
abbrev pub graph_text : Table → RecordedGraph → List ℕ
graph_text table graph =
    line_of (λ name. name) graph_header
    ++ flat_map (graph_row table graph) (range_with_len 0 (length table.segments))

abbrev pub graph_report : Table → RecordedGraph → Report
graph_report table graph = record { text = graph_text table graph; status = Done }

-- the graph of a program with this table: of each segment the kept predecessors
pub record TellsGraph (table : Table) (output : Report) : Type 0 where
  pub graph : RecordedGraph
  pub is_graph_of : IsGraphOf table graph
  pub says : output ≡ graph_report table graph
