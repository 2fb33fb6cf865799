-- The graph of a program: its segments' costs, and the kept edges.
use Rattle.std.specs.Prelude.{ℕ, ◌<◌, ◌≡◌, length}
use Rattle.task_segments.specs.Table.{Table, costs_of}
use Rattle.depend_table.specs.KeptEdges.{IsKeptEdge}
use Rattle.depend_table.specs.Lists.{Lists}
use Rattle.dispatch_core.specs.RecordedGraph.{RecordedGraph, predecessors_of}
use Rattle.dispatch_core.specs.declared.graph.Graph.TheInside.{Inside}

-- it has the costs of the program's segments, and of each segment the kept predecessors
pub record IsGraphOf (table : Table) (graph : RecordedGraph) : Type 0 where
  pub costs : graph.costs ≡ costs_of table
  pub each : length graph.predecessors ≡ length table.segments
  pub predecessors : (t : ℕ)
      → t < length table.segments
      → Lists (λ s. IsKeptEdge table s t) (predecessors_of graph t)

-- the graph that a graph's fields stand for
abbrev pub graph_of_fields : Inside → RecordedGraph
graph_of_fields
    a = record { costs = a.costs.items; predecessors = a.predecessors }
