-- The successors of a graph's segments.
use Rattle.std.specs.Prelude.{ℕ, ◌≡◌, ◌<◌, List, [], length, slice_index_or}
use Rattle.std.specs.List.{count_by, sum_by}
use Rattle.std.specs.Prelude.{nat_eq, take}
use Rattle.depend_table.specs.Lists.{Lists}
use Rattle.dispatch_core.specs.RecordedGraph.{RecordedGraph, Precedes}

-- of each segment those that it precedes
pub record AreSuccessors (graph : RecordedGraph) (lists : List (List ℕ)) : Type 0 where
  pub each : length lists ≡ length graph.costs
  pub follow : (s : ℕ)
      → s < length graph.costs
      → Lists (λ t. Precedes graph s t) (slice_index_or lists s [])

-- Carried out: how often a number stands in a list.
abbrev pub times : ℕ → List ℕ → ℕ
times x xs = count_by (λ y. nat_eq y x) xs

-- Carried out: of how many of the first n segments each segment is a predecessor
pub record AreCounted (graph : RecordedGraph) (n : ℕ) (counts : List ℕ) : Type 0 where
  pub each : length counts ≡ length graph.costs
  pub counted : (r : ℕ)
      → r < length graph.costs
      → slice_index_or counts r 0 ≡ sum_by (λ list. times r list) (take n graph.predecessors)
