-- Carried out: the kept predecessors of the first segments, and the siblings that are entered by
-- then.
use Rattle.std.specs.Prelude.{ℕ, ◌<◌, ◌≡◌, List, [], Option, length, slice_index_or}
use Rattle.task_segments.specs.Table.{Table}
use Rattle.depend_table.specs.KeptEdges.{IsKeptEdge}
use Rattle.depend_table.specs.Lists.{Lists}
use Rattle.depend_table.specs.Siblings.{Sibling}
use Rattle.open_segments.specs.Counters.{AreSiblings, HasValue}

-- of each of the first n segments its kept predecessors
pub record AreFirstLists (table : Table) (n : ℕ) (lists : List (List ℕ)) : Type 0 where
  pub each : length lists ≡ n
  pub kept : (t : ℕ) → t < n → Lists (λ s. IsKeptEdge table s t) (slice_index_or lists t [])

-- for each task its children that the first n segments create
pub record AreEntered (table : Table) (n : ℕ) (siblings : List (List Sibling)) : Type 0 where
  pub values : List (Option ℕ)
  pub each : length values ≡ length table.segments
  pub below : (s : ℕ) → HasValue values s → s < n
  pub valued : (s : ℕ) → s < n → HasValue values s
  pub entered : AreSiblings table values siblings
