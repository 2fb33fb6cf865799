-- One program as a relaxation of another: the same segments, with no more to wait for.
use Rattle.std.specs.Prelude.{ℕ, ◌≡◌, length}
use Rattle.depend_table.specs.KeptEdges.{IsKeptEdge}
use Rattle.task_segments.specs.Precedence.{IsSegment, MustPrecede}
use Rattle.task_segments.specs.Table.{Table, segment}

-- segment s is of the same task in both, at the same place in it, and of the same cost
pub record IsSameSegment (old new : Table) (s : ℕ) : Type 0 where
  pub task : (segment new s).task ≡ (segment old s).task
  pub index : (segment new s).index ≡ (segment old s).index
  pub cost : (segment new s).cost ≡ (segment old s).cost

pub record AreSameSegments (old new : Table) : Type 0 where
  pub count : length new.segments ≡ length old.segments
  pub each : (s : ℕ) → IsSegment old s → IsSameSegment old new s

-- each pair that the new program keeps must precede in the old one too
pub record IsRelaxation (old new : Table) : Type 0 where
  pub same : AreSameSegments old new
  pub no_more : (s t : ℕ) → IsKeptEdge new s t → MustPrecede old s t
