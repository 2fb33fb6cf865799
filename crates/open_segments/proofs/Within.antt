-- What must come after another segment is a segment.
use Rattle.std.proofs.Common.{ℕ, ◌≡◌, arith}
use Rattle.task_segments.specs.Table.{Table, task}
use Rattle.task_segments.specs.Nesting.{IsNestedTable}
use Rattle.task_segments.specs.Precedence.{IsSegment, IsTask, MustPrecede}

first_within : (table : Table) (u t : ℕ) → IsNestedTable table → IsTask table u
    → (task table u).first ≡ t → IsSegment table t
first_within table u t nested known is =
    let up = (nested.segments u known).in_order in
    let last = (nested.segments u known).is_last in
    omega (arith, up, last, is)

pub within_table : (table : Table) (s t : ℕ) → IsNestedTable table → MustPrecede table s t
    → IsSegment table t
within_table table s t nested edge = grind (arith, first_within)
