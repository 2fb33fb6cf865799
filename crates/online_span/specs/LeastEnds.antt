-- Where segments end at the earliest, by legal schedules alone.
use Rattle.std.specs.Prelude.{ℕ, ◌+◌, ◌≡◌}
use Rattle.task_segments.specs.Table.{Table, costs_of}
use Rattle.task_segments.specs.Precedence.{MustPrecede}
use Rattle.task_segments.specs.Schedule.{at, IsLeastStart}

-- the segment ends there in a legal schedule in which it starts as early as in any
pub record IsLeastEndOf (table : Table) (s end : ℕ) : Type 0 where
  pub start : ℕ
  pub is_least_start : IsLeastStart (costs_of table) (MustPrecede table) s start
  pub ends : end ≡ start + at (costs_of table) s
