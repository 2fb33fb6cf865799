-- The span of a moment, and that of a program: of which segments and under which relation.
use Rattle.std.specs.Prelude.{ℕ, List}
use Rattle.task_program.specs.Marks.{Mark}
use Rattle.task_segments.specs.Schedule.{IsSpan, IsLeastEnd}
use Rattle.task_segments.specs.Table.{costs_of, table_at, table_of}
use Rattle.task_segments.specs.Precedence.{MustPrecede}
use Rattle.online_span.specs.Awaiting.{Awaits}

-- the costs of the segments so far
abbrev pub costs_at : List Mark → List ℕ
costs_at e = costs_of (table_at e)

-- The number is the greatest sum of a chain of segments of which each awaits the one before it, and
-- no legal schedule ends before it.
pub record IsSpanAt (e : List Mark) (span : ℕ) : Type 0 where
  pub greatest_sum : IsSpan (costs_at e) (Awaits e) span
  pub least_end : IsLeastEnd (costs_at e) (Awaits e) span

-- The same of a whole program, with what must precede what in its table: the number is the greatest
-- sum of a chain, and no legal schedule ends before it.
pub record IsSpanOf (body : List Mark) (span : ℕ) : Type 0 where
  pub greatest_sum : IsSpan (costs_of (table_of body)) (MustPrecede (table_of body)) span
  pub least_end : IsLeastEnd (costs_of (table_of body)) (MustPrecede (table_of body)) span
