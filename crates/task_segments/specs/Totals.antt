-- What the marks of a program add up to, compared with its table: the cutting loses nothing.
use Rattle.std.specs.Prelude.{ℕ, ◌+◌, ◌*◌, ◌≡◌, Bool, true, false, List, length, sum, count_by}
use Rattle.task_program.specs.Limits.{work_of}
use Rattle.task_program.specs.Marks.{Mark}
use Rattle.task_program.specs.Marks.Mark.{Waits}
use Rattle.task_segments.specs.Moments.{begins_task, begins_group}
use Rattle.task_segments.specs.Table.{Table, costs_of}

abbrev pub is_wait : Mark → Bool
is_wait Waits = true
is_wait _ = false

-- the explicit tasks, the waits and the groups of a program
abbrev pub tasks_in : List Mark → ℕ
tasks_in marks = count_by begins_task marks

abbrev pub waits_in : List Mark → ℕ
waits_in marks = count_by is_wait marks

abbrev pub groups_in : List Mark → ℕ
groups_in marks = count_by begins_group marks

-- the root is a task too and has one segment; a task adds one of its own and one of its parent, a
-- wait and a group one each
pub record HasAllOf (marks : List Mark) (table : Table) : Type 0 where
  pub tasks : length table.tasks ≡ 1 + tasks_in marks
  pub segments : length table.segments ≡ 1 + 2 * tasks_in marks + waits_in marks + groups_in marks
  pub work : sum (costs_of table) ≡ work_of marks
