-- Carried out: what the type of a table keeps: it is the table of nested marks, and its numbers fit.
use Rattle.std.specs.Prelude.{◌≡◌, ◌+◌, ◌≤◌, List, count_by}
use Rattle.program_text.specs.declared.limits.TheConstants.{MOST_WORK}
use Rattle.task_program.specs.Limits.{work_of}
use Rattle.task_program.specs.Marks.{Mark}
use Rattle.task_program.specs.Nested.{IsNested}
use Rattle.task_segments.specs.declared.limits.TheConstants.{MOST_ROWS}
use Rattle.task_segments.specs.Moments.{begins_task, opens}
use Rattle.task_segments.specs.Table.{Table, table_of}

-- these marks can be cut: they are nested, and what they count fits the rows. The root's beginning
-- opens one more segment.
pub record IsReading (marks : List Mark) : Type 0 where
  pub nested : IsNested marks
  pub tasks : count_by begins_task marks + 1 ≤ MOST_ROWS
  pub segments : count_by opens marks + 1 ≤ MOST_ROWS
  pub work : work_of marks ≤ MOST_WORK

pub record IsMarksTable (table : Table) : Type 0 where
  pub marks : List Mark
  pub reading : IsReading marks
  pub is : table ≡ table_of marks
