-- What the limits of a program count, on its marks.
use Rattle.std.specs.Prelude.{ℕ, ◌+◌, List, sum_by}
use Rattle.program_text.specs.Marks.{Mark}
use Rattle.program_text.specs.Marks.Mark.{Begins, Works, Waits, GroupBegins}

abbrev pub tasks_begun : Mark → ℕ
tasks_begun (Begins undeferred items) = 1
tasks_begun _ = 0

-- a task opens a segment where it begins and where it ends, a wait and a group where they end
abbrev pub segments_opened : Mark → ℕ
segments_opened (Begins undeferred items) = 2
segments_opened Waits = 1
segments_opened GroupBegins = 1
segments_opened _ = 0

abbrev pub work_done : Mark → ℕ
work_done (Works cost) = cost
work_done _ = 0

-- the explicit tasks that begin
abbrev pub tasks_of : List Mark → ℕ
tasks_of marks = sum_by tasks_begun marks

-- the segments, once each block is closed
abbrev pub segments_of : List Mark → ℕ
segments_of marks = 1 + sum_by segments_opened marks

abbrev pub work_of : List Mark → ℕ
work_of marks = sum_by work_done marks
