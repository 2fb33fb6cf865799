-- Carried out: the meter over the statements of a program: what it has room for, and what it has
-- taken.
use Rattle.std.specs.Prelude.{◌+◌, ◌<◌, ◌≡◌, ◌^◌, List, count_by}
use Rattle.task_program.specs.Limits.{work_of}
use Rattle.task_program.specs.Marks.{Mark}
use Rattle.task_segments.specs.Moments.{opens, begins_task, segments_so_far, tasks_so_far}
use Rattle.task_segments.specs.Moments.{open_tasks, open_groups, moment_after}
use Rattle.online_span.specs.declared.meter.Meter.{Meter}
use Rattle.online_span.specs.Measuring.{Measures}

-- the counts still fit once the meter has taken these marks too
pub record HasRoom (meter : Meter) (marks : List Mark) : Type 0 where
  pub moment : List Mark
  pub measures : Measures meter moment
  pub segments : segments_so_far moment + count_by opens marks + 1 < 2 ^ 64
  pub tasks : tasks_so_far moment + count_by begins_task marks < 2 ^ 64
  pub work : work_of moment + work_of marks < 2 ^ 64

-- the meter has taken the marks from this moment on, and what was open is open again
pub record HasTaken (meter : Meter) (moment marks : List Mark) : Type 0 where
  pub measures : Measures meter (moment_after moment marks)
  pub tasks : open_tasks (moment_after moment marks) ≡ open_tasks moment
  pub groups : open_groups (moment_after moment marks) ≡ open_groups moment
