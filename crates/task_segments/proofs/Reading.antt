-- What the marks of a program keep, in the counts of a table's moments.
use Rattle.std.proofs.Common.{◌≡◌, ℕ, ◌+◌, ◌≤◌, cond, refl, List, [], ◌∷◌, ◌++◌, arith}
use Rattle.std.specs.List.{sum_by, count_by}
use Rattle.std.proofs.lemmas.List.Sums.{sum_by-cons, sum_by-append}
use Rattle.task_program.specs.Limits.{tasks_begun, segments_opened, tasks_of, segments_of}
use Rattle.program_text.specs.declared.limits.TheConstants.{MOST_SEGMENTS}
use Rattle.task_program.specs.Marks.{Mark}
use Rattle.task_program.specs.Marks.Mark.{Begins, Ends, Works, Waits, GroupBegins, GroupEnds}
use Rattle.task_program.specs.Nested.{IsNested}
use Rattle.task_segments.specs.declared.limits.TheConstants.{MOST_TASKS_WITH_ROOT}
use Rattle.task_program.specs.Nested.IsNested.{Nothing, Work, Wait, Task, Group}
use Rattle.task_program.specs.ProgramMarks.{ProgramMarks}
use Rattle.task_program.specs.Programs.{IsProgram}
use Rattle.task_program.proofs.Nested.{is_nested}
use Rattle.task_segments.specs.MarksTable.{IsReading}
use Rattle.task_segments.specs.Moments.{begins_task, opens}
use Rattle.task_segments.proofs.Steps.{count-cons}

task_counted : (mark : Mark) → tasks_begun mark ≡ cond (begins_task mark) 1 0
task_counted (Begins d i) = refl
task_counted _ = refl

-- the tasks that are begun are the marks that begin one
pub tasks_counted : (marks : List Mark) → tasks_of marks ≡ count_by begins_task marks
tasks_counted [] = refl
tasks_counted (mark ∷ marks) = grind (arith, task_counted, sum_by-cons, count-cons, tasks_counted marks)

-- a block's body between its two marks
between : (f : Mark → ℕ) (begins ends : Mark) (body rest : List Mark)
    → sum_by f (begins ∷ (body ++ ends ∷ rest)) ≡ f begins + sum_by f body + f ends + sum_by f rest
between f begins ends body rest = grind (arith, sum_by-cons, sum_by-append)

opens_count : Mark → ℕ
opens_count mark = cond (opens mark) 1 0

-- the cuts of a nested program are the marks that open a segment
segments_same : (marks : List Mark)
    → IsNested marks
    → sum_by segments_opened marks ≡ sum_by opens_count marks
unfolding opens_count
segments_same _ Nothing = refl
segments_same _ (Work cost rest h) =
    omega (
      arith,
      segments_same rest h,
      sum_by-cons segments_opened (Works cost) rest,
      sum_by-cons opens_count (Works cost) rest,
    )
segments_same _ (Wait rest h) =
    omega (
      arith,
      segments_same rest h,
      sum_by-cons segments_opened Waits rest,
      sum_by-cons opens_count Waits rest,
    )
segments_same _ (Task d i body rest g h) =
    omega (
      arith,
      segments_same body g,
      segments_same rest h,
      between segments_opened (Begins d i) Ends body rest,
      between opens_count (Begins d i) Ends body rest,
    )
segments_same _ (Group body rest g h) =
    omega (
      arith,
      segments_same body g,
      segments_same rest h,
      between segments_opened GroupBegins GroupEnds body rest,
      between opens_count GroupBegins GroupEnds body rest,
    )

-- and the segments are one more than these
pub segments_counted : (marks : List Mark)
    → IsNested marks
    → segments_of marks ≡ count_by opens marks + 1
unfolding opens_count
segments_counted marks h =
    let same : sum_by segments_opened marks ≡ count_by opens marks = segments_same marks h in
    omega arith

-- the marks of a program are nested and keep within the limits
pub reading : (program : ProgramMarks) → IsProgram program → IsReading program.marks
reading program h = grind (arith, is_nested, tasks_counted, segments_counted)

-- within the limits of a program's table
pub record IsWithinLimits (marks : List Mark) : Type 0 where
  pub segments : count_by opens marks + 1 ≤ MOST_SEGMENTS
  pub tasks : count_by begins_task marks + 1 ≤ MOST_TASKS_WITH_ROOT

pub few_rows : (program : ProgramMarks) → IsProgram program → IsWithinLimits program.marks
few_rows program h = grind (arith, is_nested, tasks_counted, segments_counted)
