-- What a program's table adds up to.
use Rattle.std.proofs.Common.{◌≡◌, ◌+◌, ◌*◌, List, [], ◌∷◌, refl, arith}
use Rattle.std.specs.List.{sum_by}
use Rattle.std.proofs.lemmas.List.Sums.{sum_by-cons}
use Rattle.task_program.specs.Limits.{segments_opened}
use Rattle.task_program.specs.Marks.{Mark}
use Rattle.task_program.specs.Marks.Mark.{Begins}
use Rattle.task_program.specs.ProgramMarks.{ProgramMarks}
use Rattle.task_program.specs.Programs.{IsProgram}
use Rattle.task_program.proofs.Nested.{is_nested}
use Rattle.task_segments.specs.Moments.{begins_task, begins_group}
use Rattle.task_segments.specs.Table.{table_of}
use Rattle.task_segments.specs.Totals.{is_wait, tasks_in, waits_in, groups_in, HasAllOf}
use Rattle.task_segments.proofs.Facts.{segments-at, tasks-at}
use Rattle.task_segments.proofs.LastMoment.{count_read}
use Rattle.task_segments.proofs.Reading.{segments_counted}
use Rattle.task_segments.proofs.Steps.{count-cons}
use Rattle.task_segments.proofs.Work.{all_work}

-- what one more mark adds
one_more : (m : Mark) (marks : List Mark)
    → segments_opened m + (2 * tasks_in marks + waits_in marks + groups_in marks)
    ≡ 2 * tasks_in (m ∷ marks) + waits_in (m ∷ marks) + groups_in (m ∷ marks)
one_more (Begins d i) marks =
    omega (
      arith,
      count-cons begins_task (Begins d i) marks,
      count-cons is_wait (Begins d i) marks,
      count-cons begins_group (Begins d i) marks,
    )
one_more m marks =
    omega (
      arith,
      count-cons begins_task m marks,
      count-cons is_wait m marks,
      count-cons begins_group m marks,
    )

opened_in : (marks : List Mark)
    → sum_by segments_opened marks ≡ 2 * tasks_in marks + waits_in marks + groups_in marks
opened_in [] = refl
opened_in (m ∷ marks) =
    omega (arith, sum_by-cons segments_opened m marks, opened_in marks, one_more m marks)

-- the table of a program has all of it
pub has_all : (program : ProgramMarks)
    → IsProgram program
    → HasAllOf program.marks (table_of program.marks)
has_all program h = grind (arith, tasks-at, count_read, segments-at, segments_counted, is_nested, opened_in, all_work)
