use Rattle.std.proofs.Common.{◌+◌, ◌*◌, List, length, take}
use Rattle.task_program.specs.Marks.{Mark}
use Rattle.program_text.specs.Statements.{marks_of, marks_of_one}
use Rattle.online_span.specs.Measuring.{Measures}
use Rattle.task_segments.specs.Cutting.{group_marks, task_marks}
use Rattle.online_span.specs.Taking.{HasTaken}
use Rattle.online_span.proofs.statements.+take.Given as goal

abbrev pub invariant-take_all-loop-statement : goal.invariant-take_all-loop-statement
invariant-take_all-loop-statement l =
    (moment : List Mark) → Measures l.fn.meter moment
    → HasTaken l.meter moment (marks_of (take l.statement-index l.statements))

abbrev pub decreases-take_all : goal.decreases-take_all
decreases-take_all l = 3 * length (marks_of l.statements.now) + 2

abbrev pub decreases-take_one : goal.decreases-take_one
decreases-take_one l = 3 * length (marks_of_one l.statement.now) + 1

abbrev pub decreases-take_task : goal.decreases-take_task
decreases-take_task l = 3 * length (task_marks l.task.now)

abbrev pub decreases-take_group : goal.decreases-take_group
decreases-take_group l = 3 * length (group_marks l.body.now)
