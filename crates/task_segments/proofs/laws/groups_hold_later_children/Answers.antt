use Rattle.task_segments.proofs.LastMoment.{later_program}
use Rattle.task_segments.proofs.laws.groups_hold_later_children.Goals as goal

pub returns : goal.returns
returns g c = later_program c.args.table.now c.keeps_nesting.ensures.of_marks
