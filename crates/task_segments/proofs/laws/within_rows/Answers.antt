use Rattle.std.proofs.Common.{arith}
use Rattle.task_segments.proofs.Work.{little_work}
use Rattle.task_segments.proofs.laws.within_rows.Goals as goal

pub returns-clause-nonempty : goal.returns-clause-nonempty
returns-clause-nonempty g c =
    let is_task = c.keeps_nesting.ensures.nested.root.is_task in
    let last_within = (c.keeps_nesting.ensures.nested.segments 0 is_task).is_last in
    omega arith

pub returns-clause-work : goal.returns-clause-work
returns-clause-work g c = little_work c.args.table.now c.keeps_nesting.ensures.of_marks
