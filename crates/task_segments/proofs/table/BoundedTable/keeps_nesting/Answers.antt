use Rattle.std.proofs.Common.{rules}
use Rattle.task_segments.proofs.LastMoment.{nested_program, few_segments, few_tasks}
use Rattle.task_segments.proofs.table.BoundedTable.keeps_nesting.Goals as goal

pub returns-clause-nested : goal.returns-clause-nested
returns-clause-nested g c = nested_program c.args.self.now (search rules)

pub returns-clause-few_segments : goal.returns-clause-few_segments
returns-clause-few_segments g c = few_segments c.args.self.now (search rules)

pub returns-clause-few_tasks : goal.returns-clause-few_tasks
returns-clause-few_tasks g c = few_tasks c.args.self.now (search rules)
