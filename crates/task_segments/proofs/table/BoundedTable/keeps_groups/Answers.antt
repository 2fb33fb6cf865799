use Rattle.std.proofs.Common.{rules}
use Rattle.task_segments.proofs.LastMoment.{grouped_program}
use Rattle.task_segments.proofs.table.BoundedTable.keeps_groups.Goals as goal

pub returns : goal.returns
returns g c = grouped_program c.args.self.now (search rules)
