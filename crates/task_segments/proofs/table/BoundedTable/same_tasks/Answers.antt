use Rattle.std.proofs.Common.{refl, arith}
use Rattle.std.proofs.lemmas.List.{ext_get_or}
use Rattle.task_segments.specs.Table.{no_task}
use Rattle.task_segments.proofs.table.BoundedTable.same_tasks.Goals as goal

pub returns : goal.returns
returns g c = (
  λ _. ext_get_or no_task c.args.self.now.tasks c.args.other.now.tasks (omega arith)
      (λ u l. c.loop-t.invariant u (omega arith)),
  λ _. refl,
)
