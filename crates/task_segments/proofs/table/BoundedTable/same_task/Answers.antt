use Rattle.std.proofs.lemmas.Slice.Eq.{slice_eq-Decides}
use Rattle.task_segments.specs.Table.{task}
use Rattle.task_segments.proofs.Same.{item_decides, same_task}
use Rattle.task_segments.proofs.table.BoundedTable.same_task.Goals as goal

pub returns-then-eq : goal.returns-then-eq
returns-then-eq g c =
    same_task (task c.args.self.now c.args.t) (task c.args.other.now c.args.t) c.facts.result
    c.facts-2.result c.items.result.now c.items-then-eq.result.now c.eq-then-eq.result
    c.facts.ensures c.facts-2.ensures c.if-eq.ensures c.items.ensures c.items-then-eq.ensures
    (slice_eq-Decides item_decides c.items.result.now c.items-then-eq.result.now c.eq-then-eq.result
    c.eq-then-eq.ensures)
