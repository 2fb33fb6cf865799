use Rattle.std.proofs.Common.{arith}
use Rattle.task_segments.specs.declared.table.Closing.TheVariants as closings
use Rattle.task_segments.proofs.Order.{opens_after, opened_after}
use Rattle.task_segments.proofs.table.BoundedTable.opens_after_group.Goals as goal

pub returns-then-t-gt0 : goal.returns-then-t-gt0
returns-then-t-gt0 g c =
    let table = c.args.self.now in
    let nested = c.keeps_nesting.ensures.nested in (
      λ r. opened_after table nested closings.EndsGroup nested.after_group c.args.t c.requires
          (grind arith)
          (grind arith),
      λ w. let closing_is =
          opens_after table nested closings.EndsGroup nested.after_group c.args.t c.requires
          (grind arith)
          w in
          grind arith,
    )
