use Rattle.std.proofs.Common.{arith, rules}
use Rattle.task_segments.proofs.Order.{creator_within}
use Rattle.task_segments.proofs.table.BoundedTable.resumes.Goals as goal

pub continues-requires : goal.continues-requires
continues-requires g c = (
  search rules,
  (
    creator_within c.args.self.now c.keeps_nesting.ensures.nested c.task_of-child.result
        c.in-Some.creator (grind arith) (grind arith),
    search rules,
  ),
)
