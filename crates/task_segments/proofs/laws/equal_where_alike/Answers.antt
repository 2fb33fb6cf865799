use Rattle.task_segments.proofs.Alike.{alike_is_equal, equal_is_alike}
use Rattle.task_segments.proofs.laws.equal_where_alike.Goals as goal

pub returns : goal.returns
returns g c = (
  equal_is_alike c.args.one.now c.args.other.now,
  alike_is_equal c.args.one.now c.args.other.now c.keeps_nesting.ensures.of_marks
      c.keeps_nesting-2.ensures.of_marks,
)
