use Rattle.task_segments.proofs.InPlace.{read_in_place}
use Rattle.task_segments.proofs.laws.reads_in_place.Goals as goal

pub returns : goal.returns
returns g c = read_in_place c.args.table.now c.keeps_nesting.ensures.nested c.keeps_groups.ensures
