use Rattle.std.proofs.Common.{◌∷◌, [], false, List, subst}
use Rattle.program_text.specs.Statements.{marks_of}
use Rattle.task_program.specs.Marks.{Mark}
use Rattle.task_program.specs.Marks.Mark.{Begins}
use Rattle.task_segments.specs.Moments.{moment_after}
use Rattle.task_segments.proofs.Reading.{reading}
use Rattle.online_span.specs.Measuring.{Measures}
use Rattle.online_span.proofs.Taking.{can_start}
use Rattle.online_span.proofs.statements.measure.Goals as goal

pub take_all-requires : goal.take_all-requires
take_all-requires c =
    can_start c.new-meter.result c.args.program.now.marks (marks_of c.body-statements.result.now)
    (reading c.args.program.now c.body-statements.ensures.program) c.body-statements.ensures.marks
    c.new-meter.ensures

pub returns : goal.returns
returns c =
    let start : List Mark = Begins false [] ∷ [] in
    let taken = c.in_ok-take_all.ensures start c.new-meter.ensures in
    let P : List Mark → Type 0 = λ marks. Measures c.take_all.new.meter (moment_after start marks) in
    subst P c.body-statements.ensures.marks taken.measures
