use Rattle.std.proofs.Common.{arith}
use Rattle.std.proofs.lemmas.Result.{IfOk-weaker}
use Rattle.task_segments.specs.Moments.{last_moment}
use Rattle.large_command.proofs.Bounds.{within_work}
use Rattle.large_command.proofs.Told.{tells_bounds}
use Rattle.large_command.proofs.bound_rows.bounds.Goals as goal

pub bounds_report-requires : goal.bounds_report-requires
bounds_report-requires c =
    let marks = c.requires.marks in
    let measures = c.requires.measures in
    let within = within_work marks c.span.result c.requires.nested
    (c.span.ensures.whole marks c.requires.nested measures) in
    let work = c.total_work.ensures.marks (last_moment marks) measures in
    omega (arith, within, work)

pub returns : goal.returns
returns c =
    IfOk-weaker c.bounds_report.result _ _
    (λ report says. tells_bounds c.args.meter.now c.args.upto c.total_work.result c.span.result
    report c.total_work.ensures.marks c.span.ensures.whole says)
    c.bounds_report.ensures
