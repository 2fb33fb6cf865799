use Rattle.std.proofs.lemmas.Result.{IfOk-weaker}
use Rattle.large_command.proofs.Told.{tells_meter}
use Rattle.large_command.proofs.meter_answers.numbers.Goals as goal

pub returns : goal.returns
returns c =
    IfOk-weaker c.numbers_report.result _ _
    (λ report says. tells_meter c.args.meter.now c.tasks.result c.segments.result
    c.total_work.result c.span.result report c.tasks.ensures c.segments.ensures
    c.total_work.ensures.marks c.span.ensures.whole says)
    c.numbers_report.ensures
