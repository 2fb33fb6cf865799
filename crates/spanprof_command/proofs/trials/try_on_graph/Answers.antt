use Rattle.std.proofs.Common.{ap}
use Rattle.std.proofs.lemmas.Result.{IfOk-weaker}
use Rattle.whatif_costs.specs.Changed.{Trial}
use Rattle.spanprof_command.proofs.TriedSpans.{tells_trial}
use Rattle.spanprof_command.proofs.trials.try_on_graph.Goals as goal

pub returns-in-Ok-change_all : goal.returns-in-Ok-change_all
returns-in-Ok-change_all c =
    IfOk-weaker c.tell_spans.result _ _
    (λ report told table is kept. tells_trial table c.args.graph c.in-Ok.trial.graph
    c.change_all.new.trial.graph c.args.changes.now c.work.result c.span.result c.span-was.result
    is (ap (λ (t : Trial). t.graph) c.in-Ok.ensures)
    c.in-Ok-change_all.ensures.accepted kept c.span.ensures
    c.span-was.ensures c.work.ensures.work report told)
    c.tell_spans.ensures
