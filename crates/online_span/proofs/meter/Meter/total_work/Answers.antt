use Rattle.std.proofs.Common.{sym, ◌∙◌}
use Rattle.task_segments.proofs.Work.{all_work_at}
use Rattle.online_span.proofs.meter.Meter.total_work.Goals as goal

pub returns-clause-costs : goal.returns-clause-costs
returns-clause-costs c = λ e h. h.work ∙ sym (all_work_at e h.proper)
