use Rattle.worker_run.proofs.AtRest.{idle_after_finish}
use Rattle.worker_run.proofs.gated.Computed.finish.Goals as goal

pub returns-in-Ok-clause-rest : goal.returns-in-Ok-clause-rest
returns-in-Ok-clause-rest g c =
    rw c.in-Ok.ensures.next (idle_after_finish c.args.core.now.table c.args.core.now.history c.args.worker
    c.args.self.outcome.segment c.legal_history.ensures c.in-Ok.ensures.legal.runs)
