use Rattle.spanprof_command.proofs.Finished.{ends_as_made}
use Rattle.large_command.proofs.engine.command.Goals as goal

pub returns-clause-answers : goal.returns-clause-answers
returns-clause-answers g c =
    ends_as_made _ _ _ _ _ _ _ _ c.prepare-made.ensures.report c.prepare-made.ensures.retries
    c.finish.ensures.sends
