use Rattle.worker_run.proofs.worked.Worked.into_core.Goals as goal

pub returns-in-None-clause-none : goal.returns-in-None-clause-none
returns-in-None-clause-none g c = rw c.as_slice.ensures.value at c.in-None.ensures.first
