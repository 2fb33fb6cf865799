use Rattle.std.proofs.Common.{ℕ, ◌<◌, ◌≡◌, Some, map}
use Rattle.std.specs.Prelude.{slice_get}
use Rattle.worker_run.specs.declared.record.RunFault.{RunFault}
use Rattle.worker_run.specs.declared.worker.Ending.{Ending}
use Rattle.worker_run.specs.WorkerEnds.{Tells}
use Rattle.worker_run.proofs.worked.first_fault.Given as goal

abbrev pub invariant-loop-end : goal.invariant-loop-end
invariant-loop-end g l =
    (worker : ℕ) (its : Ending) (told : RunFault) → worker < l.end-index
    → slice_get (map (λ end. end.how) l.ends) worker ≡ Some its
    → ¬ Tells l.core.table l.core.history g.K.Kernel.value_of its told
