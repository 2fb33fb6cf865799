-- How workers end, and what a run answers about it.
use Rattle.std.specs.Prelude.{ℕ, ◌<◌, ◌≡◌, Bool, IsTrue, List, Some, Contains, length, slice_get}
use Rattle.std.specs.List.{HoldsAt}
use Rattle.task_segments.specs.Table.{Table}
use Rattle.dispatch_core.specs.declared.event.Event.{Event}
use Rattle.worker_run.specs.declared.record.RunFault.{RunFault}
use Rattle.worker_run.specs.declared.record.RunFault.TheVariants.{OutOfMemory, Kernel}
use Rattle.worker_run.specs.declared.counted.Job.{Job}
use Rattle.worker_run.specs.declared.worker.Ending.{Ending}
use Rattle.worker_run.specs.declared.worker.Ending.TheVariants.{Over, NoMemory, Faulted}
use Rattle.worker_run.specs.Jobs.{AreFinishedBefore, IsJobOf}

-- a worker ends by a fault only where the kernel may fault
abbrev pub MayEnd : (ℕ → ℕ → ℕ → Bool) → Ending → Type 0
MayEnd may_fault how =
    (job : Job) → how ≡ Faulted job → IsTrue (may_fault job.segment job.cost job.input)

-- each has its place as its number
abbrev pub AreNumbered : {A : Type 0} → (A → ℕ) → List A → Type 0
AreNumbered number items =
    (place : ℕ) → place < length items → HoldsAt (λ x. number x ≡ place) items place

-- Out of memory always counts, and a fault of the kernel where it was called with the segment's cost
-- and input, all that must precede the segment being finished.
abbrev pub Tells : Table → List Event → (ℕ → ℕ → ℕ → ℕ) → Ending → RunFault → Type 0
Tells table history value_of Over fault = ⊥
Tells table history value_of NoMemory fault = fault ≡ OutOfMemory
Tells table history value_of (Faulted job) fault =
    AreFinishedBefore table history job.segment
    × IsJobOf table value_of job
    × (fault ≡ Kernel job.segment)

-- none of these workers' ends counts
abbrev pub TellNothing : Table → List Event → (ℕ → ℕ → ℕ → ℕ) → List Ending → Type 0
TellNothing table history value_of ends =
    (end : Ending) (fault : RunFault) → Contains ends end → ¬ Tells table history value_of end fault

-- the fault of the lowest worker whose end counts
pub record IsFirstTold (table : Table) (history : List Event) (value_of : ℕ → ℕ → ℕ → ℕ)
    (ends : List Ending) (fault : RunFault)
    : Type 0 where
  pub worker : ℕ
  pub end : Ending
  pub is_end : slice_get ends worker ≡ Some end
  pub tells : Tells table history value_of end fault
  pub lowest : (other : ℕ) (its : Ending) (told : RunFault) → other < worker
      → slice_get ends other ≡ Some its → ¬ Tells table history value_of its told
