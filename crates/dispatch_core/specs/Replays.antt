-- Runs that are given as a list of events.
use Rattle.std.specs.Prelude.{ℕ, ◌≡◌, List, Some, slice_get, take}
use Rattle.task_segments.specs.Table.{Table}
use Rattle.dispatch_core.specs.declared.event.Event.{Event}
use Rattle.dispatch_core.specs.declared.event.Event.TheVariants.{Start, Finish}
use Rattle.dispatch_core.specs.declared.replay.ReplayRefusal.{ReplayRefusal}
use Rattle.dispatch_core.specs.declared.replay.ReplayRefusal.TheVariants.{OfStart, NotRunning}
use Rattle.dispatch_core.specs.declared.replay.ReplayFault.{ReplayFault}
use Rattle.dispatch_core.specs.declared.replay.ReplayFault.TheVariants.{At, OutOfMemory}
use Rattle.dispatch_core.specs.declared.replay.StepFault.{StepFault}
use Rattle.dispatch_core.specs.declared.replay.StepFault.TheVariants.{Refused, NoMemory}
use Rattle.dispatch_core.specs.Run.{Runs, IsLegalRun}
use Rattle.dispatch_core.specs.Refusals.{RefusesStart}

-- why the event may not be the next one
abbrev pub RefusesNext : Table → List Event → Event → ReplayRefusal → Type 0
RefusesNext table history (Start worker segment) (OfStart refusal) =
    RefusesStart table history worker segment refusal
RefusesNext table history (Start worker segment) NotRunning = ⊥
RefusesNext table history (Finish worker segment) (OfStart refusal) = ⊥
RefusesNext table history (Finish worker segment) NotRunning = ¬ Runs history worker segment

-- why the event was not made; memory is wanted only for a finish that may follow
abbrev pub RefusesStep : Table → List Event → Event → StepFault → Type 0
RefusesStep table history (Start worker segment) (Refused refusal) =
    RefusesNext table history (Start worker segment) refusal
RefusesStep table history (Finish worker segment) (Refused refusal) =
    RefusesNext table history (Finish worker segment) refusal
RefusesStep table history (Start worker segment) NoMemory = ⊥
RefusesStep table history (Finish worker segment) NoMemory = Runs history worker segment

-- the events before it are legal, and the event there is refused
pub record IsFirstRefused (table : Table) (events : List Event) (index : ℕ)
    (refusal : ReplayRefusal)
    : Type 0 where
  pub event : Event
  pub is_there : slice_get events index ≡ Some event
  pub legal : IsLegalRun table (take index events)
  pub refused : RefusesNext table (take index events) event refusal

-- the first refused event, memory aside
abbrev pub RefusesReplay : Table → List Event → ReplayFault → Type 0
RefusesReplay table events (At index refusal) = IsFirstRefused table events index refusal
RefusesReplay table events OutOfMemory = Unit {0}

-- the fault of a list of events whose event at this index is not made
abbrev pub fault_at : ℕ → StepFault → ReplayFault
fault_at index (Refused refusal) = At index refusal
fault_at index NoMemory = OutOfMemory
