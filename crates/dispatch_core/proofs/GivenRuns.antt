-- Lists of events.
use Rattle.std.proofs.Common.{ℕ, ◌≡◌, List, [], ◌∷◌, ◌++◌, Some, take, subst}
use Rattle.std.specs.Prelude.{slice_get}
use Rattle.std.proofs.lemmas.List.Elements.{Contains-push}
use Rattle.task_segments.specs.Table.{Table}
use Rattle.dispatch_core.specs.declared.event.Event.{Event}
use Rattle.dispatch_core.specs.declared.event.Event.TheVariants.{Start, Finish}
use Rattle.dispatch_core.specs.Run.{Runs, MayStart, IsLegalRun}
use Rattle.dispatch_core.specs.declared.replay.ReplayRefusal.{ReplayRefusal}
use Rattle.dispatch_core.specs.declared.replay.StepFault.{StepFault}
use Rattle.dispatch_core.specs.declared.replay.StepFault.TheVariants.{Refused, NoMemory}
use Rattle.dispatch_core.specs.Replays.{RefusesStep, RefusesNext, RefusesReplay, fault_at}
use Rattle.dispatch_core.proofs.Histories.{finished_was}
use Rattle.dispatch_core.proofs.Histories.{started_before_finish}

-- a segment that is started runs
pub runs_once_started : (table : Table) (history : List Event) (worker s : ℕ)
    → IsLegalRun table history
    → MayStart table history worker s
    → Runs (history ++ Start worker s ∷ []) worker s
runs_once_started table history worker s legal may = record {
  started = Contains-push history (Start worker s);
  unfinished = λ h. may.ready.not_started
      (started_before_finish table history s legal (finished_was history worker s s h));
}

-- the event after those that were made, if it is not made, is the fault of the whole list
pub refused_there : (table now : Table) (events history : List Event) (index : ℕ) (event : Event)
    (fault : StepFault)
    → history ≡ take index events
    → now ≡ table
    → slice_get events index ≡ Some event
    → IsLegalRun now history
    → RefusesStep now history event fault
    → RefusesReplay table events (fault_at index fault)
refused_there table now events history index event NoMemory made same there legal refused = tt
refused_there table now events history index event (Refused refusal) made same there legal refused =
    let Legal : Table → List Event → Type 0 = λ t h. IsLegalRun t h in
    let Refuses : Table → List Event → Type 0 = λ t h. RefusesNext t h event refusal in
    record {
      event = event;
      is_there = there;
      legal =
          subst (λ (t : Table). Legal t (take index events)) same (subst (Legal now) made legal);
      refused = subst (λ (t : Table). Refuses t (take index events)) same
          (subst (Refuses now) made (refuses_event now history event refusal refused));
    }
  where
    refuses_event : (table : Table) (history : List Event) (event : Event) (refusal : ReplayRefusal)
        → RefusesStep table history event (Refused refusal)
        → RefusesNext table history event refusal
    refuses_event table history (Start worker s) refusal h = h
    refuses_event table history (Finish worker s) refusal h = h
