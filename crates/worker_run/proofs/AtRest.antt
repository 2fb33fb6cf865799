-- What a worker runs after a finish: nothing.
use Rattle.std.proofs.Common.{ℕ, ◌<◌, ◌≡◌, List, [], ◌∷◌, ◌++◌, subst, arith, inl, inr}
use Rattle.std.specs.Prelude.{Contains, OnOk, Result, Ok, Err}
use Rattle.std.proofs.lemmas.Bool.{cases_lt}
use Rattle.std.proofs.lemmas.List.Elements.{Contains-push, Contains-push_cases}
use Rattle.task_segments.specs.Table.{Table}
use Rattle.dispatch_core.specs.declared.event.Event.{Event}
use Rattle.dispatch_core.specs.declared.event.Event.TheVariants.{Start, Finish}
use Rattle.dispatch_core.specs.Run.{Run, HasFinished, Runs, IsLegalRun}
use Rattle.dispatch_core.specs.Refusals.{IsIdle}
use Rattle.dispatch_core.proofs.Histories.{Contains-from_take, Contains-into_take, get_at_place, finished_kept}
use Rattle.worker_run.specs.AtRest.{IsAtRest}
use Rattle.worker_run.specs.Workers.{AreBelow}
use Rattle.worker_run.proofs.Runs.{below_push}

-- a worker finishes what it has started before it starts more
finished_first : (table : Table) (history : List Event) (worker s t : ℕ) → IsLegalRun table history
    → (one : Contains history (Start worker s)) → (next : Contains history (Start worker t)) → one.0 < next.0
    → ¬ ¬ HasFinished history s
finished_first table history worker s t legal one next before unfinished =
    (legal next.0 (Start worker t) (get_at_place history (Start worker t) next)).idle s
    (record {
      started = Contains-into_take next.0 history (Start worker s) one before;
      unfinished = λ h. unfinished (record {
        worker = h.worker;
        finished = Contains-from_take next.0 history (Finish h.worker s) h.finished;
      });
    })

-- a worker runs one segment at a time
pub one_running : (table : Table) (history : List Event) (worker s t : ℕ) → IsLegalRun table history
    → Runs history worker s → Runs history worker t → s ≡ t
one_running table history worker s t legal one other =
    elim (cases_lt one.started.0 other.started.0) [
      | inl before ↦
          absurd (finished_first table history worker s t legal one.started other.started before one.unfinished)
      | inr after ↦ elim (cases_lt other.started.0 one.started.0) [
        | inl before ↦
            absurd (finished_first table history worker t s legal other.started one.started before other.unfinished)
        | inr same ↦
            let same_place : one.started.0 ≡ other.started.0 = omega arith in
            let one_there = get_at_place history (Start worker s) one.started in
            let other_there = get_at_place history (Start worker t) other.started in
            cc
      ]
    ]

pub idle_after_finish : (table : Table) (history : List Event) (worker s : ℕ) → IsLegalRun table history
    → Runs history worker s → IsIdle (history ++ Finish worker s ∷ []) worker
idle_after_finish table history worker s legal runs other still =
    let was : Contains history (Start worker other) =
    elim (Contains-push_cases history (Finish worker s) (Start worker other) still.started) [
      | inl was ↦ was
      | inr e ↦ absurd (cc)
    ] in
    let same = one_running table history worker s other legal runs (record {
      started = was;
      unfinished = λ h. still.unfinished (finished_kept history (Finish worker s) other h);
    }) in
    still.unfinished (record {
      worker = worker;
      finished = subst (λ (t : ℕ). Contains (history ++ Finish worker s ∷ []) (Finish worker t)) same
          (Contains-push history (Finish worker s));
    })

-- the only worker is at rest after it has finished a segment
pub at_rest_once_finished : {A E : Type 0} (r : Result A E) (was now : Run) (s : ℕ) → AreBelow 1 was.history
    → OnOk r (now ≡ record { table = was.table; history = was.history ++ Finish 0 s ∷ [] })
    → OnOk r (IsIdle now.history 0) → OnOk r (IsAtRest now.history)
at_rest_once_finished (Ok x) was now s below is idle = record {
  below = rw is (below_push 1 was.history (Finish 0 s) below (omega arith));
  idle = idle;
}
at_rest_once_finished (Err e) was now s below is idle = tt

pub at_rest_at_first : IsAtRest []
at_rest_at_first = record {
  below = λ event h. absurd (let within = h.1 in omega arith);
  idle = λ s runs. absurd (let within = runs.started.1 in omega arith);
}
