-- Where a run is not finished and nothing runs, the smallest unfinished segment is ready.
use Rattle.std.proofs.Common.{ℕ, ◌≡◌, List, length, refl, subst, ap, inl, inr}
use Rattle.std.specs.Prelude.{Contains}
use Rattle.task_segments.specs.Table.{Table}
use Rattle.open_segments.specs.Facts.{IsSoundTable}
use Rattle.dispatch_core.specs.declared.event.Event.{Event}
use Rattle.dispatch_core.specs.declared.event.Event.TheVariants.{Start, Finish}
use Rattle.dispatch_core.proofs.Decisions.{IsDecided, by_parts, decide_member, decide_not}
use Rattle.dispatch_core.proofs.Decisions.{decide_same, find_first, holds_unless}
use Rattle.dispatch_core.specs.Run.{HasFinished, Runs, IsFinished, IsReady}

is_finish_of : (event : Event) (s : ℕ) → IsDecided ((worker : ℕ) × (event ≡ Finish worker s))
is_finish_of (Start w t) s = inr (λ h. let same_event = h.1 in cc)
is_finish_of (Finish w t) s = elim (decide_same t s) [
  | inl same ↦ inl (w, ap (λ n. Finish w n) same)
  | inr apart ↦ inr (λ h. let same_event = h.1 in apart (cc))
]

pub decide_finished : (history : List Event) (s : ℕ) → IsDecided (HasFinished history s)
decide_finished history s =
    by_parts (decide_member _ (λ event. is_finish_of event s) history)
    (λ h. record { worker = h.2.0; finished = subst (Contains history) h.2.1 h.1 })
    (λ h. (Finish h.worker s, h.finished, (h.worker, refl)))

pub some_ready : (table : Table) (history : List Event)
    → IsSoundTable table
    → ¬ IsFinished table history
    → ((worker segment : ℕ) → ¬ Runs history worker segment)
    → (segment : ℕ) × IsReady table history segment
some_ready table history sound unfinished idle =
    let each : (s : ℕ) → IsDecided (¬ HasFinished history s) = λ s.
    decide_not (HasFinished history s) (decide_finished history s) in
    elim (find_first (λ s. ¬ HasFinished history s) (length table.segments) each) [
      | inl none ↦
          absurd (unfinished (λ s less. holds_unless (decide_finished history s) (none s less)))
      | inr found ↦ let first = found.1 in (
        found.0,
        record {
          known = first.below;
          not_started = λ h. idle h.worker found.0
              (record { started = h.started; unfinished = first.holds });
          after = λ pred edge. holds_unless (decide_finished history pred)
              (first.none_before pred (sound.goes_up.ascending pred found.0 edge));
        },
      )
    ]
