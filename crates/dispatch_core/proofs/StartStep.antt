-- What a core keeps is kept when a segment starts.
use Rattle.std.proofs.Common.{ℕ, ◌<◌, ◌≤◌, ◌≡◌, Bool, true, false, List, [], ◌∷◌, ◌++◌, Option}
use Rattle.std.proofs.Common.{Some, length, refl, sym, ap, ◌∙◌, subst, arith, inl, inr, get_or}
use Rattle.std.proofs.lemmas.List.Sums.{count_by-le-length}
use Rattle.std.specs.Prelude.{slice_get, slice_set, Contains, is_some}
use Rattle.std.proofs.lemmas.Bool.{cases_eq, cases_Bool}
use Rattle.std.proofs.lemmas.Option.{slice_get-get_or, same_Some}
use Rattle.std.proofs.lemmas.List.{length-set, length-append}
use Rattle.std.proofs.lemmas.List.Elements.{Contains-append_left, Contains-push}
use Rattle.std.proofs.lemmas.List.Elements.{Contains-push_cases}
use Rattle.task_segments.specs.Table.{Table}
use Rattle.dispatch_core.specs.declared.event.Event.{Event}
use Rattle.dispatch_core.specs.declared.event.Event.TheVariants.{Start}
use Rattle.dispatch_core.specs.Run.{HasStarted, HasFinished, Runs, MayStart, IsLegalRun}
use Rattle.open_segments.specs.Entry.{entry}
use Rattle.dispatch_core.specs.RecordedGraph.{RecordedGraph}
use Rattle.dispatch_core.specs.Sound.{IsSound, AreStarted, AreRunning, AreValues}
use Rattle.open_segments.proofs.PlaceLemmas.{get-set_same, get-set_other, entry-set_same}
use Rattle.open_segments.proofs.PlaceLemmas.{entry-set_other, count_by-set, count_by_some_no}
use Rattle.dispatch_core.proofs.Histories.{finished_kept, started_kept, finished_was, started_cases}
use Rattle.dispatch_core.proofs.Histories.{legal_push, started_before_finish}

-- the flag of a segment that is not started
not_flagged : (table : Table) (history : List Event) (started : List Bool) (s : ℕ)
    → AreStarted table history started
    → s < length table.segments
    → ¬ HasStarted history s
    → slice_get started s ≡ Some false
not_flagged table history started s are known not_started =
    let flag : slice_get started s ≡ Some (get_or started s false) =
    slice_get-get_or started s false (omega (arith, are.each)) in
    elim (cases_Bool (get_or started s false)) [
      | inl on ↦ absurd (not_started (are.is_started s (flag ∙ ap (λ b. Some b) on)))
      | inr off ↦ flag ∙ ap (λ b. Some b) off
    ]

started_after : (table : Table) (history : List Event) (started : List Bool) (worker s : ℕ)
    → AreStarted table history started
    → s < length table.segments
    → ¬ HasStarted history s
    → AreStarted table (history ++ Start worker s ∷ []) (slice_set started s true)
started_after table history started worker s are known not_started = record {
  each = length-set started s true ∙ are.each;
  is_started = λ t h. elim (cases_eq t s) [
    | inl same ↦ record {
      worker = worker;
      started = subst (λ (u : ℕ). Contains (history ++ Start worker s ∷ []) (Start worker u))
          (sym same) (Contains-push history (Start worker s));
    }
    | inr apart ↦ started_kept history (Start worker s) t
        (are.is_started t (sym (get-set_other started s t true apart) ∙ h))
  ];
  has_started = λ t h. elim (started_cases history worker s t h) [
    | inl was ↦ get-set_other started s t true
        (λ same. not_started (subst (HasStarted history) same was))
        ∙ are.has_started t was
    | inr same ↦ subst (λ (u : ℕ). slice_get (slice_set started s true) u ≡ Some true) same
        (get-set_same started s true (omega (arith, are.each)))
  ];
}

running_after : (table : Table) (history : List Event) (running : List (Option ℕ)) (worker s : ℕ)
    → IsLegalRun table history
    → AreRunning history running
    → MayStart table history worker s
    → AreRunning (history ++ Start worker s ∷ []) (slice_set running worker (Some s))
running_after table history running worker s legal are may =
    let next : List Event = history ++ Start worker s ∷ [] in
    let unfinished : ¬ HasFinished next s = λ h. may.ready.not_started
    (started_before_finish table history s legal (finished_was history worker s s h)) in
    record {
      each = length-set running worker (Some s) ∙ are.each;
      is_run = λ w t h. elim (cases_eq w worker) [
        | inl same ↦
            let same_segment : s ≡ t = same_Some s t (sym
            (entry-set_same running worker s (omega (arith, are.each, may.known)))
            ∙ subst (λ (v : ℕ). entry (slice_set running worker (Some s)) v ≡ Some t) same h) in
            record {
              started = subst (λ (v : ℕ). Contains next (Start v t)) (sym same)
                  (subst (λ (u : ℕ). Contains next (Start worker u)) same_segment
                  (Contains-push history (Start worker s)));
              unfinished = subst (λ (u : ℕ). ¬ HasFinished next u) same_segment unfinished;
            }
        | inr apart ↦
            let was : Runs history w t =
            are.is_run w t (sym (entry-set_other running worker w (Some s) apart) ∙ h) in
            record {
              started = Contains-append_left history (Start worker s ∷ []) (Start w t) was.started;
              unfinished = λ f. was.unfinished (finished_was history worker s t f);
            }
      ];
      runs = λ w t h. elim (Contains-push_cases history (Start worker s) (Start w t) h.started) [
        | inl was ↦
            let runs : Runs history w t = record {
              started = was;
              unfinished = λ f. h.unfinished (finished_kept history (Start worker s) t f);
            } in
            entry-set_other running worker w (Some s)
            (λ same. may.idle t (subst (λ (v : ℕ). Runs history v t) same runs))
            ∙ are.runs w t runs
        | inr e ↦
            let by : worker ≡ w = cc in
            let of : s ≡ t = cc in
            subst (λ (v : ℕ). entry (slice_set running worker (Some s)) v ≡ Some t) by
            (entry-set_same running worker s (omega (arith, are.each, may.known))
            ∙ ap (λ u. Some u) of)
      ];
    }

values_after : (table : Table) (history : List Event) (value_of : ℕ → ℕ → ℕ → ℕ)
    (values : List (Option ℕ)) (worker s : ℕ)
    → AreValues table history value_of values
    → AreValues table (history ++ Start worker s ∷ []) value_of values
values_after table history value_of values worker s are = record {
  tell = record {
    each = are.tell.each;
    is_finished = λ t v h. finished_kept history (Start worker s) t (are.tell.is_finished t v h);
    has_value = λ t h. are.tell.has_value t (finished_was history worker s t h);
  };
  is_value = are.is_value;
}

pub has_room : (value_of : ℕ → ℕ → ℕ → ℕ) (table : Table) (history : List Event) (capacity : ℕ)
    (started : List Bool) (running : List (Option ℕ)) (values : List (Option ℕ))
    (graph : RecordedGraph) (successors : List (List ℕ)) (counts : List ℕ) (s : ℕ)
    → IsSound value_of table history capacity started running values graph successors counts
    → s < length table.segments
    → ¬ HasStarted history s
    → length history < capacity
has_room value_of table history capacity started running values graph successors counts s sound known
    not_started =
    let off : slice_get started s ≡ Some false =
    not_flagged table history started s sound.are_started known not_started in
    omega (
      arith,
      sound.counted,
      sound.reserved,
      sound.are_started.each,
      sound.are_values.tell.each,
      count_by_some_no (λ b. b) started s false off refl,
      count_by-le-length is_some values,
    )

pub sound_after_start : (value_of : ℕ → ℕ → ℕ → ℕ) (table : Table) (history : List Event)
    (capacity later : ℕ) (started : List Bool) (running : List (Option ℕ))
    (values : List (Option ℕ))
    (graph : RecordedGraph) (successors : List (List ℕ)) (counts : List ℕ) (worker s : ℕ)
    → IsSound value_of table history capacity started running values graph successors counts
    → MayStart table history worker s
    → capacity ≤ later
    → IsSound value_of table (history ++ Start worker s ∷ []) later (slice_set started s true)
    (slice_set running worker (Some s)) values graph successors counts
sound_after_start value_of table history capacity later started running values graph successors counts worker
    s sound may more =
    let off : slice_get started s ≡ Some false =
    not_flagged table history started s sound.are_started may.ready.known may.ready.not_started in
    record {
      sound_table = sound.sound_table;
      legal = legal_push table history (Start worker s) sound.legal may;
      are_started = started_after table history started worker s sound.are_started may.ready.known
          may.ready.not_started;
      are_running = running_after table history running worker s sound.legal sound.are_running may;
      are_values = values_after table history value_of values worker s sound.are_values;
      waits = sound.waits;
      counted = omega (
        arith,
        sound.counted,
        length-append history (Start worker s ∷ []),
        count_by-set (λ b. b) started s true false off refl refl,
      );
      reserved = omega (arith, sound.reserved);
    }
