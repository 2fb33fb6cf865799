-- What a core keeps is kept when a segment finishes.
use Rattle.std.proofs.Common.{ℕ, ◌<◌, ◌≤◌, ◌≡◌, ◌≢◌, Bool, List, [], ◌∷◌, ◌++◌, Option, Some}
use Rattle.std.proofs.Common.{None, length, take, refl, sym, ap, ◌∙◌, subst, arith, inl, inr}
use Rattle.std.proofs.Common.{get_or}
use Rattle.std.specs.Prelude.{slice_get, slice_set, Contains, is_some}
use Rattle.std.proofs.lemmas.Bool.{cases_eq}
use Rattle.std.proofs.lemmas.Option.{slice_get-get_or, same_Some, none-some}
use Rattle.std.proofs.lemmas.List.{length-set, length-append}
use Rattle.std.proofs.lemmas.List.Sums.{count_by-le-length}
use Rattle.std.proofs.lemmas.List.Elements.{Contains-append_left, Contains-push}
use Rattle.std.proofs.lemmas.List.Elements.{Contains-push_cases}
use Rattle.std.specs.Option.{option_flatten}
use Rattle.task_segments.specs.Table.{Table, segment}
use Rattle.task_segments.specs.Precedence.{MustPrecede}
use Rattle.dispatch_core.specs.declared.event.TheConstants.{MOST_WORKERS}
use Rattle.dispatch_core.specs.declared.event.Event.{Event}
use Rattle.dispatch_core.specs.declared.event.Event.TheVariants.{Start, Finish}
use Rattle.dispatch_core.specs.Result.{Computation}
use Rattle.dispatch_core.specs.Run.{Run, HasFinished, Runs, MayStart, IsLegalRun}
use Rattle.dispatch_core.specs.Values.{IsValue}
use Rattle.dispatch_core.specs.Values.IsValue.{Computes}
use Rattle.dispatch_core.specs.Refusals.{IsCost, MayFinish}
use Rattle.open_segments.specs.Entry.{entry}
use Rattle.dispatch_core.specs.Sound.{IsSound, AreStarted, AreRunning, AreValues}
use Rattle.dispatch_core.specs.RecordedGraph.{RecordedGraph}
use Rattle.dispatch_core.specs.Sound.{IsWaiting, TellFinished}
use Rattle.open_segments.proofs.PlaceLemmas.{entry-set_same, entry-set_none, entry-set_other}
use Rattle.open_segments.proofs.PlaceLemmas.{count_by-set, count_by_some_no}
use Rattle.dispatch_core.proofs.Histories.{finished_kept, started_kept, finished_cases, started_was}
use Rattle.dispatch_core.proofs.Histories.{legal_push, one_starter, get_at_place}
use Rattle.dispatch_core.proofs.Histories.{Contains-from_take}

-- a segment that was started is known, by a known worker, after all that must precede it
pub started_known : (table : Table) (history : List Event) (worker s : ℕ)
    → IsLegalRun table history
    → Contains history (Start worker s)
    → (worker < MOST_WORKERS) × (s < length table.segments)
started_known table history worker s legal h =
    let may : MayStart table (take h.0 history) worker s =
    legal h.0 (Start worker s) (get_at_place history (Start worker s) h) in
    (may.known, may.ready.known)

pub started_after_preds : (table : Table) (history : List Event) (worker s : ℕ)
    → IsLegalRun table history
    → Contains history (Start worker s)
    → (pred : ℕ)
    → MustPrecede table pred s
    → HasFinished history pred
started_after_preds table history worker s legal h pred edge =
    let may : MayStart table (take h.0 history) worker s =
    legal h.0 (Start worker s) (get_at_place history (Start worker s) h) in
    let done : HasFinished (take h.0 history) pred = may.ready.after pred edge in
    record {
      worker = done.worker;
      finished = Contains-from_take h.0 history (Finish done.worker pred) done.finished;
    }

-- what a worker runs is one of the program's segments, as a core stores them
pub runs_stored : (stored seen : Run) (worker s : ℕ)
    → stored ≡ seen
    → IsLegalRun stored.table stored.history
    → Runs seen.history worker s
    → s < length stored.table.segments
runs_stored stored seen worker s same legal runs =
    let Here : Run → Type 0 = λ run. Runs run.history worker s in
    (started_known stored.table stored.history worker s legal
    (subst Here (sym same) runs).started).1

-- and as contracts see them
pub runs_known : (stored seen : Run) (worker s : ℕ)
    → stored ≡ seen
    → IsLegalRun stored.table stored.history
    → Runs seen.history worker s
    → s < length seen.table.segments
runs_known stored seen worker s same legal runs =
    let Here : Run → Type 0 = λ run. s < length run.table.segments in
    subst Here same (runs_stored stored seen worker s same legal runs)

-- and all that must precede it is finished
pub runs_after : (stored seen : Run) (worker s : ℕ)
    → stored ≡ seen
    → IsLegalRun stored.table stored.history
    → Runs seen.history worker s
    → (pred : ℕ)
    → MustPrecede seen.table pred s
    → HasFinished seen.history pred
runs_after stored seen worker s same legal runs =
    let Here : Run → Type 0 = λ run. Runs run.history worker s in
    let After : Run → Type 0 = λ run.
    (pred : ℕ) → MustPrecede run.table pred s → HasFinished run.history pred in
    subst After same
    (started_after_preds stored.table stored.history worker s legal
    (subst Here (sym same) runs).started)

-- its cost is the one that is stored
pub runs_cost : (stored seen : Run) (worker s cost : ℕ)
    → stored ≡ seen
    → IsLegalRun stored.table stored.history
    → Runs seen.history worker s
    → cost ≡ (segment stored.table s).cost
    → IsCost seen.table s cost
runs_cost stored seen worker s cost same legal runs costs =
    let Here : Run → Type 0 = λ run. IsCost run.table s cost in
    subst Here same
    (record { known = runs_stored stored seen worker s same legal runs; costs = costs })

finishes : (history : List Event) (worker s : ℕ) → HasFinished (history ++ Finish worker s ∷ []) s
finishes history worker
    s = record { worker = worker; finished = Contains-push history (Finish worker s) }

started_after_finish : (table : Table) (history : List Event) (started : List Bool) (worker s : ℕ)
    → AreStarted table history started
    → AreStarted table (history ++ Finish worker s ∷ []) started
started_after_finish table history started worker s are = record {
  each = are.each;
  is_started = λ t h. started_kept history (Finish worker s) t (are.is_started t h);
  has_started = λ t h. are.has_started t (started_was history worker s t h);
}

start_was : (history : List Event) (worker s w t : ℕ)
    → Contains (history ++ Finish worker s ∷ []) (Start w t)
    → Contains history (Start w t)
start_was history worker s w t h =
    elim (Contains-push_cases history (Finish worker s) (Start w t) h) [
      | inl was ↦ was
      | inr e ↦ absurd (cc)
    ]

running_after_finish : (table : Table) (history : List Event) (running : List (Option ℕ))
    (worker s : ℕ)
    → IsLegalRun table history
    → AreRunning history running
    → Runs history worker s
    → AreRunning (history ++ Finish worker s ∷ []) (slice_set running worker None)
running_after_finish table history running worker s legal are runs =
    let next : List Event = history ++ Finish worker s ∷ [] in
    let within : worker < length running = let start_known =
    started_known table history worker s legal runs.started in
    omega (arith, are.each, start_known.0) in
    record {
      each = length-set running worker None ∙ are.each;
      is_run = λ w t h. elim (cases_eq w worker) [
        | inl same ↦ absurd (none-some t (sym (entry-set_none running worker within)
            ∙ subst (λ (v : ℕ). entry (slice_set running worker None) v ≡ Some t) same h))
        | inr apart ↦
            let was : Runs history w t =
            are.is_run w t (sym (entry-set_other running worker w None apart) ∙ h) in
            record {
              started = Contains-append_left history (Finish worker s ∷ []) (Start w t) was.started;
              unfinished = λ f. elim (finished_cases history worker s t f) [
                | inl before ↦ was.unfinished before
                | inr same ↦ apart (one_starter table history w worker s legal
                    (subst (λ (u : ℕ). Contains history (Start w u)) (sym same) was.started)
                    runs.started)
              ];
            }
      ];
      runs = λ w t h.
          let was : Runs history w t = record {
            started = start_was history worker s w t h.started;
            unfinished = λ f. h.unfinished (finished_kept history (Finish worker s) t f);
          } in
          let apart : w ≢ worker = λ same.
          let same_segment : s ≡ t = same_Some s t
          (sym (are.runs worker s runs) ∙ ap (entry running) (sym same) ∙ are.runs w t was) in
          h.unfinished (subst (HasFinished next) same_segment (finishes history worker s)) in
          entry-set_other running worker w None apart ∙ are.runs w t was;
    }

values_after_finish : (table : Table) (history : List Event) (value_of : ℕ → ℕ → ℕ → ℕ)
    (values : List (Option ℕ)) (worker s value : ℕ)
    → s < length table.segments
    → IsValue table value_of s value
    → AreValues table history value_of values
    → AreValues table (history ++ Finish worker s ∷ []) value_of (slice_set values s (Some value))
values_after_finish table history value_of values worker s value known is are =
    let within : s < length values = omega (arith, are.tell.each) in
    record {
      tell = record {
        each = length-set values s (Some value) ∙ are.tell.each;
        is_finished = λ t v h. elim (cases_eq t s) [
          | inl same ↦ subst (HasFinished (history ++ Finish worker s ∷ [])) (sym same)
              (finishes history worker s)
          | inr apart ↦ finished_kept history (Finish worker s) t
              (are.tell.is_finished t v (sym (entry-set_other values s t (Some value) apart) ∙ h))
        ];
        has_value = λ t h. elim (cases_eq t s) [
          | inl same ↦ (
            value,
            ap (entry (slice_set values s (Some value))) same
                ∙ entry-set_same values s value within,
          )
          | inr apart ↦ elim (finished_cases history worker s t h) [
            | inl before ↦ let found = are.tell.has_value t before in
                (found.0, entry-set_other values s t (Some value) apart ∙ found.1)
            | inr same ↦ absurd (apart (sym same))
          ]
        ];
      };
      is_value = λ t v h. elim (cases_eq t s) [
        | inl same ↦
            let same_value : value ≡ v =
            same_Some value v (sym (entry-set_same values s value within)
            ∙ subst (λ (u : ℕ). entry (slice_set values s (Some value)) u ≡ Some v) same h) in
            subst (λ (u : ℕ). IsValue table value_of u v) (sym same)
            (subst (IsValue table value_of s) same_value is)
        | inr apart ↦ are.is_value t v (sym (entry-set_other values s t (Some value) apart) ∙ h)
      ];
    }

-- a segment's value, from a result for its cost and its input
computed_value : (table : Table) (value_of : ℕ → ℕ → ℕ → ℕ) (history : List Event) (worker : ℕ)
    (result : Computation) (value : ℕ)
    → MayFinish table history value_of worker result
    → value ≡ value_of result.segment result.cost result.input
    → IsValue table value_of result.segment value
computed_value table value_of history worker result value may is =
    let finished : ℕ = result.segment in
    Computes finished value may.cost.known may.input.preds may.input.are_preds may.input.values
    may.input.are_values
    (is
    ∙ ap (λ (cost : ℕ). value_of finished cost result.input) may.cost.costs
    ∙ ap (value_of finished (segment table finished).cost) may.input.is_sum)

not_valued_at : (table : Table) (history : List Event) (value_of : ℕ → ℕ → ℕ → ℕ)
    (values : List (Option ℕ)) (s : ℕ) (found : Option ℕ)
    → AreValues table history value_of values
    → ¬ HasFinished history s
    → slice_get values s ≡ Some found
    → slice_get values s ≡ Some None
not_valued_at table history value_of values s None are unfinished at = at
not_valued_at table history value_of values s (Some v) are unfinished at =
    absurd (unfinished (are.tell.is_finished s v (ap option_flatten at)))

not_valued : (table : Table) (history : List Event) (value_of : ℕ → ℕ → ℕ → ℕ)
    (values : List (Option ℕ)) (s : ℕ)
    → AreValues table history value_of values
    → s < length table.segments
    → ¬ HasFinished history s
    → slice_get values s ≡ Some None
not_valued table history value_of values s are known unfinished =
    let at : slice_get values s ≡ Some (get_or values s None) =
    slice_get-get_or values s None (omega (arith, are.tell.each)) in
    not_valued_at table history value_of values s (get_or values s None) are unfinished at

-- a segment that is not finished has no value
pub no_entry : (found : Option ℕ) → ((v : ℕ) → ¬ (found ≡ Some v)) → found ≡ None
no_entry None none = refl
no_entry (Some v) none = absurd (none v refl)

pub no_value : (table : Table) (history : List Event) (value_of : ℕ → ℕ → ℕ → ℕ)
    (values : List (Option ℕ)) (s : ℕ)
    → AreValues table history value_of values
    → ¬ HasFinished history s
    → entry values s ≡ None
no_value table history value_of values s are unfinished =
    no_entry (entry values s) (λ v is. unfinished (are.tell.is_finished s v is))

pub has_room_to_finish : (value_of : ℕ → ℕ → ℕ → ℕ) (table : Table) (history : List Event)
    (capacity : ℕ) (started : List Bool) (running : List (Option ℕ)) (values : List (Option ℕ))
    (graph : RecordedGraph) (successors : List (List ℕ)) (counts : List ℕ) (worker s : ℕ)
    → IsSound value_of table history capacity started running values graph successors counts
    → Runs history worker s
    → length history < capacity
has_room_to_finish value_of table history capacity started running values graph successors counts worker s
    sound runs =
    let known = started_known table history worker s sound.legal runs.started in
    let off : slice_get values s ≡ Some None =
    not_valued table history value_of values s sound.are_values known.1 runs.unfinished in
    omega (
      arith,
      sound.counted,
      sound.reserved,
      sound.are_started.each,
      sound.are_values.tell.each,
      count_by_some_no is_some values s None off refl,
      count_by-le-length (λ (b : Bool). b) started,
    )

pub sound_after_finish : (value_of : ℕ → ℕ → ℕ → ℕ) (table : Table) (history : List Event)
    (capacity later : ℕ) (started : List Bool) (running : List (Option ℕ))
    (values : List (Option ℕ))
    (graph : RecordedGraph) (successors : List (List ℕ)) (counts after : List ℕ)
    (worker : ℕ) (result : Computation) (value : ℕ)
    → IsSound value_of table history capacity started running values graph successors counts
    → MayFinish table history value_of worker result
    → value ≡ value_of result.segment result.cost result.input
    → IsWaiting table (slice_set values result.segment (Some value)) graph successors after
    → capacity ≤ later
    → IsSound value_of table (history ++ Finish worker result.segment ∷ []) later started
    (slice_set running worker None) (slice_set values result.segment (Some value)) graph successors after
sound_after_finish value_of table history capacity later started running values graph successors counts after
    worker result value sound may is waits more =
    let finished : ℕ = result.segment in
    let known = started_known table history worker finished sound.legal may.runs.started in
    let off : slice_get values finished ≡ Some None =
    not_valued table history value_of values finished sound.are_values known.1
    may.runs.unfinished in
    record {
      sound_table = sound.sound_table;
      legal = legal_push table history (Finish worker finished) sound.legal may.runs;
      are_started = started_after_finish table history started worker finished sound.are_started;
      are_running = running_after_finish table history running worker finished sound.legal
          sound.are_running may.runs;
      are_values = values_after_finish table history value_of values worker finished value known.1
          (computed_value table value_of history worker result value may is) sound.are_values;
      waits = waits;
      counted = omega (
        arith,
        sound.counted,
        length-append history (Finish worker finished ∷ []),
        count_by-set is_some values finished (Some value) None off refl refl,
      );
      reserved = omega (arith, sound.reserved);
    }

-- the values after a finish
pub tell_after : (table : Table) (history : List Event) (value_of : ℕ → ℕ → ℕ → ℕ)
    (values : List (Option ℕ)) (worker : ℕ) (result : Computation) (value : ℕ)
    → IsLegalRun table history
    → AreValues table history value_of values
    → MayFinish table history value_of worker result
    → value ≡ value_of result.segment result.cost result.input
    → TellFinished (length table.segments) (history ++ Finish worker result.segment ∷ [])
    (slice_set values result.segment (Some value))
tell_after table history value_of values worker result value legal are may is =
    let known = started_known table history worker result.segment legal may.runs.started in
    (values_after_finish table history value_of values worker result.segment value known.1
    (computed_value table value_of history worker result value may is) are).tell
