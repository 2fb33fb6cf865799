-- The shares of the time of a run's threads.
use Rattle.std.proofs.Common.{◌≡◌, ℕ, ◌+◌, ◌-◌, ◌*◌, ◌<◌, ◌≤◌, inl, inr, Bool, true, false, cond}
use Rattle.std.proofs.Common.{length, sum, ap, sym, ◌∙◌, arith, nat_eq, mul-le-mul_left}
use Rattle.std.proofs.lemmas.Bool.{cases_Bool, cases_lt, cond-true, cond-false, eqb-true, eqb-false}
use Rattle.std.proofs.lemmas.Bool.{both_ways, false_from_ne_true}
use Rattle.std.proofs.Common.{get_or}
use Rattle.std.proofs.lemmas.List.FromFn.{length-range_with_len, get_or-range_with_len}
use Rattle.std.proofs.lemmas.List.Sums.{get_or-le-sum_by}
use Rattle.time_accounts.specs.Shares.{moments}
use Rattle.task_segments.specs.Schedule.{end_of}
use Rattle.task_segments.specs.StartsAndTails.{IsAscending}
use Rattle.dispatch_core.specs.RecordedGraph.{RecordedGraph, Precedes}
use Rattle.greedy_sim.specs.Greedy.{IsGreedy}
use Rattle.greedy_sim.proofs.Sums.{total-le, total-scale, one_if}
use Rattle.time_accounts.specs.TimedRun.{TimedRun, IsTimedRun, durations}
use Rattle.time_accounts.specs.Shares.{running, ready, is_outside, Shares, shares_at, shares_of}
use Rattle.time_accounts.specs.Shares.{ready_moments}
use Rattle.greedy_sim.proofs.Stopped.{BoundsChains}
use Rattle.greedy_sim.proofs.Stopped.{IsStopped, some_runs, passing, passing-ends}
use Rattle.greedy_sim.proofs.Stopped.{passing-le-span}
use Rattle.time_accounts.proofs.Within.{within_found}
use Rattle.time_accounts.proofs.Totals.{over_moments, over_moments-le, total-equal, total-none}
use Rattle.time_accounts.proofs.Totals.{four_sums}
use Rattle.time_accounts.proofs.TimedRuns.{few, total_running, runs_as_schedule, each_duration}
use Rattle.time_accounts.proofs.ReadyMoments.{none_ready, is_ready}
use Rattle.time_accounts.proofs.Outside.{none_outside, before_end}

-- the shares of a moment, by its kind
abbrev pub when_outside : ℕ → Shares
when_outside p = record { busy = 0; delayed = 0; starved = 0; outside = p }

abbrev pub when_starved : ℕ → ℕ → Shares
when_starved p runs = record { busy = runs; delayed = 0; starved = p - runs; outside = 0 }

abbrev pub when_delayed : ℕ → ℕ → Shares
when_delayed p runs = record { busy = runs; delayed = p - runs; starved = 0; outside = 0 }

-- the kinds
pub data Kind (graph : RecordedGraph) (p : ℕ) (run : TimedRun) (m : ℕ) : Type 0 where
  Outside : is_outside run m ≡ true → shares_at graph p run m ≡ when_outside p
      → Kind graph p run m
  Starved : is_outside run m ≡ false → ready graph run m ≡ 0
      → shares_at graph p run m ≡ when_starved p (running run m) → Kind graph p run m
  Delayed : is_outside run m ≡ false → 1 ≤ ready graph run m
      → shares_at graph p run m ≡ when_delayed p (running run m) → Kind graph p run m

pub kind_of : (graph : RecordedGraph) (p : ℕ) (run : TimedRun) (m : ℕ) → Kind graph p run m
kind_of graph p run m =
    let inner : Shares = cond (nat_eq (ready graph run m) 0)
    (when_starved p (running run m)) (when_delayed p (running run m)) in
    elim (cases_Bool (is_outside run m)) [
      | inl out ↦ Outside out (cond-true (is_outside run m) (when_outside p) inner out)
      | inr not_out ↦ elim (cases_Bool (nat_eq (ready graph run m) 0)) [
        | inl none ↦ Starved not_out (eqb-true (ready graph run m) 0 none)
            (cond-false (is_outside run m) (when_outside p) inner not_out
            ∙ cond-true (nat_eq (ready graph run m) 0) (when_starved p (running run m))
            (when_delayed p (running run m)) none)
        | inr some ↦ Delayed not_out
            (elim (cases_lt 0 (ready graph run m)) [
              | inl l ↦ l
              | inr none ↦ absurd (eqb-false (ready graph run m) 0 some (omega arith))
            ])
            (cond-false (is_outside run m) (when_outside p) inner not_out
            ∙ cond-false (nat_eq (ready graph run m) 0) (when_starved p (running run m))
            (when_delayed p (running run m)) some)
      ]
    ]

busy_part : {s t : Shares} → s ≡ t → s.busy ≡ t.busy
busy_part e = ap (λ (x : Shares). x.busy) e

pub delayed_part : {s t : Shares} → s ≡ t → s.delayed ≡ t.delayed
delayed_part e = ap (λ (x : Shares). x.delayed) e

pub starved_part : {s t : Shares} → s ≡ t → s.starved ≡ t.starved
starved_part e = ap (λ (x : Shares). x.starved) e

pub outside_part : {s t : Shares} → s ≡ t → s.outside ≡ t.outside
outside_part e = ap (λ (x : Shares). x.outside) e

-- at a moment they are p together
adds_up_at : (graph : RecordedGraph) (p : ℕ) (run : TimedRun) (m : ℕ) → running run m ≤ p
    → (shares_at graph p run m).busy + (shares_at graph p run m).delayed
    + (shares_at graph p run m).starved + (shares_at graph p run m).outside ≡ p
adds_up_at graph p run m h =
    elim (kind_of graph p run m) [
      | Outside out e ↦
          omega (arith, busy_part e, delayed_part e, starved_part e, outside_part e)
      | Starved out none e ↦
          omega (arith, h, busy_part e, delayed_part e, starved_part e, outside_part e)
      | Delayed out some e ↦
          omega (arith, h, busy_part e, delayed_part e, starved_part e, outside_part e)
    ]

-- what is busy is what runs
busy_at : (graph : RecordedGraph) (p : ℕ) (run : TimedRun) (m : ℕ)
    → (shares_at graph p run m).busy ≡ running run m
busy_at graph p run m =
    elim (kind_of graph p run m) [
      | Outside out e ↦ busy_part e ∙ sym (none_outside run m out)
      | Starved out none e ↦ busy_part e
      | Delayed out some e ↦ busy_part e
    ]

pub shares_sum : (graph : RecordedGraph) {n : ℕ} {R : ℕ → ℕ → Type 0} {p first last : ℕ}
    {run : TimedRun}
    → IsTimedRun n R p first last run
    → (shares_of graph p first last run).busy + (shares_of graph p first last run).delayed
    + (shares_of graph p first last run).starved + (shares_of graph p first last run).outside
    ≡ p * (last - first)
shares_sum graph {n} {R} {p} {first} {last} {run} timed =
    four_sums (λ m. (shares_at graph p run m).busy) (λ m. (shares_at graph p run m).delayed)
    (λ m. (shares_at graph p run m).starved) (λ m. (shares_at graph p run m).outside)
    p first last timed.in_time (λ m. adds_up_at graph p run m (few m timed))

-- before the first moment nothing runs
none_before : {n : ℕ} {R : ℕ → ℕ → Type 0} {p first last : ℕ} {run : TimedRun} (m : ℕ)
    → IsTimedRun n R p first last run
    → m < first
    → running run m ≡ 0
none_before {n} {R} {p} {first} {last} {run} m timed h =
    elim (cases_lt 0 (running run m)) [
      | inr none ↦ omega arith
      | inl some ↦
          let found = within_found run.begins run.ends m some in
          absurd (omega (
            arith,
            h,
            found.1.from_then,
            timed.after_first found.0 (omega (arith, found.1.inside, timed.each_begin)),
          ))
    ]

pub busy_sum : (graph : RecordedGraph) {n : ℕ} {R : ℕ → ℕ → Type 0} {p first last : ℕ}
    {run : TimedRun}
    → IsTimedRun n R p first last run
    → (shares_of graph p first last run).busy ≡ sum (durations run)
busy_sum graph {n} {R} {p} {first} {last} {run} timed =
    omega (
      arith,
      over_moments (λ m. (shares_at graph p run m).busy) first last timed.in_time,
      total-equal (λ m. (shares_at graph p run m).busy) (running run) last
          (λ m l. busy_at graph p run m),
      total-none (λ m. (shares_at graph p run m).busy) first
          (λ m l. busy_at graph p run m ∙ none_before m timed l),
      total_running timed,
    )

-- moments inside at which no segment is ready
abbrev pub none_is_ready : RecordedGraph → TimedRun → ℕ → Bool
none_is_ready graph run m = cond (is_outside run m) false (nat_eq (ready graph run m) 0)

inside_and_none : (graph : RecordedGraph) (run : TimedRun) (m : ℕ)
    → none_is_ready graph run m ≡ true
    → (is_outside run m ≡ false) × (ready graph run m ≡ 0)
inside_and_none graph run m h =
    elim (cases_Bool (is_outside run m)) [
      | inl out ↦ absurd (both_ways (none_is_ready graph run m)
          (cond-true (is_outside run m) false (nat_eq (ready graph run m) 0) out) h)
      | inr not_out ↦ (
        not_out,
        eqb-true (ready graph run m) 0
            (sym (cond-false (is_outside run m) false (nat_eq (ready graph run m) 0) not_out) ∙ h),
      )
    ]

stopped : (graph : RecordedGraph) {n p first last : ℕ} {run : TimedRun}
    → IsAscending (Precedes graph)
    → length graph.predecessors ≡ n
    → IsTimedRun n (Precedes graph) p first last run
    → IsStopped (durations run) (Precedes graph) run.begins (none_is_ready graph run)
stopped graph {n} {p} {first} {last} {run} asc each timed = record {
  begun = λ s m h holds ready_by.
      none_ready graph m s asc each timed (inside_and_none graph run m holds).1
      (omega (arith, h, each_duration timed)) ready_by;
}

some_run_at : (graph : RecordedGraph) {n p first last : ℕ} {run : TimedRun} (m : ℕ)
    → IsAscending (Precedes graph)
    → length graph.predecessors ≡ n
    → IsTimedRun n (Precedes graph) p first last run
    → none_is_ready graph run m ≡ true
    → 1 ≤ running run m
some_run_at graph {n} {p} {first} {last} {run} m asc each timed holds =
    omega (
      arith,
      some_runs asc (timed.each_begin ∙ sym (each_duration timed)) (stopped graph asc each timed) m holds
          (before_end m timed (inside_and_none graph run m holds).0),
      runs_as_schedule m timed,
    )

none_is_ready_yes : (graph : RecordedGraph) (run : TimedRun) (m : ℕ) → is_outside run m ≡ false
    → ready graph run m ≡ 0
    → none_is_ready graph run m ≡ true
none_is_ready_yes graph run m out none =
    cond-false (is_outside run m) false (nat_eq (ready graph run m) 0) out
    ∙ ap (λ (x : ℕ). nat_eq x 0) none

-- nothing runs and nothing is ready only outside
pub run_or_ready : (graph : RecordedGraph) {n p first last : ℕ} {run : TimedRun} (m : ℕ)
    → IsAscending (Precedes graph)
    → length graph.predecessors ≡ n
    → IsTimedRun n (Precedes graph) p first last run
    → is_outside run m ≡ false
    → 1 ≤ running run m + ready graph run m
run_or_ready graph {n} {p} {first} {last} {run} m asc each timed out =
    elim (cases_lt 0 (ready graph run m)) [
      | inl some ↦ omega arith
      | inr none ↦
          omega (
            arith,
            some_run_at graph m asc each timed
                (none_is_ready_yes graph run m out (omega (arith, none))),
          )
    ]

-- what is starved at a moment is at most p - 1, and only where none is ready
starved_at : (graph : RecordedGraph) {n p first last : ℕ} {run : TimedRun} (m : ℕ)
    → IsAscending (Precedes graph)
    → length graph.predecessors ≡ n
    → IsTimedRun n (Precedes graph) p first last run
    → (shares_at graph p run m).starved ≤ (p - 1) * one_if (none_is_ready graph run m)
starved_at graph {n} {p} {first} {last} {run} m asc each timed =
    elim (kind_of graph p run m) [
      | Outside out e ↦ omega (arith, starved_part e)
      | Delayed out some e ↦ omega (arith, starved_part e)
      | Starved out none e ↦
          let holds = none_is_ready_yes graph run m out none in
          let whole : (p - 1) * one_if (none_is_ready graph run m) ≡ p - 1 =
          ap (λ (b : Bool). (p - 1) * one_if b) holds ∙ omega arith in
          omega (arith, starved_part e, whole, some_run_at graph m asc each timed holds)
    ]

-- no segment is ready while the threads starve, so the starved moments are at most the span
pub starved-le : (graph : RecordedGraph) {n p first last span : ℕ} {run : TimedRun}
    → IsAscending (Precedes graph)
    → length graph.predecessors ≡ n
    → IsTimedRun n (Precedes graph) p first last run
    → BoundsChains (durations run) (Precedes graph) span
    → (shares_of graph p first last run).starved ≤ (p - 1) * span
starved-le graph {n} {p} {first} {last} {span} {run} asc each timed bounds =
    let S : ℕ → Bool = none_is_ready graph run in
    let end = end_of (durations run) run.begins in
    let few_moments : passing S last ≤ span = omega (
      arith,
      passing-ends S end (λ m over. false_from_ne_true (S m) (λ holds.
          omega (arith, over, before_end m timed (inside_and_none graph run m holds).0))) last,
      passing-le-span (durations run) (Precedes graph) span run.begins S asc
          (stopped graph asc each timed) bounds,
    ) in
    omega (
      arith,
      over_moments-le (λ m. (shares_at graph p run m).starved) first last timed.in_time,
      total-le (λ m. (shares_at graph p run m).starved) (λ m. (p - 1) * one_if (S m)) last
          (λ m l. starved_at graph m asc each timed),
      total-scale (p - 1) (λ m. one_if (S m)) last,
      mul-le-mul_left (p - 1) few_moments,
    )

pub lasts-le : (graph : RecordedGraph) {n p first last span : ℕ} {run : TimedRun}
    → IsAscending (Precedes graph)
    → length graph.predecessors ≡ n
    → IsTimedRun n (Precedes graph) p first last run
    → BoundsChains (durations run) (Precedes graph) span
    → p * (last - first)
    ≤ sum (durations run) + (p - 1) * span + (shares_of graph p first last run).delayed
    + (shares_of graph p first last run).outside
lasts-le graph {n} {p} {first} {last} {span} {run} asc each timed bounds =
    omega (
      arith,
      shares_sum graph timed,
      busy_sum graph timed,
      starved-le graph asc each timed bounds,
    )

-- a greedy run delays none
delayed_at : (graph : RecordedGraph) {n p first last : ℕ} {run : TimedRun} (m : ℕ)
    → IsAscending (Precedes graph)
    → IsTimedRun n (Precedes graph) p first last run
    → IsGreedy (durations run) (Precedes graph) p run.begins
    → (shares_at graph p run m).delayed ≡ 0
delayed_at graph {n} {p} {first} {last} {run} m asc timed greedy =
    elim (kind_of graph p run m) [
      | Outside out e ↦ delayed_part e
      | Starved out none e ↦ delayed_part e
      | Delayed out some e ↦
          let found = within_found (ready_moments graph run) run.begins m some in
          let inside : found.0 < n = omega (arith, found.1.in_tos, timed.each_begin) in
          elim (cases_lt (running run m) p) [
            | inr full ↦ omega (arith, delayed_part e)
            | inl fewer ↦ absurd (omega (
              arith,
              found.1.before,
              greedy.no_idle found.0 m (omega (arith, inside, each_duration timed))
                  (omega (arith, fewer, runs_as_schedule m timed))
                  (is_ready graph m found.0 asc timed inside found.1),
            ))
          ]
    ]

pub delayed_none : (graph : RecordedGraph) {n p first last : ℕ} {run : TimedRun}
    → IsAscending (Precedes graph)
    → IsTimedRun n (Precedes graph) p first last run
    → IsGreedy (durations run) (Precedes graph) p run.begins
    → (shares_of graph p first last run).delayed ≡ 0
delayed_none graph {n} {p} {first} {last} {run} asc timed greedy =
    omega (
      arith,
      over_moments-le (λ m. (shares_at graph p run m).delayed) first last timed.in_time,
      total-none (λ m. (shares_at graph p run m).delayed) last
          (λ m l. delayed_at graph m asc timed greedy),
    )

-- where nothing is delayed, all threads run while a segment is ready
pub none_delayed : (graph : RecordedGraph) {n : ℕ} {R : ℕ → ℕ → Type 0} {p first last : ℕ}
    {run : TimedRun} (m : ℕ)
    → IsTimedRun n R p first last run
    → (shares_of graph p first last run).delayed ≡ 0
    → first ≤ m
    → m < last
    → is_outside run m ≡ false
    → 1 ≤ ready graph run m
    → running run m ≡ p
none_delayed graph {n} {R} {p} {first} {last} {run} m timed none after before inside some =
    elim (kind_of graph p run m) [
      | Outside out e ↦ absurd (both_ways (is_outside run m) inside out)
      | Starved in_m none_ready e ↦ absurd (omega (arith, some, none_ready))
      | Delayed in_m some_ready e ↦
          let f : ℕ → ℕ = λ k. (shares_at graph p run k).delayed in
          let place : m - first < length (moments first last) =
          omega (arith, length-range_with_len first (last - first), after, before) in
          let here : get_or (moments first last) (m - first) 0 ≡ m =
          get_or-range_with_len first (last - first) (m - first) 0 (omega (arith, after, before))
          ∙ omega arith in
          omega (
            arith,
            few m timed,
            delayed_part e,
            ap f here,
            get_or-le-sum_by f (moments first last) (m - first) 0 place,
            none,
          )
    ]
