-- A timed run as a schedule of its durations.
use Rattle.std.proofs.Common.{◌≡◌, ℕ, ◌+◌, ◌<◌, ◌≤◌, length, Option, Some, sum, refl, sym, ◌∙◌}
use Rattle.std.proofs.Common.{arith}
use Rattle.std.proofs.lemmas.Map.Steps.{length-le_from_distinct_below}
use Rattle.task_segments.specs.Schedule.{at, end_of, IsLegal}
use Rattle.task_segments.specs.StartsAndTails.{IsAscending}
use Rattle.task_segments.proofs.Schedules.{end_of-least}
use Rattle.greedy_sim.specs.Greedy.{running_count, IsLegalOn}
use Rattle.greedy_sim.proofs.Sums.{total, total-running}
use Rattle.greedy_sim.proofs.ThreadsUsed.{running_threads, runs_from_to, same_thread}
use Rattle.time_accounts.specs.TimedRun.{TimedRun, IsTimedRun, durations}
use Rattle.time_accounts.specs.Shares.{running}
use Rattle.time_accounts.proofs.Within.{length-differences, at-differences, within_running}
use Rattle.time_accounts.proofs.Totals.{total-equal}

pub each_duration : {n : ℕ} {R : ℕ → ℕ → Type 0} {p first last : ℕ} {run : TimedRun}
    → IsTimedRun n R p first last run → length (durations run) ≡ n
each_duration {n} {R} {p} {first} {last} {run} timed =
    omega (
      arith,
      length-differences run.ends run.begins (timed.each_begin ∙ sym timed.each_end),
      timed.each_end,
    )

-- a begin and the duration are the end
pub ends_after : {n : ℕ} {R : ℕ → ℕ → Type 0} {p first last : ℕ} {run : TimedRun} (s : ℕ)
    → IsTimedRun n R p first last run
    → s < n
    → at run.begins s + at (durations run) s ≡ at run.ends s
ends_after {n} {R} {p} {first} {last} {run} s timed h =
    omega (
      arith,
      at-differences run.ends run.begins s (timed.each_begin ∙ sym timed.each_end)
          (omega (arith, timed.each_end, h)),
      timed.forward s h,
    )

pub is_schedule : {n : ℕ} {R : ℕ → ℕ → Type 0} {p first last : ℕ} {run : TimedRun} → IsAscending R
    → IsTimedRun n R p first last run
    → IsLegal (durations run) R run.begins
is_schedule {n} {R} {p} {first} {last} {run} asc timed = record {
  each = timed.each_begin ∙ sym (each_duration timed);
  kept = λ s t h pred.
      let inside : t < n = omega (arith, h, each_duration timed) in
      omega (
        arith,
        timed.kept s t inside pred,
        ends_after s timed (omega (arith, asc.up s t pred, inside)),
      );
}

pub runs_as_schedule : {n : ℕ} {R : ℕ → ℕ → Type 0} {p first last : ℕ} {run : TimedRun} (m : ℕ)
    → IsTimedRun n R p first last run
    → running run m ≡ running_count (durations run) run.begins m
runs_as_schedule {n} {R} {p} {first} {last} {run} m timed =
    within_running run.begins run.ends m (timed.each_end ∙ sym timed.each_begin)
    (λ s h. timed.forward s (omega (arith, h, timed.each_begin)))

pub few : {n : ℕ} {R : ℕ → ℕ → Type 0} {p first last : ℕ} {run : TimedRun} (m : ℕ)
    → IsTimedRun n R p first last run
    → running run m ≤ p
few {n} {R} {p} {first} {last} {run} m timed =
    let T : ℕ → Option ℕ = λ s. Some (at run.threads s) in
    let found = running_threads (durations run) run.begins T m
    (λ s inside runs. (at run.threads s, refl))
    (λ s t k less one other.
    let in_s : s < n = omega (arith, one.inside, each_duration timed) in
    let in_t : t < n = omega (arith, other.inside, each_duration timed) in
    let at_s = runs_from_to m (at (durations run) s) (at run.begins s) one.runs in
    let at_t = runs_from_to m (at (durations run) t) (at run.begins t) other.runs in
    let same : at run.threads t ≡ at run.threads s = same_thread (other.on ∙ sym one.on) in
    timed.apart t s m less in_s same (at_t.0, omega (arith, at_t.1, ends_after t timed in_t))
    (at_s.0, omega (arith, at_s.1, ends_after s timed in_s))) in
    let at_most = length-le_from_distinct_below found.threads p found.distinct
    (λ k h. let one = found.of_one k h in
    omega (
      arith,
      timed.on_thread one.0 (omega (arith, one.1.inside, each_duration timed)),
      same_thread one.1.on,
    )) in
    omega (arith, at_most, found.each, runs_as_schedule m timed)

pub legal_on : {n : ℕ} {R : ℕ → ℕ → Type 0} {p first last : ℕ} {run : TimedRun} → IsAscending R
    → IsTimedRun n R p first last run
    → IsLegalOn (durations run) R p run.begins
legal_on {n} {R} {p} {first} {last} {run} asc timed = record {
  legal = is_schedule asc timed;
  on_threads = λ m. omega (arith, few m timed, runs_as_schedule m timed);
}

-- it ends by the last moment
pub ends_by_last : {n : ℕ} {R : ℕ → ℕ → Type 0} {p first last : ℕ} {run : TimedRun}
    → IsTimedRun n R p first last run
    → end_of (durations run) run.begins ≤ last
ends_by_last {n} {R} {p} {first} {last} {run} timed =
    end_of-least (durations run) run.begins last
    (λ s h. let inside : s < n = omega (arith, h, each_duration timed) in
    omega (arith, ends_after s timed inside, timed.before_last s inside))

-- what runs, summed up to the last moment, is the sum of the durations
pub total_running : {n : ℕ} {R : ℕ → ℕ → Type 0} {p first last : ℕ} {run : TimedRun}
    → IsTimedRun n R p first last run
    → total (running run) last ≡ sum (durations run)
total_running {n} {R} {p} {first} {last} {run} timed =
    let same : total (running run) last ≡ total (running_count (durations run) run.begins) last =
    total-equal (running run) (running_count (durations run) run.begins) last
    (λ m l. runs_as_schedule m timed) in
    same ∙ total-running (durations run) run.begins last
    (timed.each_begin ∙ sym (each_duration timed)) (ends_by_last timed)
