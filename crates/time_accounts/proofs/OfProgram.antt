-- Two relations of precedence, of which the one lies within the other, and joins by its chains what
-- the other orders: they have the same timed runs, and the same segments are ready.
use Rattle.std.proofs.Common.{ℕ, ◌<◌, ◌≤◌, List, arith}
use Rattle.task_segments.specs.Schedule.{at}
use Rattle.task_segments.specs.StartsAndTails.{IsAscending}
use Rattle.task_segments.proofs.Reaches.{Reaches, waits_along}
use Rattle.task_segments.proofs.Schedules.{chain_within}
use Rattle.greedy_sim.specs.Greedy.{ReadyBy}
use Rattle.greedy_sim.proofs.SameGreedy.{ended_along}
use Rattle.greedy_sim.proofs.Stopped.{BoundsChains}
use Rattle.time_accounts.specs.TimedRun.{TimedRun, IsTimedRun, AreInOrder, durations}
use Rattle.time_accounts.proofs.TimedRuns.{is_schedule, ends_after, each_duration}

-- what leads to t by a chain has ended when t begins
ended_before : {n : ℕ} {Q : ℕ → ℕ → Type 0} {p first last : ℕ} {run : TimedRun}
    → IsAscending Q
    → IsTimedRun n Q p first last run
    → (r t : ℕ)
    → t < n
    → r < t
    → Reaches Q r t
    → at run.ends r ≤ at run.begins t
ended_before {n} {Q} {p} {first} {last} {run} asc timed r t inside less way =
    omega (
      arith,
      ends_after r timed (omega (arith, inside, less)),
      waits_along (durations run) Q run.begins (is_schedule asc timed) asc.up r t less way
          (omega (arith, inside, each_duration timed)),
    )

-- the same run, where another relation is kept too
in_order : {n : ℕ} {P Q : ℕ → ℕ → Type 0} {p first last : ℕ} {run : TimedRun}
    → IsTimedRun n P p first last run
    → AreInOrder n Q run
    → IsTimedRun n Q p first last run
in_order timed kept = record {
  each_thread = timed.each_thread;
  each_begin = timed.each_begin;
  each_end = timed.each_end;
  in_time = timed.in_time;
  on_thread = timed.on_thread;
  after_first = timed.after_first;
  forward = timed.forward;
  before_last = timed.before_last;
  kept = kept;
  apart = timed.apart;
}

module _ (R Q : ℕ → ℕ → Type 0) (forward : (s t : ℕ) → R s t → s < t)
    (within : (s t : ℕ) → Q s t → R s t)
    (ways : (s t : ℕ) → R s t → Reaches Q s t) where
  asc : IsAscending Q
  asc = record { up = λ s t pair. forward s t (within s t pair) }

  pub there : {n p first last : ℕ} {run : TimedRun} → IsTimedRun n R p first last run
      → IsTimedRun n Q p first last run
  there timed = in_order timed (λ s t h pair. timed.kept s t h (within s t pair))

  pub back : {n p first last : ℕ} {run : TimedRun} → IsTimedRun n Q p first last run
      → IsTimedRun n R p first last run
  back timed = in_order timed
      (λ s t h pair. ended_before asc timed s t h (forward s t pair) (ways s t pair))

  pub ready_there : (run : TimedRun) (s m : ℕ) → ReadyBy (durations run) R run.begins s m
      → ReadyBy (durations run) Q run.begins s m
  ready_there run s m ready r pair = ready r (within r s pair)

  pub ready_back : {n p first last : ℕ} {run : TimedRun} (s m : ℕ)
      → IsTimedRun n Q p first last run
      → s < n
      → ReadyBy (durations run) Q run.begins s m
      → ReadyBy (durations run) R run.begins s m
  ready_back {n} {p} {first} {last} {run} s m timed inside ready r pair =
      ended_along (durations run) Q run.begins (is_schedule asc timed) asc.up r s m ready
      (omega (arith, inside, each_duration timed)) (forward r s pair) (ways r s pair)

  pub bounds_there : (costs : List ℕ) (bound : ℕ) → BoundsChains costs R bound
      → BoundsChains costs Q bound
  bounds_there costs bound bounds chain segments linked =
      bounds chain segments (chain_within Q R within chain linked)
