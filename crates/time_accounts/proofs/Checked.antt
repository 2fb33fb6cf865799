-- What is left of the times of a run when they have been checked.
use Rattle.std.proofs.Common.{◌≡◌, ℕ, ◌≤◌, inl, inr, refl, ap, arith, Result, Ok, Err, IfErr}
use Rattle.std.proofs.Common.{OnErr, IsErrOf}
use Rattle.program_text.specs.declared.limits.TheConstants.{MOST_WORK}
use Rattle.time_accounts.specs.declared.fault.TimesFault.{TimesFault}
use Rattle.time_accounts.specs.declared.fault.TimesFault.TheVariants.{ThreadCount, Moments, Count}
use Rattle.time_accounts.specs.declared.fault.TimesFault.TheVariants.{NoThread, EndsEarly, OutOfTime}
use Rattle.time_accounts.specs.declared.fault.TimesFault.TheVariants.{TooSoon, NotApart, OutOfMemory}
use Rattle.time_accounts.specs.TimedRun.{TimedRun, IsTimedRun, AreInOrder, AreApart}
use Rattle.time_accounts.specs.Faults.{IsThreadCount, IsRanged, IsTimesFault}
use Rattle.time_accounts.proofs.Taking.{overlap-not_apart}

-- the parts are a legal run
pub timed_run : {n : ℕ} {R : ℕ → ℕ → Type 0} {p first last : ℕ} {run : TimedRun}
    → IsRanged n p first last run
    → AreInOrder n R run
    → AreApart n run
    → IsTimedRun n R p first last run
timed_run ranged in_order apart = record {
  each_thread = ranged.counted.each.each_thread;
  each_begin = ranged.counted.each.each_begin;
  each_end = ranged.counted.each.each_end;
  in_time = ranged.counted.moments.in_time;
  on_thread = λ s h. (ranged.ranges s h).on_thread;
  after_first = λ s h. (ranged.ranges s h).after_first;
  forward = λ s h. (ranged.ranges s h).forward;
  before_last = λ s h. (ranged.ranges s h).before_last;
  kept = in_order;
  apart = apart;
}

-- a legal run within the limits is refused only where memory runs out
pub only_memory : (n : ℕ) (R : ℕ → ℕ → Type 0) (p first last : ℕ) (run : TimedRun)
    (fault : TimesFault)
    → IsThreadCount p
    → last ≤ MOST_WORK
    → IsTimedRun n R p first last run
    → IsTimesFault n R p first last run fault
    → fault ≡ OutOfMemory
only_memory n R p first last run ThreadCount few soon timed told = absurd (told few)
only_memory n R p first last run Moments few soon timed told =
    absurd (told.1 (record { in_time = timed.in_time; soon = soon }))
only_memory n R p first last run Count few soon timed told = absurd (told.2 (record {
  each_thread = timed.each_thread;
  each_begin = timed.each_begin;
  each_end = timed.each_end;
}))
only_memory n R p first last run (NoThread s) few soon timed told =
    absurd (omega (arith, timed.on_thread s told.0.inside, told.1))
only_memory n R p first last run (EndsEarly s) few soon timed told =
    absurd (omega (arith, timed.forward s told.0.inside, told.2))
only_memory n R p first last run (OutOfTime s) few soon timed told =
    elim told.3 [
      | inl early ↦ absurd (omega (arith, timed.after_first s told.0.inside, early))
      | inr late ↦ absurd (omega (arith, timed.before_last s told.0.inside, late))
    ]
only_memory n R p first last run (TooSoon s r) few soon timed told =
    absurd (omega (
      arith,
      timed.kept r s told.1.inside told.1.before,
      told.1.ends_later,
    ))
only_memory n R p first last run (NotApart s) few soon timed told =
    absurd (overlap-not_apart n run s told.2.overlap timed.apart)
only_memory n R p first last run OutOfMemory few soon timed told = refl

-- so it is for whatever answers with such a fault
pub only_memory_told : {T : Type 0} (n : ℕ) (R : ℕ → ℕ → Type 0) (p first last : ℕ) (run : TimedRun)
    (answer : Result T TimesFault)
    → IsThreadCount p
    → last ≤ MOST_WORK
    → IsTimedRun n R p first last run
    → IfErr answer (IsTimesFault n R p first last run)
    → OnErr answer (IsErrOf answer OutOfMemory)
only_memory_told n R p first last run (Ok value) few soon timed told = tt
only_memory_told {T} n R p first last run (Err fault) few soon timed told =
    ap (λ (f : TimesFault). Err f) (only_memory n R p first last run fault few soon timed told)
