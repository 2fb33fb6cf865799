-- Which fault of the times of a run is reported: the first in this order, and of its kind the one of the
-- least segment.
use Rattle.std.specs.Prelude.{ℕ, ◌<◌, ◌≤◌, ◌≡◌, ◌⊎◌, length}
use Rattle.program_text.specs.declared.limits.TheConstants.{MOST_WORK}
use Rattle.task_segments.specs.Schedule.{at}
use Rattle.greedy_sim.specs.declared.greedy.TheConstants.{MOST_THREADS}
use Rattle.time_accounts.specs.declared.fault.TimesFault.{TimesFault}
use Rattle.time_accounts.specs.declared.fault.TimesFault.TheVariants.{ThreadCount, Moments, Count}
use Rattle.time_accounts.specs.declared.fault.TimesFault.TheVariants.{NoThread, EndsEarly, OutOfTime}
use Rattle.time_accounts.specs.declared.fault.TimesFault.TheVariants.{TooSoon, NotApart, OutOfMemory}
use Rattle.time_accounts.specs.TimedRun.{TimedRun, Runs, AreInOrder}

-- the number of threads and the two moments are within the limits
pub record IsThreadCount (p : ℕ) : Type 0 where
  pub some : 1 ≤ p
  pub few : p ≤ MOST_THREADS

pub record AreMoments (first last : ℕ) : Type 0 where
  pub in_time : first ≤ last
  pub soon : last ≤ MOST_WORK

-- there is a thread, a begin and an end of each segment
pub record HasEach (n : ℕ) (run : TimedRun) : Type 0 where
  pub each_thread : length run.threads ≡ n
  pub each_begin : length run.begins ≡ n
  pub each_end : length run.ends ≡ n

-- the thread of a segment is one of p, and it runs from the first moment to the last one
pub record IsInRange (p first last : ℕ) (run : TimedRun) (s : ℕ) : Type 0 where
  pub on_thread : at run.threads s < p
  pub forward : at run.begins s ≤ at run.ends s
  pub after_first : first ≤ at run.begins s
  pub before_last : at run.ends s ≤ last

-- what is asked before a segment's range is looked at, and before the order of segments is
pub record IsCounted (n p first last : ℕ) (run : TimedRun) : Type 0 where
  pub threads : IsThreadCount p
  pub moments : AreMoments first last
  pub each : HasEach n run

pub record IsRanged (n p first last : ℕ) (run : TimedRun) : Type 0 where
  pub counted : IsCounted n p first last run
  pub ranges : (s : ℕ) → s < n → IsInRange p first last run s

-- s is a segment, and those below it are in range
pub record IsUpTo (n p first last : ℕ) (run : TimedRun) (s : ℕ) : Type 0 where
  pub counted : IsCounted n p first last run
  pub inside : s < n
  pub below : (r : ℕ) → r < s → IsInRange p first last run r

-- s is the least segment that begins before a predecessor has ended, and r the least such
-- predecessor
pub record IsFirstTooSoon (n : ℕ) (R : ℕ → ℕ → Type 0) (run : TimedRun) (s r : ℕ) : Type 0 where
  pub inside : s < n
  pub below : AreInOrder s R run
  pub before : R r s
  pub ends_later : at run.begins s < at run.ends r
  pub least : (q : ℕ) → R q s → q < r → at run.ends q ≤ at run.begins s

-- s begins before t: at an earlier moment, or at the same one and its number is smaller
abbrev pub BeginsBefore : TimedRun → ℕ → ℕ → Type 0
BeginsBefore run s t = (at run.begins s < at run.begins t)
    ⊎ ((at run.begins s ≡ at run.begins t) × (s < t))

-- a segment begins while one that began before it runs on its thread
pub record IsOverlap (n : ℕ) (run : TimedRun) (s : ℕ) : Type 0 where
  pub inside : s < n
  pub other : ℕ
  pub other_inside : other < n
  pub before : BeginsBefore run other s
  pub same : at run.threads other ≡ at run.threads s
  pub runs : Runs run s (at run.begins s)
  pub other_runs : Runs run other (at run.begins s)

-- of these segments the one that begins first
pub record IsFirstOverlap (n : ℕ) (run : TimedRun) (s : ℕ) : Type 0 where
  pub overlap : IsOverlap n run s
  pub first : (t : ℕ) → IsOverlap n run t → BeginsBefore run t s → ⊥

-- The fault of a run of n segments on p threads between two moments, under a relation of
-- precedence. Out of memory says nothing of the run.
abbrev pub IsTimesFault : ℕ → (ℕ → ℕ → Type 0) → ℕ → ℕ → ℕ → TimedRun → TimesFault → Type 0
IsTimesFault n R p first last run ThreadCount = IsThreadCount p → ⊥
IsTimesFault n R p first last run Moments = IsThreadCount p × (AreMoments first last → ⊥)
IsTimesFault n R p first last run Count =
    IsThreadCount p × AreMoments first last × (HasEach n run → ⊥)
IsTimesFault n R p first last run (NoThread s) =
    IsUpTo n p first last run s × (p ≤ at run.threads s)
IsTimesFault n R p first last run (EndsEarly s) = IsUpTo n p first last run s
    × (at run.threads s < p) × (at run.ends s < at run.begins s)
IsTimesFault n R p first last run (OutOfTime s) = IsUpTo n p first last run s
    × (at run.threads s < p) × (at run.begins s ≤ at run.ends s)
    × ((at run.begins s < first) ⊎ (last < at run.ends s))
IsTimesFault n R p first last run (TooSoon s r) =
    IsRanged n p first last run × IsFirstTooSoon n R run s r
IsTimesFault n R p first last run (NotApart s) =
    IsRanged n p first last run × AreInOrder n R run × IsFirstOverlap n run s
IsTimesFault n R p first last run OutOfMemory = Unit {0}
