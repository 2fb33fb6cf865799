-- Carried out: the segments in the order of their begins, looked at one after the other, and searches
-- among predecessors. No public contract speaks of it.
use Rattle.std.specs.Prelude.{ℕ, ◌+◌, ◌*◌, ◌<◌, ◌≤◌, ◌≡◌, ◌⊎◌, List, length, All, Contains}
use Rattle.std.specs.Prelude.{slice_index_or}
use Rattle.std.specs.List.Sorted.{IsNonDecreasingBy}
use Rattle.task_segments.specs.Schedule.{at}
use Rattle.time_accounts.specs.TimedRun.{TimedRun}

-- the segment at a place
abbrev pub segment_at : List (ℕ × ℕ) → ℕ → ℕ
segment_at order i = (slice_index_or order i (0, 0)).1

-- an entry as one number: by begins, and of one begin by numbers of segments
abbrev pub begin_and_number : ℕ × ℕ → ℕ
begin_and_number entry = entry.0 * 4294967296 + entry.1

-- the entries are of the segments, each once and behind its begin, in the order of their begins
pub record AreByBegin (begins : List ℕ) (order : List (ℕ × ℕ)) : Type 0 where
  pub of_one : All (λ entry. (entry.1 < length begins) × (entry.0 ≡ at begins entry.1)) order
  pub all : (s : ℕ) → s < length begins → Contains order (at begins s, s)
  pub once : (i j : ℕ) → i < j → j < length order → segment_at order i ≡ segment_at order j → ⊥
  pub few : length begins < 4294967296
  pub sorted : IsNonDecreasingBy begin_and_number order

-- the segment at a place runs at some moment, on a thread
pub record IsOn (run : TimedRun) (order : List (ℕ × ℕ)) (i k : ℕ) : Type 0 where
  pub on : at run.threads (segment_at order i) ≡ k
  pub some : at run.begins (segment_at order i) < at run.ends (segment_at order i)

-- The segments at the first n places have been looked at: none begins while an earlier one runs on
-- its thread, and each thread is taken until the end of one of them, or from no moment on.
pub record AreTaken (run : TimedRun) (order : List (ℕ × ℕ)) (n : ℕ) (taken : List ℕ) : Type
    0 where
  pub apart : (i j k : ℕ) → i < j → j < n → IsOn run order i k → IsOn run order j k
      → at run.ends (segment_at order i) ≤ at run.begins (segment_at order j)
  pub covered : (i k : ℕ) → i < n → IsOn run order i k
      → at run.ends (segment_at order i) ≤ at taken k
  pub of_one : (k : ℕ) → (at taken k ≡ 0)
      ⊎ ((i : ℕ) × (i < n) × IsOn run order i k × (at run.ends (segment_at order i) ≡ at taken k))

-- the least of some segments that ends after a moment
pub record IsFirstAfter (ends segments : List ℕ) (moment s : ℕ) : Type 0 where
  pub member : Contains segments s
  pub later : moment < at ends s
  pub least : (r : ℕ) → Contains segments r → r < s → at ends r ≤ moment

-- of some segments the one that ends last, the smallest of several
pub record IsLastAmong (ends segments : List ℕ) (s : ℕ) : Type 0 where
  pub member : Contains segments s
  pub latest : (r : ℕ) → Contains segments r → at ends r ≤ at ends s
  pub smallest : (r : ℕ) → Contains segments r → at ends r ≡ at ends s → s ≤ r
