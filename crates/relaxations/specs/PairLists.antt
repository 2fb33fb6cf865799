-- Carried out: lists of segments, one for each segment, against the pairs of a table.
use Rattle.std.specs.Prelude.{ℕ, ◌<◌, List, [], Contains, length, slice_index_or}
use Rattle.std.specs.List.Sorted.{IsStrictlyIncreasing}
use Rattle.task_segments.specs.Precedence.{MustPrecede}
use Rattle.task_segments.specs.Table.{Table}

abbrev pub list_at : List (List ℕ) → ℕ → List ℕ
list_at lists t = slice_index_or lists t []

-- segments that stand before t, in ascending order
pub record IsRow (segments : List ℕ) (t : ℕ) : Type 0 where
  pub ascending : IsStrictlyIncreasing segments
  pub before : (s : ℕ) → Contains segments s → s < t

abbrev pub EachIsPair : Table → List ℕ → ℕ → Type 0
EachIsPair table segments t = (s : ℕ) → Contains segments s → MustPrecede table s t

-- s is the first of the segments that makes no pair with t
pub record IsNoPair (table : Table) (segments : List ℕ) (t s : ℕ) : Type 0 where
  pub listed : Contains segments s
  pub is_none : ¬ MustPrecede table s t
  pub pairs_below : (r : ℕ) → Contains segments r → r < s → MustPrecede table r t

abbrev pub AllArePairs : Table → List (List ℕ) → Type 0
AllArePairs table lists = (t : ℕ) → t < length lists → EachIsPair table (list_at lists t) t

pub record IsAdded (table : Table) (lists : List (List ℕ)) (s t : ℕ) : Type 0 where
  pub within : t < length lists
  pub added : IsNoPair table (list_at lists t) t s
  pub pairs_before : (u : ℕ) → u < t → EachIsPair table (list_at lists u) u
