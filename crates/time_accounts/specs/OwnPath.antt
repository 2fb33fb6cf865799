-- The path on which a run's elapsed time lay: back from the segment that ends last, to the
-- predecessor that ends last, and so on. Of several that end last it takes the smallest.
use Rattle.std.specs.Prelude.{ℕ, ◌+◌, ◌-◌, ◌<◌, ◌≤◌, ◌≡◌, List, [], ◌∷◌, length, Some, slice_get}
use Rattle.std.specs.Prelude.{Contains}
use Rattle.task_segments.specs.Schedule.{at, IsChain}
use Rattle.time_accounts.specs.TimedRun.{TimedRun}

-- of the predecessors of t, s ends last, and it is the smallest of those that do
pub record IsLastBefore (R : ℕ → ℕ → Type 0) (run : TimedRun) (s t : ℕ) : Type 0 where
  pub before : R s t
  pub latest : (r : ℕ) → R r t → at run.ends r ≤ at run.ends s
  pub smallest : (r : ℕ) → R r t → at run.ends r ≡ at run.ends s → s ≤ r

pub record IsOwnPath (n : ℕ) (R : ℕ → ℕ → Type 0) (run : TimedRun) (path : List ℕ) : Type 0 where
  pub linked : IsChain (IsLastBefore R run) path
  pub segments : (s : ℕ) → Contains path s → s < n
  pub first : ℕ
  pub last : ℕ
  pub begins : slice_get path 0 ≡ Some first
  pub ends : slice_get path (length path - 1) ≡ Some last
  -- nothing precedes the first member, and of all segments the last one ends last
  pub alone : (r : ℕ) → R r first → ⊥
  pub latest : (s : ℕ) → s < n → at run.ends s ≤ at run.ends last
  pub smallest : (s : ℕ) → s < n → at run.ends s ≡ at run.ends last → last ≤ s

-- the waits on a path: from the end of each member to the begin of the next
abbrev pub waits_on : TimedRun → List ℕ → ℕ
waits_on run [] = 0
waits_on run (s ∷ []) = 0
waits_on run (s ∷ t ∷ rest) = (at run.begins t - at run.ends s) + waits_on run (t ∷ rest)
