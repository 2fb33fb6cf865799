-- Runs by their times: on which thread each segment ran, from when and until when.
use Rattle.std.specs.Prelude.{ℕ, ◌-◌, ◌<◌, ◌≤◌, ◌≡◌, List, [], ◌∷◌, length}
use Rattle.task_segments.specs.Schedule.{at}

pub record TimedRun : Type 0 where
  pub threads : List ℕ
  pub begins : List ℕ
  pub ends : List ℕ

-- a segment runs from its begin on, before its end
abbrev pub Runs : TimedRun → ℕ → ℕ → Type 0
Runs run s m = (at run.begins s ≤ m) × (m < at run.ends s)

-- none begins before its predecessors have ended
abbrev pub AreInOrder : ℕ → (ℕ → ℕ → Type 0) → TimedRun → Type 0
AreInOrder n R run = (s t : ℕ) → t < n → R s t → at run.ends s ≤ at run.begins t

-- no two run on one thread at one moment
abbrev pub AreApart : ℕ → TimedRun → Type 0
AreApart n run = (s t m : ℕ) → s < t → t < n → at run.threads s ≡ at run.threads t
    → Runs run s m → Runs run t m → ⊥

-- A run of n segments on p threads between two moments, under a relation of precedence, whatever
-- that relation is.
pub record IsTimedRun (n : ℕ) (R : ℕ → ℕ → Type 0) (p first last : ℕ) (run : TimedRun) : Type
    0 where
  pub each_thread : length run.threads ≡ n
  pub each_begin : length run.begins ≡ n
  pub each_end : length run.ends ≡ n
  pub in_time : first ≤ last
  pub on_thread : (s : ℕ) → s < n → at run.threads s < p
  pub after_first : (s : ℕ) → s < n → first ≤ at run.begins s
  pub forward : (s : ℕ) → s < n → at run.begins s ≤ at run.ends s
  pub before_last : (s : ℕ) → s < n → at run.ends s ≤ last
  pub kept : AreInOrder n R run
  pub apart : AreApart n run

-- the numbers of the one list less those of the other
abbrev pub differences : List ℕ → List ℕ → List ℕ
differences [] lesser = []
differences (x ∷ xs) [] = []
differences (x ∷ xs) (y ∷ ys) = (x - y) ∷ differences xs ys

-- how long each segment ran
abbrev pub durations : TimedRun → List ℕ
durations run = differences run.ends run.begins
