-- What decides the earliest starts of segments, and the greatest sums of the chains that follow
-- them, segment by segment, under any relation of precedence.
use Rattle.std.specs.Prelude.{ℕ, ◌+◌, ◌<◌, ◌≤◌, ◌≡◌, ◌⊎◌, List, length}
use Rattle.task_segments.specs.Schedule.{at, IsLegal}

-- each pair goes from a smaller to a larger number
pub record IsAscending (R : ℕ → ℕ → Type 0) : Type 0 where
  pub up : (s t : ℕ) → R s t → s < t

-- legal, and each segment starts at 0 or just when some predecessor ends
pub record IsEarliest (costs : List ℕ) (R : ℕ → ℕ → Type 0) (starts : List ℕ) : Type 0 where
  pub legal : IsLegal costs R starts
  pub reached : (t : ℕ)
      → t < length costs
      → (at starts t ≡ 0) ⊎ ((s : ℕ) × R s t × (at starts s + at costs s ≡ at starts t))

-- the tail of a segment is the greatest sum of a chain that follows it
pub record IsTails (costs : List ℕ) (R : ℕ → ℕ → Type 0) (tails : List ℕ) : Type 0 where
  pub each : length tails ≡ length costs
  pub covers : (s t : ℕ) → t < length costs → R s t → at costs t + at tails t ≤ at tails s
  pub reached : (s : ℕ)
      → s < length costs
      → (at tails s ≡ 0)
      ⊎ ((t : ℕ) × (t < length costs) × R s t × (at tails s ≡ at costs t + at tails t))
