-- Carried out: how the thieves of all lanes are shared out among the workers.
use Rattle.std.specs.Prelude.{ℕ, ◌≡◌, ◌≢◌, ◌<◌, ◌+◌}

-- one of so many lanes, and not the worker's own
abbrev pub IsOtherLane : (lanes own : ℕ) → ℕ → Type 0
IsOtherLane lanes own lane = (lane < lanes) × (lane ≢ own)

-- each of so many lanes but the worker's own gave one of its thieves, and no other lane did
pub record GaveOne (lanes own lane had has : ℕ) : Type 0 where
  pub gave : IsOtherLane lanes own lane → has + 1 ≡ had
  pub kept : ¬ IsOtherLane lanes own lane → has ≡ had
