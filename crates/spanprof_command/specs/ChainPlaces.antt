-- Carried out: where a segment stands in an ascending chain.
use Rattle.std.specs.Prelude.{ℕ, ◌<◌, ◌≤◌, List, length, slice_index}

-- the members before the place are below the segment, and those from it on are not
pub record IsPlace (chain : List ℕ) (segment place : ℕ) : Type 0 where
  pub within : place ≤ length chain
  pub before : (k : ℕ) → k < place → slice_index chain k < segment
  pub after : (k : ℕ) → place ≤ k → k < length chain → segment ≤ slice_index chain k
