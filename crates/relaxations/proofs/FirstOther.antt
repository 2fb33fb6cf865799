-- Segments that are compared one after another.
use Rattle.std.proofs.Common.{◌+◌, ◌<◌, ℕ, arith, inl, inr, subst, sym}
use Rattle.std.proofs.lemmas.Bool.{cases_eq}
use Rattle.task_segments.specs.Table.{Table}
use Rattle.relaxations.specs.Relaxation.{IsSameSegment}

-- the segments before n are the same
abbrev pub SameBefore : (old new : Table) → ℕ → Type 0
SameBefore old new n = (s : ℕ) → s < n → IsSameSegment old new s

pub one_more : (old new : Table) (n : ℕ) → SameBefore old new n → IsSameSegment old new n
    → SameBefore old new (n + 1)
one_more old new n before here s less = elim (cases_eq s n) [
  | inl same ↦ subst (λ (k : ℕ). IsSameSegment old new k) (sym same) here
  | inr other ↦ before s (omega (arith, less, other))
]
