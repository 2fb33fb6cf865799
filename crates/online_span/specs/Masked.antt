-- A program with some of its costs hidden, and the critical path that this can show.
use Rattle.std.specs.Prelude.{ℕ, ◌<◌, ◌≡◌, List, [], ◌∷◌, Contains}
use Rattle.task_program.specs.Marks.{Mark}
use Rattle.task_program.specs.Marks.Mark.{Works}
use Rattle.task_segments.specs.Schedule.{at, AreSegments, IsChain, chain_sum}
use Rattle.task_segments.specs.Table.{costs_of, table_of}
use Rattle.task_segments.specs.Precedence.{MustPrecede}

-- a mark as it was, or work with its cost hidden: 0 in place of it
pub data IsMaskedMark : Mark → Mark → Type 0 where
  Shown : (mark : Mark) → IsMaskedMark mark mark
  Hidden : (cost : ℕ) → IsMaskedMark (Works cost) (Works 0)

-- mark by mark the same program, but for costs that are hidden
abbrev pub IsMasked : List Mark → List Mark → Type 0
IsMasked [] [] = Unit {0}
IsMasked [] (shown ∷ masked) = ⊥
IsMasked (mark ∷ body) [] = ⊥
IsMasked (mark ∷ body) (shown ∷ masked) = IsMaskedMark mark shown × IsMasked body masked

-- a chain of the program that reaches the span, with all costs that are not hidden on it, and no
-- cost of it hidden
pub record ShowsPath (body masked : List Mark) (span : ℕ) : Type 0 where
  pub path : List ℕ
  pub segments : AreSegments (costs_of (table_of body)) path
  pub linked : IsChain (MustPrecede (table_of body)) path
  pub reached : chain_sum (costs_of (table_of body)) path ≡ span
  pub has_all_shown : (s : ℕ) → 0 < at (costs_of (table_of masked)) s → Contains path s
  pub hides_none : (s : ℕ)
      → Contains path s
      → at (costs_of (table_of masked)) s ≡ at (costs_of (table_of body)) s
