use Rattle.std.proofs.Common.{ℕ, ◌<◌}
use Rattle.exclusive_tasks.specs.Marking.{IsExcluding}
use Rattle.exclusive_tasks.proofs.overlap.first_excluding.Given as goal

abbrev pub invariant-loop-under_way : goal.invariant-loop-under_way
invariant-loop-under_way l = (a : ℕ) → a < l.under_way → IsExcluding l.claims l.marks l.claim a → ⊥
