use Rattle.std.proofs.Common.{ℕ, ◌<◌}
use Rattle.exclusive_tasks.specs.Marking.{IsPair}
use Rattle.exclusive_tasks.proofs.overlap.first_pair.Given as goal

abbrev pub invariant-loop-begins : goal.invariant-loop-begins
invariant-loop-begins l = (b a : ℕ) → b < l.begins → IsPair l.claims l.marks l.segment b a → ⊥
