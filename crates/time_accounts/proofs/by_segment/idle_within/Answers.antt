use Rattle.std.proofs.Common.{ℕ, List, ap, arith}
use Rattle.time_accounts.specs.Sweep.{count_upto}
use Rattle.time_accounts.proofs.by_segment.idle_within.Goals as goal

pub idle_between-requires-clause-enough : goal.idle_between-requires-clause-enough
idle_between-requires-clause-enough c m =
    omega (
      arith,
      c.requires.known.enough m,
      ap (λ (xs : List ℕ). count_upto xs m) c.deref-2.ensures.value,
      ap (λ (xs : List ℕ). count_upto xs m) c.deref-3.ensures.value,
    )

pub idle_between-requires-clause-at_most : goal.idle_between-requires-clause-at_most
idle_between-requires-clause-at_most c m =
    omega (
      arith,
      c.requires.known.at_most m,
      ap (λ (xs : List ℕ). count_upto xs m) c.deref-2.ensures.value,
      ap (λ (xs : List ℕ). count_upto xs m) c.deref-3.ensures.value,
    )
