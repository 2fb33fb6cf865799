use Rattle.std.proofs.Common.{ℕ, List, ap, arith}
use Rattle.time_accounts.specs.Sweep.{count_upto}
use Rattle.time_accounts.proofs.account.measured.Goals as goal

pub idle_between-delayed-requires-clause-enough :
    goal.idle_between-delayed-requires-clause-enough
idle_between-delayed-requires-clause-enough c m =
    omega (
      arith,
      c.known.ensures.enough m,
      ap (λ (xs : List ℕ). count_upto xs m) c.deref-4.ensures.value,
      ap (λ (xs : List ℕ). count_upto xs m) c.deref-5.ensures.value,
    )

pub idle_between-delayed-requires-clause-at_most :
    goal.idle_between-delayed-requires-clause-at_most
idle_between-delayed-requires-clause-at_most c m =
    omega (
      arith,
      c.known.ensures.at_most m,
      ap (λ (xs : List ℕ). count_upto xs m) c.deref-4.ensures.value,
      ap (λ (xs : List ℕ). count_upto xs m) c.deref-5.ensures.value,
    )
