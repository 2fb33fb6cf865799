-- What the time along a path is made of.
use Rattle.std.proofs.Common.{◌≡◌, ℕ, suc, ◌+◌, ◌-◌, ◌<◌, List, [], ◌∷◌, length, ap, subst}
use Rattle.std.proofs.Common.{refl, arith, Contains, Some, slice_get}
use Rattle.std.proofs.lemmas.List.Sums.{sum_by-cons}
use Rattle.task_segments.specs.Schedule.{at, IsChain, chain_sum}
use Rattle.time_accounts.specs.TimedRun.{TimedRun, IsTimedRun, durations}
use Rattle.time_accounts.specs.OwnPath.{IsLastBefore, IsOwnPath, waits_on}
use Rattle.time_accounts.proofs.TimedRuns.{ends_after}

pub same_number : {a b : ℕ} → Some a ≡ Some b → a ≡ b
same_number {a} {b} h = cc

path_from : {n : ℕ} {R : ℕ → ℕ → Type 0} {p first last : ℕ} {run : TimedRun}
    → IsTimedRun n R p first last run
    → (s : ℕ) (rest : List ℕ) (end : ℕ)
    → ((t : ℕ) → Contains (s ∷ rest) t → t < n)
    → IsChain (IsLastBefore R run) (s ∷ rest)
    → slice_get (s ∷ rest) (length (s ∷ rest) - 1) ≡ Some end
    → at run.begins s + chain_sum (durations run) (s ∷ rest) + waits_on run (s ∷ rest)
    ≡ at run.ends end
path_from {n} {R} {p} {first} {last} {run} timed s [] end inside linked ends =
    let same : s ≡ end = same_number ends in
    omega (
      arith,
      sum_by-cons (at (durations run)) s [],
      ends_after s timed (inside s (0, omega arith, refl)),
      ap (at run.ends) same,
    )
path_from {n} {R} {p} {first} {last} {run} timed s (t ∷ rest) end inside linked ends =
    let one_less : length (s ∷ t ∷ rest) - 1 ≡ suc (length (t ∷ rest) - 1) = omega arith in
    let later_ends : slice_get (t ∷ rest) (length (t ∷ rest) - 1) ≡ Some end =
    subst (λ (k : ℕ). slice_get (s ∷ t ∷ rest) k ≡ Some end) one_less ends in
    let later = path_from timed t rest end
    (λ u k. inside u (suc k.0, omega (arith, k.1), k.2)) linked.1 later_ends in
    omega (
      arith,
      sum_by-cons (at (durations run)) s (t ∷ rest),
      later,
      ends_after s timed (inside s (0, omega arith, refl)),
      timed.kept s t (inside t (1, omega arith, refl)) linked.0.before,
    )

pub own_path_sum : {n : ℕ} {R : ℕ → ℕ → Type 0} {p first last : ℕ} {run : TimedRun}
    (path : List ℕ)
    → IsTimedRun n R p first last run
    → (own : IsOwnPath n R run path)
    → at run.begins own.first + chain_sum (durations run) path + waits_on run path
    ≡ at run.ends own.last
own_path_sum [] timed own = absurd own.linked
own_path_sum {n} {R} {p} {first} {last} {run} (s ∷ rest) timed own =
    let same : s ≡ own.first = same_number own.begins in
    omega (
      arith,
      ap (at run.begins) same,
      path_from timed s rest own.last own.segments own.linked own.ends,
    )
