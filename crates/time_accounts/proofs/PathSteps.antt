-- The steps of the search for a run's own path.
use Rattle.std.proofs.Common.{◌≡◌, ℕ, suc, ◌-◌, ◌<◌, ◌≤◌, inl, inr, List, [], ◌∷◌, length, subst}
use Rattle.std.proofs.Common.{refl, sym, arith, Contains, Some, slice_get}
use Rattle.task_segments.specs.Schedule.{at, IsChain}
use Rattle.time_accounts.specs.TimedRun.{TimedRun}
use Rattle.time_accounts.specs.OwnPath.{IsLastBefore, IsOwnPath}
use Rattle.time_accounts.proofs.Paths.{same_number}
use Rattle.time_accounts.proofs.SomePath.{first_or_later}

-- a path from a member to the last one
pub record IsPathFrom (n : ℕ) (R : ℕ → ℕ → Type 0) (run : TimedRun) (last member : ℕ)
    (path : List ℕ) : Type 0 where
  pub inside : member < n
  pub linked : IsChain (IsLastBefore R run) path
  pub segments : (s : ℕ) → Contains path s → s < n
  pub begins : slice_get path 0 ≡ Some member
  pub ends : slice_get path (length path - 1) ≡ Some last

pub only_last : (n : ℕ) (R : ℕ → ℕ → Type 0) (run : TimedRun) (last : ℕ) → last < n
    → IsPathFrom n R run last last (last ∷ [])
only_last n R run last inside = record {
  inside = inside;
  linked = tt;
  segments = λ s k. elim (first_or_later last [] s k) [
    | inl same ↦ omega (arith, same, inside)
    | inr none ↦ absurd (omega (arith, none.1))
  ];
  begins = refl;
  ends = refl;
}

pub one_before : (n : ℕ) (R : ℕ → ℕ → Type 0) (run : TimedRun) (last member before : ℕ)
    (path : List ℕ)
    → IsPathFrom n R run last member path
    → IsLastBefore R run before member
    → before < n
    → IsPathFrom n R run last before (before ∷ path)
one_before n R run last member before [] from link inside = absurd from.linked
one_before n R run last member before (c ∷ rest) from link inside =
    let first : c ≡ member = same_number from.begins in
    let one_more : suc (length (c ∷ rest) - 1) ≡ length (before ∷ c ∷ rest) - 1 = omega arith in
    record {
      inside = inside;
      linked = (subst (λ (x : ℕ). IsLastBefore R run before x) (sym first) link, from.linked);
      segments = λ s k. elim (first_or_later before (c ∷ rest) s k) [
        | inl same ↦ omega (arith, same, inside)
        | inr later ↦ from.segments s later
      ];
      begins = refl;
      ends = subst (λ (k : ℕ). slice_get (before ∷ c ∷ rest) k ≡ Some last) one_more from.ends;
    }

pub whole_path : (n : ℕ) (R : ℕ → ℕ → Type 0) (run : TimedRun) (last member : ℕ) (path : List ℕ)
    → IsPathFrom n R run last member path
    → ((r : ℕ) → R r member → ⊥)
    → ((s : ℕ) → s < n → at run.ends s ≤ at run.ends last)
    → ((s : ℕ) → s < n → at run.ends s ≡ at run.ends last → last ≤ s)
    → IsOwnPath n R run path
whole_path n R run last member path from alone latest smallest = record {
  linked = from.linked;
  segments = from.segments;
  first = member;
  last = last;
  begins = from.begins;
  ends = from.ends;
  alone = alone;
  latest = latest;
  smallest = smallest;
}
