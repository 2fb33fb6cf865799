-- What stands at the places of a list.
use Rattle.std.proofs.Common.{ℕ, ◌+◌, ◌<◌, ◌≡◌, List, Some, sym, ap, ◌∙◌, subst}
use Rattle.std.proofs.Common.{arith, inl, inr}
use Rattle.std.specs.Prelude.{slice_get}
use Rattle.std.proofs.lemmas.Bool.{cases_lt}
use Rattle.std.proofs.lemmas.Option.{same_Some}

-- what holds of each place before the next one, and there, holds up to it
pub up_to_next : {X : Type 0} (P : ℕ → X → Type 0) (xs : List X) (n : ℕ) (x : X)
    → slice_get xs n ≡ Some x
    → ((k : ℕ) (y : X) → k < n → slice_get xs k ≡ Some y → P k y)
    → P n x
    → (k : ℕ) (y : X) → k < n + 1 → slice_get xs k ≡ Some y → P k y
up_to_next P xs n x is before this k y less at =
    elim (cases_lt k n) [
      | inl earlier ↦ before k y earlier at
      | inr later ↦
          let same : k ≡ n = omega arith in
          let here : x ≡ y =
          same_Some x y (sym is ∙ ap (λ (i : ℕ). slice_get xs i) (sym same) ∙ at) in
          subst (λ (i : ℕ). P i y) (sym same) (subst (P n) here this)
    ]
