-- Ascending lists of sets of numbers.
use Rattle.std.proofs.Common.{ℕ, ◌+◌, ◌<◌, ◌≡◌, ◌⊎◌, List, [], ◌∷◌, ◌++◌, length, get_or, Contains}
use Rattle.std.proofs.Common.{sym, ◌∙◌, ap, subst, inl, inr, arith, zero, suc}
use Rattle.std.specs.List.Sorted.{IsStrictlyIncreasing}
use Rattle.std.proofs.lemmas.Bool.{cases_lt, cases_eq}
use Rattle.std.proofs.lemmas.List.{length_push, get_or_append_left}
use Rattle.std.proofs.lemmas.List.Elements.{Contains-get_or, Contains-push, Contains-append_left}
use Rattle.std.proofs.lemmas.List.Elements.{Contains-push_cases}
use Rattle.std.proofs.Math.Seq.{get_or-append_seam}
use Rattle.depend_table.specs.Lists.{Lists}

-- a list contains a number or does not
pub cases_contains : (xs : List ℕ) (x : ℕ) → Contains xs x ⊎ (Contains xs x → ⊥)
cases_contains [] x = inr (λ has. absurd (omega (arith, has.1)))
cases_contains (y ∷ ys) x = elim (cases_eq y x) [
  | inl e ↦ inl (0, omega arith, e)
  | inr apart ↦ elim (cases_contains ys x) [
    | inl has ↦ inl (suc has.0, omega (arith, has.1), has.2)
    | inr none ↦
        inr (λ has. elim has.0 as (λ k. k < length (y ∷ ys) → get_or (y ∷ ys) k x ≡ x → ⊥) [
          | zero ↦ (λ _ e. apart e)
          | suc k ↦ (λ h e. none (k, omega arith, e))
        ] has.1 has.2)
  ]
]

-- one more number, above all of them
pub increasing_push : (xs : List ℕ) (n : ℕ)
    → IsStrictlyIncreasing xs
    → ((m : ℕ) → Contains xs m → m < n)
    → IsStrictlyIncreasing (xs ++ n ∷ [])
increasing_push xs n up below k h =
    let len : length (xs ++ n ∷ []) ≡ length xs + 1 = length_push xs n in
    let within : k < length xs = omega arith in
    let here : get_or (xs ++ n ∷ []) k 0 ≡ get_or xs k 0 =
    get_or_append_left xs (n ∷ []) 0 k within in
    elim (cases_lt (k + 1) (length xs)) [
      | inl inside ↦
          let there : get_or (xs ++ n ∷ []) (k + 1) 0 ≡ get_or xs (k + 1) 0 =
          get_or_append_left xs (n ∷ []) 0 (k + 1) inside in
          let less : get_or xs k 0 < get_or xs (k + 1) 0 = up k inside in
          omega arith
      | inr outside ↦
          let last : length xs ≡ k + 1 = omega arith in
          let there : get_or (xs ++ n ∷ []) (k + 1) 0 ≡ n =
          ap (λ i. get_or (xs ++ n ∷ []) i 0) (sym last) ∙ get_or-append_seam xs n [] 0 in
          let less : get_or xs k 0 < n = below (get_or xs k 0) (Contains-get_or xs k 0 within) in
          omega arith
    ]

-- a list with one greater number more
pub lists_push : (P Q : ℕ → Type 0) (xs : List ℕ) (n : ℕ) → Lists P xs → ((m : ℕ) → P m → m < n)
    → ((m : ℕ) → P m → Q m) → Q n → ((m : ℕ) → Q m → P m ⊎ (m ≡ n)) → Lists Q (xs ++ n ∷ [])
lists_push P Q xs n lists above widened new cases = record {
  ascending = increasing_push xs n lists.ascending (λ m c. above m ((lists.each m).0 c));
  each = λ m. (
    (λ c. elim (Contains-push_cases xs n m c) [
      | inl old ↦ widened m ((lists.each m).0 old)
      | inr same ↦ subst Q same new
    ]),
    (λ q. elim (cases m q) [
      | inl old ↦ Contains-append_left xs (n ∷ []) m ((lists.each m).1 old)
      | inr same ↦ subst (λ k. Contains (xs ++ n ∷ []) k) (sym same) (Contains-push xs n)
    ]),
  );
}

-- the same numbers by another property
pub lists_same : (P Q : ℕ → Type 0) (xs : List ℕ) → Lists P xs → ((m : ℕ) → P m → Q m)
    → ((m : ℕ) → Q m → P m)
    → Lists Q xs
lists_same P Q xs lists there back = record {
  ascending = lists.ascending;
  each = λ m. (λ c. there m ((lists.each m).0 c), λ q. (lists.each m).1 (back m q));
}
