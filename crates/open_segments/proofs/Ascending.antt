-- Two ascending lists of the same numbers are the same list; how long one is.
use Rattle.std.proofs.Common.{ℕ, ◌+◌, ◌<◌, ◌≤◌, ◌≡◌, ◌⊎◌, zero, suc, List, [], ◌∷◌}
use Rattle.std.proofs.Common.{length, get_or, refl, sym, ap, ◌∙◌, arith, inl, inr, sum_by, cond}
use Rattle.std.proofs.Common.{Bool, true, false, nat_eq, count_by}
use Rattle.std.proofs.lemmas.Bool.{eq-eqb, ne_eqb}
use Rattle.std.specs.Prelude.{Contains}
use Rattle.std.specs.List.Sorted.{IsStrictlyIncreasing}
use Rattle.std.proofs.lemmas.List.Sums.{sum_by-cons}
use Rattle.depend_table.specs.Lists.{Lists}

Contains-head : (x : ℕ) (xs : List ℕ) → Contains (x ∷ xs) x
Contains-head x xs = (0, omega arith, refl)

Contains-tail : (x n : ℕ) (xs : List ℕ) → Contains xs n → Contains (x ∷ xs) n
Contains-tail x n xs (k, within, is) = (suc k, omega arith, is)

Contains-cases : (x n : ℕ) (xs : List ℕ) → Contains (x ∷ xs) n → (x ≡ n) ⊎ Contains xs n
Contains-cases x n xs (zero, within, is) = inl is
Contains-cases x n xs (suc k, within, is) = inr (k, omega arith, is)

ascending-tail : (x : ℕ) (xs : List ℕ) → IsStrictlyIncreasing (x ∷ xs) → IsStrictlyIncreasing xs
ascending-tail x xs up k h =
    let one : get_or (x ∷ xs) (suc k + 1) 0 ≡ get_or xs (suc k) 0 =
    ap (λ m. get_or (x ∷ xs) m 0) (let same : suc k + 1 ≡ suc (suc k) = omega arith in same) in
    let two : get_or xs (k + 1) 0 ≡ get_or xs (suc k) 0 =
    ap (λ m. get_or xs m 0) (let same : k + 1 ≡ suc k = omega arith in same) in
    let less : get_or xs k 0 < get_or (x ∷ xs) (suc k + 1) 0 = up (suc k) (omega arith) in
    omega arith

above_head : (x n : ℕ) (xs : List ℕ) → IsStrictlyIncreasing (x ∷ xs) → Contains xs n → x < n
above_head x n [] up h = absurd (omega (arith, h.1))
above_head x n (y ∷ ys) up h =
    let one : get_or (x ∷ y ∷ ys) (0 + 1) 0 ≡ y =
    ap (λ m. get_or (x ∷ y ∷ ys) m 0) (let same : 0 + 1 ≡ 1 = omega arith in same) in
    let less : x < get_or (x ∷ y ∷ ys) (0 + 1) 0 = up 0 (omega arith) in
    elim (Contains-cases y n ys h) [
      | inl e ↦ omega arith
      | inr later ↦
          let above : y < n = above_head y n ys (ascending-tail x (y ∷ ys) up) later in omega arith
    ]

same_heads : (x y : ℕ) (xs ys : List ℕ)
    → IsStrictlyIncreasing (x ∷ xs)
    → IsStrictlyIncreasing (y ∷ ys)
    → Contains (y ∷ ys) x
    → Contains (x ∷ xs) y
    → x ≡ y
same_heads x y xs ys up up' h h' =
    elim (Contains-cases y x ys h) [
      | inl e ↦ sym e
      | inr later ↦ elim (Contains-cases x y xs h') [
        | inl e ↦ e
        | inr later' ↦ absurd (let below = above_head y x ys up' later in
            let above = above_head x y xs up later' in
            omega arith)
      ]
    ]

same_members : (xs ys : List ℕ)
    → IsStrictlyIncreasing xs
    → IsStrictlyIncreasing ys
    → ((n : ℕ) → Contains xs n → Contains ys n)
    → ((n : ℕ) → Contains ys n → Contains xs n)
    → xs ≡ ys
same_members [] [] up up' there back = refl
same_members [] (y ∷ ys) up up' there back =
    absurd (let has = back y (Contains-head y ys) in omega (arith, has.1))
same_members (x ∷ xs) [] up up' there back =
    absurd (let has = there x (Contains-head x xs) in omega (arith, has.1))
same_members (x ∷ xs) (y ∷ ys) up up' there back =
    let heads : x ≡ y =
    same_heads x y xs ys up up' (there x (Contains-head x xs)) (back y (Contains-head y ys)) in
    let rest : xs ≡ ys = same_members xs ys (ascending-tail x xs up) (ascending-tail y ys up')
    (λ n h. elim (Contains-cases y n ys (there n (Contains-tail x n xs h))) [
      | inl e ↦ absurd (let above = above_head x n xs up h in omega arith)
      | inr tail ↦ tail
    ])
    (λ n h. elim (Contains-cases x n xs (back n (Contains-tail y n ys h))) [
      | inl e ↦ absurd (let above = above_head y n ys up' h in omega arith)
      | inr tail ↦ tail
    ]) in
    cc

pub Lists-same : (P : ℕ → Type 0) (xs ys : List ℕ) → Lists P xs → Lists P ys → xs ≡ ys
Lists-same P xs ys one two =
    same_members xs ys one.ascending two.ascending (λ n h. (two.each n).1 ((one.each n).0 h))
    (λ n h. (one.each n).1 ((two.each n).0 h))

pub sum_by_agree : (f g : ℕ → ℕ) (xs : List ℕ)
    → ((n : ℕ) → Contains xs n → f n ≡ g n)
    → sum_by f xs ≡ sum_by g xs
sum_by_agree f g [] same = refl
sum_by_agree f g (x ∷ xs) same =
    let here = same x (Contains-head x xs) in
    let rest = sum_by_agree f g xs (λ n h. same n (Contains-tail x n xs h)) in
    omega (arith, sum_by-cons f x xs, sum_by-cons g x xs)

pub same_sums : (P : ℕ → Type 0) (f g : ℕ → ℕ) (xs ys : List ℕ)
    → Lists P xs
    → Lists P ys
    → ((n : ℕ) → P n → f n ≡ g n)
    → sum_by f xs ≡ sum_by g ys
same_sums P f g xs ys one two same =
    sum_by_agree f g xs (λ n h. same n ((one.each n).0 h))
    ∙ ap (sum_by g) (Lists-same P xs ys one two)

-- numbers in ascending order between two bounds are no more than fit there
fits_between : (low high : ℕ) (xs : List ℕ)
    → IsStrictlyIncreasing xs
    → low ≤ high
    → ((n : ℕ) → Contains xs n → low ≤ n)
    → ((n : ℕ) → Contains xs n → n < high)
    → low + length xs ≤ high
fits_between low high [] up some above below = omega arith
fits_between low high (x ∷ xs) up some above below =
    let here : low ≤ x = above x (Contains-head x xs) in
    let under : x < high = below x (Contains-head x xs) in
    let rest : (x + 1) + length xs ≤ high =
    fits_between (x + 1) high xs (ascending-tail x xs up) (omega arith)
    (λ n h. let more = above_head x n xs up h in omega arith)
    (λ n h. below n (Contains-tail x n xs h)) in
    omega arith

pub length_below : (high : ℕ) (xs : List ℕ)
    → IsStrictlyIncreasing xs
    → ((n : ℕ) → Contains xs n → n < high)
    → length xs ≤ high
length_below high xs up below =
    let fits = fits_between 0 high xs up (omega arith) (λ n h. omega arith) below in omega arith

counted_as : (b c : Bool) → b ≡ c → cond {A = ℕ} b 1 0 ≡ cond {A = ℕ} c 1 0
counted_as b c same = ap (λ (x : Bool). cond {A = ℕ} x 1 0) same

-- how often an ascending list has a number
pub times_none : (r : ℕ) (xs : List ℕ)
    → (Contains xs r → ⊥)
    → count_by (λ y. nat_eq y r) xs ≡ 0
times_none r [] none = refl
times_none r (x ∷ xs) none =
    let here : cond {A = ℕ} (nat_eq x r) 1 0 ≡ 0 =
    counted_as (nat_eq x r) false (ne_eqb x r (λ same. none (0, omega arith, same))) in
    let rest = times_none r xs (λ h. none (Contains-tail x r xs h)) in
    omega (arith, here, rest, sum_by-cons (λ y. cond {A = ℕ} (nat_eq y r) 1 0) x xs)

pub times_once : (r : ℕ) (xs : List ℕ)
    → IsStrictlyIncreasing xs
    → Contains xs r
    → count_by (λ y. nat_eq y r) xs ≡ 1
times_once r [] up has = absurd (omega (arith, has.1))
times_once r (x ∷ xs) up has =
    let more = sum_by-cons (λ y. cond {A = ℕ} (nat_eq y r) 1 0) x xs in
    elim (Contains-cases x r xs has) [
      | inl same ↦
          let here : cond {A = ℕ} (nat_eq x r) 1 0 ≡ 1 =
          counted_as (nat_eq x r) true (eq-eqb x r same) in
          let rest = times_none r xs (λ h.
          let above = above_head x r xs up h in absurd (omega (arith, above, same))) in
          omega (arith, here, rest, more)
      | inr later ↦
          let above = above_head x r xs up later in
          let here : cond {A = ℕ} (nat_eq x r) 1 0 ≡ 0 =
          counted_as (nat_eq x r) false (ne_eqb x r (λ same. absurd (omega (arith, above, same)))) in
          let rest = times_once r xs (ascending-tail x xs up) later in
          omega (arith, here, rest, more)
    ]
