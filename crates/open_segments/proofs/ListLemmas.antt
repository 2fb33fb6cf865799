-- Lists that have each number of a set once, in ascending order.
use Rattle.std.proofs.Common.{ℕ, ◌+◌, ◌<◌, ◌≤◌, ◌≡◌, ◌↔◌, List, [], ◌∷◌, ◌++◌, length}
use Rattle.std.proofs.Common.{get_or, map, take, drop, refl, sym, ap, ◌∙◌, subst, arith, inl, inr}
use Rattle.std.specs.Prelude.{Contains, IsTrue, Bool, true, false, if◌then◌else◌}
use Rattle.std.proofs.lemmas.Bool.{cases_lt, both_ways}
use Rattle.std.proofs.lemmas.List.{length-map, get_or-map, length-take, get_or-drop}
use Rattle.std.proofs.lemmas.List.{get_or-append_right}
use Rattle.std.proofs.lemmas.List.Elements.{Contains-get_or}
use Rattle.depend_table.specs.Lists.{Lists}
use Rattle.depend_table.proofs.Lists.{lists_push, lists_same}

pub Lists-none : (P : ℕ → Type 0) → ((n : ℕ) → ¬ P n) → Lists P []
Lists-none P none = record {
  ascending = λ k h. absurd (omega arith);
  each = λ n. (λ h. absurd (omega (arith, h.1)), λ h. absurd (none n h));
}

pub Lists-like : (P Q : ℕ → Type 0) (list : List ℕ) → ((n : ℕ) → P n → Q n) → ((n : ℕ) → Q n → P n)
    → Lists P list → Lists Q list
Lists-like P Q list there back lists = lists_same P Q list lists there back

-- none of the first i is left out
abbrev pub Below : (ℕ → Type 0) → ℕ → ℕ → Type 0
Below P i n = (n < i) × P n

-- where none passes from there to a further place
pub Lists-further : (P : ℕ → Type 0) (i j : ℕ) (list : List ℕ)
    → i ≤ j
    → ((n : ℕ) → P n → i ≤ n → n < j → ⊥)
    → Lists (Below P i) list
    → Lists (Below P j) list
Lists-further P i j list up none lists =
    lists_same (Below P i) (Below P j) list lists (λ n h. (omega (arith, h.0, up), h.1))
    (λ n h. elim (cases_lt n i) [
      | inl below ↦ (below, h.1)
      | inr above ↦ absurd (none n h.1 above h.0)
    ])

pub Lists-skip : (P : ℕ → Type 0) (i : ℕ) (list : List ℕ)
    → ¬ P i
    → Lists (Below P i) list
    → Lists (Below P (i + 1)) list
Lists-skip P i list not_here lists =
    Lists-further P i (i + 1) list (omega arith)
    (λ n here above below.
    let same : n ≡ i = omega (arith, above, below) in not_here (subst P same here))
    lists

pub Lists-push : (P : ℕ → Type 0) (i : ℕ) (list : List ℕ)
    → P i
    → Lists (Below P i) list
    → Lists (Below P (i + 1)) (list ++ i ∷ [])
Lists-push P i list here lists =
    lists_push (Below P i) (Below P (i + 1)) list i lists (λ n h. h.0)
    (λ n h. (omega (arith, h.0), h.1)) (omega arith, here)
    (λ n h. elim (cases_lt n i) [
      | inl below ↦ inl (below, h.1)
      | inr above ↦ inr (omega (arith, h.0, above))
    ])

pub Lists-all : (P : ℕ → Type 0) (i : ℕ) (list : List ℕ) → ((n : ℕ) → P n → n < i)
    → Lists (Below P i) list → Lists P list
Lists-all P i list all lists =
    lists_same (Below P i) P list lists (λ n h. h.1) (λ n h. (all n h, h))

contains_map : (f : ℕ → ℕ) (list : List ℕ) (n : ℕ) → Contains list n → Contains (map f list) (f n)
contains_map f list n (k, within, is) =
    let within_map : k < length (map f list) = omega (arith, within, length-map list f) in
    subst (λ (m : ℕ). Contains (map f list) m) (get_or-map f list k n (f n) within ∙ ap f is)
    (Contains-get_or (map f list) k (f n) within_map)

pub Lists-map : (f : ℕ → ℕ) (P Q : ℕ → Type 0) (list : List ℕ)
    → Lists P list
    → ((a b : ℕ) → P a → P b → a < b → f a < f b)
    → ((n : ℕ) → P n → Q (f n))
    → ((m : ℕ) → Q m → (n : ℕ) × P n × (f n ≡ m))
    → Lists Q (map f list)
Lists-map f P Q list lists up there back = record {
  ascending = λ k h.
      let next : k + 1 < length list = omega (arith, h, length-map list f) in
      let here : k < length list = omega (arith, next) in
      let value_is = get_or-map f list k 0 0 here in
      let next_is = get_or-map f list (k + 1) 0 0 next in
      let value : ℕ = get_or list k 0 in
      let next_value : ℕ = get_or list (k + 1) 0 in
      let less = up value next_value ((lists.each value).0 (Contains-get_or list k 0 here))
      ((lists.each next_value).0 (Contains-get_or list (k + 1) 0 next)) (lists.ascending k next) in
      rw (value_is, next_is) less;
  each = λ m. (
    λ h.
        let within : h.0 < length list =
        let known = h.1 in omega (arith, known, length-map list f) in
        let value : ℕ = get_or list h.0 0 in
        let same : f value ≡ m = sym (get_or-map f list h.0 0 m within) ∙ h.2 in
        subst Q same (there value ((lists.each value).0 (Contains-get_or list h.0 0 within))),
    λ h.
        let from = back m h in
        subst (λ (n : ℕ). Contains (map f list) n) from.2
        (contains_map f list from.0 ((lists.each from.0).1 from.1)),
  );
}

-- one more number is listed exactly where it passes
pub Lists-step : (P : ℕ → Type 0) (i : ℕ) (list : List ℕ) (keep : Bool)
    → IsTrue keep ↔ P i
    → Lists (Below P i) list
    → Lists (Below P (i + 1)) (if keep then list ++ i ∷ [] else list)
Lists-step P i list true passes lists = Lists-push P i list (passes.0 refl) lists
Lists-step P i list false passes lists =
    Lists-skip P i list (λ h. both_ways false refl (passes.1 h)) lists

-- what stands at the place that is written next
pub read_over : (f : ℕ → ℕ) (xs ys : List ℕ) (i x : ℕ)
    → i < length xs
    → ys ≡ map f (take i xs) ++ drop i xs
    → x ≡ get_or ys i x
    → x ≡ get_or xs i x
read_over f xs ys i x within parts is = grind (arith, map, length-map, length-take, get_or-append_right, get_or-drop)
