-- The sums of all places are those of the whole, and each segment counts at one place.
use Rattle.std.proofs.Common.{◌≡◌, ◌+◌, ◌<◌, ◌≤◌, ◌∙◌, ◌⊎◌, ℕ, zero, suc, List, [], ◌∷◌, Bool, true, false}
use Rattle.std.proofs.Common.{Option, Some, None, ap, sym, refl, arith, length, get_or, inl, inr, filter}
use Rattle.std.proofs.Common.{sum, subst}
use Rattle.std.proofs.Common.{Contains, cond, min, sum_by, ◌==◌}
use Rattle.std.specs.List.{range_with_len}
use Rattle.std.proofs.lemmas.Bool.{cases_eq, cases_lt, eq-eqb, ne_eqb, eqb-true}
use Rattle.std.proofs.lemmas.List.{get_or_default}
use Rattle.std.proofs.lemmas.List.FromFn.{get_or-range_with_len, length-range_with_len}
use Rattle.task_segments.specs.Schedule.{at}
use Rattle.span_analysis.specs.Findings.{Findings}
use Rattle.time_accounts.proofs.CountedOnce.{nothing, two_sums}
use Rattle.large_documents.specs.Places.{is_at, least_of, least_with, members, place_count, segments_at}
use Rattle.large_documents.specs.Places.{segments_of}
use Rattle.std.proofs.lemmas.List.Sums.{sum_by-cons}
use Rattle.large_documents.specs.PlaceLaws.{AddUp, HasPlace, IsLeast}
use Rattle.large_documents.proofs.PlaceCounts.{below_count}
use Rattle.large_documents.proofs.PlaceGrowth.{all_work}

-- ---- sums over places

-- what is so much at one place, and nothing at others
abbrev share : ℕ → ℕ → ℕ → ℕ
share q v p = cond (q == p) v 0

share_here : (q v p : ℕ) → q ≡ p → share q v p ≡ v
share_here q v p e = ap (λ (b : Bool). cond b v 0) (eq-eqb q p e)

share_there : (q v p : ℕ) → (q ≡ p → ⊥) → share q v p ≡ 0
share_there q v p e = ap (λ (b : Bool). cond b v 0) (ne_eqb q p e)

none_above : (q v a n : ℕ) → q < a → sum_by (share q v) (range_with_len a n) ≡ 0
none_above q v a zero less = refl
none_above q v a (suc n) less =
    let here = share_there q v a (λ e. omega (arith, e, less)) in
    let later = none_above q v (a + 1) n (omega (arith, less)) in
    omega (arith, here, later, sum_by-cons (share q v) a (range_with_len (a + 1) n))

one_share : (q v a n : ℕ) → a ≤ q → q < a + n → sum_by (share q v) (range_with_len a n) ≡ v
one_share q v a zero from below = absurd (omega (arith, from, below))
one_share q v a (suc n) from below = elim (cases_eq q a) [
  | inl e ↦
      let here = share_here q v a e in
      let later = none_above q v (a + 1) n (omega (arith, e)) in
      omega (arith, here, later, sum_by-cons (share q v) a (range_with_len (a + 1) n))
  | inr e ↦
      let here = share_there q v a e in
      let later = one_share q v (a + 1) n (omega (arith, e, from)) (omega (arith, below)) in
      omega (arith, here, later, sum_by-cons (share q v) a (range_with_len (a + 1) n))
]

-- a sum over lists that adds up member by member
pub record IsSumOf (F : List ℕ → ℕ) (f : ℕ → ℕ) : Type 0 where
  pub none : F [] ≡ 0
  pub more : (s : ℕ) (xs : List ℕ) → F (s ∷ xs) ≡ f s + F xs

with_first : (F : List ℕ → ℕ) (f : ℕ → ℕ) (s : ℕ) (rest : List ℕ) (b : Bool) → IsSumOf F f
    → F (cond b (s ∷ rest) rest) ≡ cond b (f s) 0 + F rest
with_first F f s rest true is = is.more s rest
with_first F f s rest false is = omega arith

pub parts : (F : List ℕ → ℕ) (f : ℕ → ℕ) (places : List ℕ) (n : ℕ) (segments : List ℕ) → IsSumOf F f
    → ((k : ℕ) → k < length segments → at places (at segments k) < n)
    → sum_by (λ p. F (members places p segments)) (range_with_len 0 n) ≡ F segments
parts F f places n [] is inside = nothing (λ p. F []) (range_with_len 0 n) (λ p. is.none) ∙ sym is.none
parts F f places n (s ∷ segments) is inside =
    let q = at places s in
    let two = two_sums (share q (f s)) (λ p. F (members places p segments))
    (λ p. F (members places p (s ∷ segments))) (range_with_len 0 n)
    (λ p. with_first F f s (members places p segments) (is_at places p s) is) in
    let first = one_share q (f s) 0 n (omega arith) (omega (arith, inside 0 (omega arith))) in
    let later = parts F f places n segments is (λ k h. inside (suc k) (omega (arith, h))) in
    omega (arith, two, first, later, is.more s segments)

pub inside_range : (places : List ℕ) (k : ℕ) → k < length (segments_of places)
    → at places (at (segments_of places) k) < place_count places
inside_range places k h =
    let n = length places in
    let less : k < n = omega (arith, h, length-range_with_len 0 n) in
    let same : at (segments_of places) k ≡ 0 + k = get_or-range_with_len 0 n k 0 less in
    below_count places (at (segments_of places) k) (omega (arith, same, less))

pub add_up : (costs : List ℕ) (found : Findings) (places : List ℕ) → length costs ≡ length places
    → ((s : ℕ) → Contains found.chain s → s < length places)
    → found.work ≡ sum costs
    → sum_by (at costs) found.chain ≡ found.span
    → AddUp costs found places
add_up costs found places each inside work reached =
    let n = place_count places in
    let all = segments_of places in
    let path = found.chain in
    let counts : IsSumOf length (λ s. 1) =
    record { none = refl; more = λ s xs. one_longer s xs } in
    let works : IsSumOf (sum_by (at costs)) (at costs) =
    record { none = refl; more = λ s xs. sum_by-cons (at costs) s xs } in
    let on_path : (k : ℕ) → k < length path → at places (at path k) < n = λ k h.
    below_count places (at path k) (inside (at path k) (k, h, get_or_default path k (at path k) 0 h))
    in
    record {
      segments = parts length (λ s. 1) places n all counts (inside_range places)
          ∙ length-range_with_len 0 (length places);
      work = parts (sum_by (at costs)) (at costs) places n all works (inside_range places)
          ∙ all_work places costs each ∙ sym work;
      on_path = parts length (λ s. 1) places n path counts on_path;
      path = parts (sum_by (at costs)) (at costs) places n path works on_path
          ∙ reached;
    }
  where
    one_longer : (s : ℕ) (xs : List ℕ) → length (s ∷ xs) ≡ 1 + length xs
    one_longer s xs = omega arith

-- ---- one place

later : (x : ℕ) (xs : List ℕ) (s : ℕ) → Contains xs s → Contains (x ∷ xs) s
later x xs s c = (suc c.0, omega (arith, c.1), c.2)

kept : (x s : ℕ) (xs : List ℕ) (b : Bool) → Contains xs s → Contains (cond b (x ∷ xs) xs) s
kept x s xs true c = later x xs s c
kept x s xs false c = c

in_filter : (test : ℕ → Bool) (xs : List ℕ) (s k : ℕ) → k < length xs → get_or xs k s ≡ s
    → test s ≡ true → Contains (filter test xs) s
in_filter test [] s k h e passes = absurd (omega (arith, h))
in_filter test (x ∷ xs) s zero h e passes =
    let here : test x ≡ true = ap test e ∙ passes in
    subst (λ (b : Bool). Contains (cond b (x ∷ filter test xs) (filter test xs)) s) (sym here)
    (0, omega arith, e)
in_filter test (x ∷ xs) s (suc k) h e passes =
    kept x s (filter test xs) (test x) (in_filter test xs s k (omega (arith, h)) e passes)

first_passes : (test : ℕ → Bool) (x s : ℕ) (xs : List ℕ) (b : Bool) → test x ≡ b
    → (Contains xs s → test s ≡ true)
    → (k : ℕ) → k < length (cond b (x ∷ xs) xs) → get_or (cond b (x ∷ xs) xs) k s ≡ s
    → test s ≡ true
first_passes test x s xs true is others zero h e = sym (ap test e) ∙ is
first_passes test x s xs true is others (suc k) h e = others (k, omega (arith, h), e)
first_passes test x s xs false is others k h e = others (k, h, e)

passes_filter : (test : ℕ → Bool) (xs : List ℕ) (s : ℕ) → Contains (filter test xs) s
    → test s ≡ true
passes_filter test [] s c = absurd (omega (arith, c.1))
passes_filter test (x ∷ xs) s c =
    first_passes test x s (filter test xs) (test x) refl (passes_filter test xs s) c.0 c.1 c.2

pub has_place : (places : List ℕ) (s : ℕ) → s < length places → HasPlace places s
has_place places s inside =
    let n = length places in
    let q = at places s in
    let at_s : get_or (range_with_len 0 n) s s ≡ s =
    get_or-range_with_len 0 n s s inside ∙ zero_more s in
    record {
      counts = in_filter (is_at places q) (segments_of places) s s
          (omega (arith, inside, length-range_with_len 0 n)) at_s (eq-eqb q q refl);
      told = below_count places s inside;
    }
  where
    zero_more : (k : ℕ) → 0 + k ≡ k
    zero_more k = omega arith

pub one_place : (places : List ℕ) (p q s : ℕ) → Contains (segments_at places p) s
    → Contains (segments_at places q) s → p ≡ q
one_place places p q s a b =
    let at_p = eqb-true (at places s) p (passes_filter (is_at places p) (segments_of places) s a) in
    let at_q = eqb-true (at places s) q (passes_filter (is_at places q) (segments_of places) s b) in
    sym at_p ∙ at_q

-- ---- the least

not_none : (x : ℕ) (m : Option ℕ) → least_with x m ≡ None → ⊥
not_none x None e = cc
not_none x (Some y) e = cc

empty : (xs : List ℕ) (y : ℕ) → least_of xs ≡ None → Contains xs y → ⊥
empty [] y none c = omega (arith, c.1)
empty (x ∷ xs) y none c = not_none x (least_of xs) none

some_inside : (x : ℕ) (xs : List ℕ) (y : ℕ) → Contains (x ∷ xs) y → (x ≡ y) ⊎ Contains xs y
some_inside x xs y c = by_index c.0 c.1 c.2
  where
    by_index : (k : ℕ) → k < length (x ∷ xs) → get_or (x ∷ xs) k y ≡ y → (x ≡ y) ⊎ Contains xs y
    by_index zero h e = inl e
    by_index (suc k) h e = inr (k, omega (arith, h), e)

first_least : (x : ℕ) (xs : List ℕ) (least : ℕ) (m : Option ℕ) → least_of xs ≡ m
    → ((y : ℕ) → least_of xs ≡ Some y → IsLeast xs y)
    → least_with x m ≡ Some least
    → IsLeast (x ∷ xs) least
first_least x xs least None none others is =
    let same : x ≡ least = cc in
    record {
      stands = (0, omega arith, same);
      below = λ y c. elim (some_inside x xs y c) [
        | inl e ↦ omega (arith, e, same)
        | inr within ↦ absurd (empty xs y none within)
      ];
    }
first_least x xs least (Some z) some others is =
    let before = others z some in
    elim (cases_lt z x) [
      | inl less ↦
          let same : z ≡ least = smaller z x least (omega (arith, less)) is in
          record {
            stands = subst (Contains (x ∷ xs)) same (later x xs z before.stands);
            below = λ y c. elim (some_inside x xs y c) [
              | inl e ↦ omega (arith, e, same, less)
              | inr within ↦ omega (arith, before.below y within, same)
            ];
          }
      | inr more ↦
          let same : x ≡ least = first x z least (omega (arith, more)) is in
          record {
            stands = (0, omega arith, same);
            below = λ y c. elim (some_inside x xs y c) [
              | inl e ↦ omega (arith, e, same)
              | inr within ↦ omega (arith, before.below y within, same, more)
            ];
          }
    ]
  where
    smaller : (a b l : ℕ) → a ≤ b → least_with b (Some a) ≡ Some l → a ≡ l
    smaller a b l less e = let same : min b a ≡ a = omega (arith, less) in cc

    first : (a b l : ℕ) → a ≤ b → least_with a (Some b) ≡ Some l → a ≡ l
    first a b l less e = let same : min a b ≡ a = omega (arith, less) in cc

pub is_least : (numbers : List ℕ) (least : ℕ) → least_of numbers ≡ Some least → IsLeast numbers least
is_least [] least is = absurd (cc)
is_least (x ∷ xs) least is =
    first_least x xs least (least_of xs) refl (λ y e. is_least xs y e) is
