-- How the sums of each place grow with each segment.
use Rattle.std.proofs.Common.{◌≡◌, ◌+◌, ◌<◌, ◌≤◌, ◌∙◌, ◌++◌, ℕ, zero, suc, List, [], ◌∷◌}
use Rattle.std.proofs.Common.{Bool, true, false, Option, Some, None, ap, sym, refl, arith, length, take}
use Rattle.std.proofs.Common.{get_or, set, inl, inr, replicate, sum, map, filter, add-one}
use Rattle.std.proofs.Common.{min, not, sum_by, cond}
use Rattle.std.specs.List.{range_with_len}
use Rattle.std.proofs.lemmas.Bool.{cases_eq, eq-eqb, ne_eqb}
use Rattle.std.proofs.lemmas.List.{get_or-replicate, get_or-set_other, length_push, length-set}
use Rattle.std.proofs.lemmas.List.{get_or_default, map-append, take_all, length-take}
use Rattle.std.proofs.lemmas.List.Elements.{filter_more}
use Rattle.std.proofs.lemmas.List.Filters.{sum_by-filter_both}
use Rattle.std.proofs.lemmas.List.FromFn.{get_or-range_with_len, length-range_with_len}
use Rattle.std.proofs.lemmas.List.Sums.{count_by-le-length, length-filter, sum_by_more, sum_by_more_le}
use Rattle.std.proofs.lemmas.List.Sums.{sum_by_push}
use Rattle.std.proofs.lemmas.Grind.{get_or-set_at}
use Rattle.task_segments.specs.Schedule.{at}
use Rattle.large_documents.specs.Places.{is_at, least_of, least_with, members, no_sums, place_count}
use Rattle.large_documents.specs.Places.{segments_of, sums_among, sums_of}
use Rattle.large_documents.proofs.PlaceCounts.{below_count}
use Rattle.large_documents.specs.PlaceSteps.{ArePlaceSums, IsPathWithin, with_member, with_segment}
use Rattle.large_documents.specs.declared.places.PlaceSums.{PlaceSums}

-- ---- one more segment of a place

swapped : (x y : ℕ) (m : Option ℕ) → least_with x (least_with y m) ≡ least_with y (least_with x m)
swapped x y None = let e : min x y ≡ min y x = omega arith in ap (λ (k : ℕ). Some k) e
swapped x y (Some z) =
    let e : min x (min y z) ≡ min y (min x z) = omega arith in ap (λ (k : ℕ). Some k) e

least_push : (xs : List ℕ) (y : ℕ) → least_of (xs ++ y ∷ []) ≡ least_with y (least_of xs)
least_push [] y = refl
least_push (x ∷ xs) y = ap (least_with x) (least_push xs y) ∙ swapped x y (least_of xs)

grown : (costs slacks mine path : List ℕ) (s : ℕ)
    → sums_of costs slacks (mine ++ s ∷ []) path
    ≡ with_segment (sums_of costs slacks mine path) (at costs s) (at slacks s)
grown costs slacks mine path s =
    let made : ℕ → ℕ → Option ℕ → PlaceSums = λ n work slack. record {
      segments = n;
      work = work;
      on_path = length path;
      path = sum_by (at costs) path;
      slack = slack;
    } in
    let all = mine ++ s ∷ [] in
    let slack : least_of (map (at slacks) all)
    ≡ least_with (at slacks s) (least_of (map (at slacks) mine)) =
    ap least_of (map-append (at slacks) mine (s ∷ []))
    ∙ least_push (map (at slacks) mine) (at slacks s) in
    ap (λ (n : ℕ). made n (sum_by (at costs) all) (least_of (map (at slacks) all)))
    (length_push mine s)
    ∙ ap (λ (w : ℕ). made (length mine + 1) w (least_of (map (at slacks) all)))
    (sum_by_push (at costs) mine s)
    ∙ ap (made (length mine + 1) (sum_by (at costs) mine + at costs s)) slack

grown_path : (costs slacks mine path : List ℕ) (s : ℕ)
    → sums_of costs slacks mine (path ++ s ∷ [])
    ≡ with_member (sums_of costs slacks mine path) (at costs s)
grown_path costs slacks mine path s =
    let made : ℕ → ℕ → PlaceSums = λ n cost. record {
      segments = length mine;
      work = sum_by (at costs) mine;
      on_path = n;
      path = cost;
      slack = least_of (map (at slacks) mine);
    } in
    let all = path ++ s ∷ [] in
    ap (λ (n : ℕ). made n (sum_by (at costs) all)) (length_push path s)
    ∙ ap (made (length path + 1)) (sum_by_push (at costs) path s)

-- ---- one more segment in a list

-- the segment with this index
pub record IsNth (segments : List ℕ) (i s : ℕ) : Type 0 where
  pub inside : i < length segments
  pub is : get_or segments i 0 ≡ s

kept_if : (places : List ℕ) (p : ℕ) (segments : List ℕ) (i s : ℕ) (b : Bool)
    → IsNth segments i s
    → is_at places p s ≡ b
    → members places p (take (i + 1) segments)
    ≡ members places p (take i segments) ++ cond b (s ∷ []) []
kept_if places p segments i s b nth test =
    let before = members places p (take i segments) in
    filter_more (is_at places p) segments i 0 nth.inside
    ∙ ap (λ (t : ℕ). before ++ cond (is_at places p t) (t ∷ []) []) nth.is
    ∙ ap (λ (c : Bool). before ++ cond c (s ∷ []) []) test

append_none : (xs : List ℕ) → xs ++ [] ≡ xs
append_none [] = refl
append_none (x ∷ xs) = ap (λ (l : List ℕ). x ∷ l) (append_none xs)

pub of_place : (places : List ℕ) (segments : List ℕ) (i s : ℕ) → IsNth segments i s
    → members places (at places s) (take (i + 1) segments)
    ≡ members places (at places s) (take i segments) ++ s ∷ []
of_place places segments i s nth =
    kept_if places (at places s) segments i s true nth (eq-eqb (at places s) (at places s) refl)

pub of_other : (places : List ℕ) (p : ℕ) (segments : List ℕ) (i s : ℕ) → IsNth segments i s
    → (p ≡ at places s → ⊥)
    → members places p (take (i + 1) segments) ≡ members places p (take i segments)
of_other places p segments i s nth other =
    kept_if places p segments i s false nth (ne_eqb (at places s) p (λ e. other (sym e)))
    ∙ append_none (members places p (take i segments))

-- ---- one more segment in the sums

-- where the sums of one place are set, and the others stay
set_sums : (sums after : List PlaceSums) (q : ℕ) (v : PlaceSums) (f g : ℕ → PlaceSums)
    → ((p : ℕ) → p < length sums → get_or sums p no_sums ≡ f p)
    → q < length sums
    → after ≡ set sums q v
    → v ≡ g q
    → ((p : ℕ) → (p ≡ q → ⊥) → f p ≡ g p)
    → (p : ℕ) → p < length after → get_or after p no_sums ≡ g p
set_sums sums after q v f g each inside is here there p below =
    let same : length after ≡ length sums = ap length is ∙ length-set sums q v in
    let at_p : get_or after p no_sums ≡ get_or (set sums q v) p no_sums =
    ap (λ (l : List PlaceSums). get_or l p no_sums) is in
    elim (cases_eq p q) [
      | inl e ↦
          at_p ∙ get_or-set_at sums q p v no_sums e inside ∙ here ∙ ap g (sym e)
      | inr e ↦
          at_p ∙ get_or-set_other sums q p v no_sums e
          ∙ each p (omega (arith, below, same)) ∙ there p e
    ]

pub none_yet : (places costs slacks : List ℕ) (sums : List PlaceSums)
    → sums ≡ replicate (place_count places) no_sums
    → ArePlaceSums places costs slacks [] [] sums
none_yet places costs slacks sums is =
    let n = place_count places in
    let count : length sums ≡ n = ap length is ∙ length_of n no_sums in
    record {
      count = count;
      each = λ p below. ap (λ (l : List PlaceSums). get_or l p no_sums) is
          ∙ get_or-replicate n p no_sums no_sums (omega (arith, below, count));
    }
  where
    length_of : (n : ℕ) (x : PlaceSums) → length (replicate n x) ≡ n
    length_of zero x = refl
    length_of (suc n) x = ap (λ (k : ℕ). suc k) (length_of n x)

pub more_segments : (places costs slacks segments path : List ℕ) (sums after : List PlaceSums)
    (i s : ℕ)
    → ArePlaceSums places costs slacks (take i segments) path sums
    → IsNth segments i s
    → at places s < length sums
    → after ≡ set sums (at places s)
    (with_segment (get_or sums (at places s) no_sums) (at costs s) (at slacks s))
    → ArePlaceSums places costs slacks (take (i + 1) segments) path after
more_segments places costs slacks segments path sums after i s so_far nth inside is =
    let q = at places s in
    let v = with_segment (get_or sums q no_sums) (at costs s) (at slacks s) in
    let of_q = members places q path in
    record {
      count = ap length is ∙ length-set sums q v ∙ so_far.count;
      each = set_sums sums after q v
          (sums_among places costs slacks (take i segments) path)
          (sums_among places costs slacks (take (i + 1) segments) path)
          so_far.each inside is
          (ap (λ (x : PlaceSums). with_segment x (at costs s) (at slacks s))
          (so_far.each q inside)
          ∙ sym (grown costs slacks (members places q (take i segments)) of_q s)
          ∙ ap (λ (m : List ℕ). sums_of costs slacks m of_q)
          (sym (of_place places segments i s nth)))
          (λ p other. ap (λ (m : List ℕ). sums_of costs slacks m (members places p path))
          (sym (of_other places p segments i s nth other)));
    }

pub more_path : (places costs slacks segments path : List ℕ) (sums after : List PlaceSums)
    (i s : ℕ)
    → ArePlaceSums places costs slacks segments (take i path) sums
    → IsNth path i s
    → at places s < length sums
    → after ≡ set sums (at places s) (with_member (get_or sums (at places s) no_sums) (at costs s))
    → ArePlaceSums places costs slacks segments (take (i + 1) path) after
more_path places costs slacks segments path sums after i s so_far nth inside is =
    let q = at places s in
    let v = with_member (get_or sums q no_sums) (at costs s) in
    let of_q = members places q segments in
    record {
      count = ap length is ∙ length-set sums q v ∙ so_far.count;
      each = set_sums sums after q v
          (sums_among places costs slacks segments (take i path))
          (sums_among places costs slacks segments (take (i + 1) path))
          so_far.each inside is
          (ap (λ (x : PlaceSums). with_member x (at costs s)) (so_far.each q inside)
          ∙ sym (grown_path costs slacks of_q (members places q (take i path)) s)
          ∙ ap (λ (m : List ℕ). sums_of costs slacks of_q m)
          (sym (of_place places path i s nth)))
          (λ p other. ap (λ (m : List ℕ). sums_of costs slacks (members places p segments) m)
          (sym (of_other places p path i s nth other)));
    }

-- ---- all segments

range_next : (a n : ℕ) → range_with_len a (suc n) ≡ range_with_len a n ++ (a + n) ∷ []
range_next a zero = let e : a ≡ a + 0 = omega arith in ap (λ (k : ℕ). k ∷ []) e
range_next a (suc n) =
    let e : a + 1 + n ≡ a + suc n = omega arith in
    ap (λ (l : List ℕ). a ∷ l) (range_next (a + 1) n
    ∙ ap (λ (k : ℕ). range_with_len (a + 1) n ++ k ∷ []) e)

sum_to : (costs : List ℕ) (n : ℕ) → n ≤ length costs
    → sum_by (at costs) (range_with_len 0 n) ≡ sum (take n costs)
sum_to costs zero inside = refl
sum_to costs (suc n) inside =
    let next : sum_by (at costs) (range_with_len 0 (suc n))
    ≡ sum_by (at costs) (range_with_len 0 n) + at costs (0 + n) =
    ap (sum_by (at costs)) (range_next 0 n)
    ∙ sum_by_push (at costs) (range_with_len 0 n) (0 + n) in
    let place : 0 + n ≡ n = omega arith in
    let here : at costs (0 + n) ≡ at costs n = ap (at costs) place in
    let so_far = sum_to costs n (omega (arith, inside)) in
    let more : sum (take (n + 1) costs) ≡ sum (take n costs) + at costs n =
    sum_by_more (λ x. x) costs n 0 (omega (arith, inside)) in
    let one : sum (take (suc n) costs) ≡ sum (take (n + 1) costs) =
    ap (λ (k : ℕ). sum (take k costs)) (sym (add-one n)) in
    omega (arith, next, here, so_far, more, one)

pub all_work : (places costs : List ℕ) → length costs ≡ length places
    → sum_by (at costs) (segments_of places) ≡ sum costs
all_work places costs each =
    sum_to costs (length places) (omega (arith, each))
    ∙ ap sum (take_all (length places) costs (omega (arith, each)))

-- ---- room

pub room : (f : ℕ → ℕ) (test : ℕ → Bool) (xs : List ℕ) (i s : ℕ) → IsNth xs i s
    → sum_by f (filter test (take i xs)) + f s ≤ sum_by f xs
room f test xs i s nth =
    let parts = sum_by-filter_both test (λ x. not (test x)) (λ x. refl) f (take i xs) in
    let more = sum_by_more_le f xs i 0 nth.inside in
    let same : f (get_or xs i 0) ≡ f s = ap f nth.is in
    omega (arith, parts, more, same)

pub few_members : (places : List ℕ) (p : ℕ) (xs : List ℕ) (i : ℕ)
    → length (members places p (take i xs)) ≤ i
few_members places p xs i =
    omega (
      arith,
      length-filter (is_at places p) (take i xs),
      count_by-le-length (is_at places p) (take i xs),
      length-take i xs,
    )

-- the segment with index i is i
pub nth_segment : (places : List ℕ) (i : ℕ) → i < length places → IsNth (segments_of places) i i
nth_segment places i inside =
    let n = length places in
    let same : 0 + i ≡ i = omega arith in
    record {
      inside = omega (arith, inside, length-range_with_len 0 n);
      is = get_or-range_with_len 0 n i 0 inside ∙ same;
    }

-- ---- what the sums so far leave

module _ (places costs slacks segments path : List ℕ) (sums : List PlaceSums) where
  pub place_inside : ArePlaceSums places costs slacks segments path sums
      → (s : ℕ) → s < length places → at places s < length sums
  place_inside so_far s inside = omega (arith, so_far.count, below_count places s inside)

  pub few_so_far : (i q : ℕ) → ArePlaceSums places costs slacks (take i segments) path sums
      → q < length sums → (get_or sums q no_sums).segments ≤ i
  few_so_far i q so_far inside =
      let same = ap (λ (x : PlaceSums). x.segments) (so_far.each q inside) in
      omega (arith, same, few_members places q segments i)

  pub work_so_far : (i s q : ℕ) → ArePlaceSums places costs slacks (take i segments) path sums
      → IsNth segments i s → q < length sums
      → (get_or sums q no_sums).work + at costs s ≤ sum_by (at costs) segments
  work_so_far i s q so_far nth inside =
      let same = ap (λ (x : PlaceSums). x.work) (so_far.each q inside) in
      omega (arith, same, room (at costs) (is_at places q) segments i s nth)

  pub few_on_path : (i q : ℕ) → ArePlaceSums places costs slacks segments (take i path) sums
      → q < length sums → (get_or sums q no_sums).on_path ≤ i
  few_on_path i q so_far inside =
      let same = ap (λ (x : PlaceSums). x.on_path) (so_far.each q inside) in
      omega (arith, same, few_members places q path i)

  pub path_so_far : (i s q : ℕ) → ArePlaceSums places costs slacks segments (take i path) sums
      → IsNth path i s → q < length sums
      → (get_or sums q no_sums).path + at costs s ≤ sum_by (at costs) path
  path_so_far i s q so_far nth inside =
      let same = ap (λ (x : PlaceSums). x.path) (so_far.each q inside) in
      omega (arith, same, room (at costs) (is_at places q) path i s nth)

-- ---- members of a path

pub nth_member : (items path : List ℕ) (i : ℕ) → items ≡ path → i < length items
    → IsNth path i (at items i)
nth_member items path i same inside = record {
  inside = omega (arith, ap length same, inside);
  is = ap (λ (l : List ℕ). at l i) (sym same);
}

pub member_inside : (places costs items path : List ℕ) (i : ℕ) → items ≡ path
    → IsPathWithin places costs path → i < length items → at items i < length places
member_inside places costs items path i same within inside =
    let nth = nth_member items path i same inside in
    let here : at path i ≡ at items i = nth.is in
    let below = within.inside (at path i) (
      i,
      nth.inside,
      get_or_default path i (at path i) 0 nth.inside,
    ) in
    omega (arith, here, below)
