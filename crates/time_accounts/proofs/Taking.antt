-- Segments in the order of their begins, looked at one after the other: none begins while one that
-- began before it runs on its thread.
use Rattle.std.proofs.Common.{◌≡◌, ℕ, zero, suc, ◌+◌, ◌<◌, ◌≤◌, ◌⊎◌, inl, inr, List, [], ◌∷◌}
use Rattle.std.proofs.Common.{length, refl, ap, sym, ◌∙◌, subst, arith, get_or, nat_eq, sum_by, set}
use Rattle.std.specs.List.Sorted.{IsPermutation}
use Rattle.std.proofs.lemmas.Bool.{cases_Bool, cases_lt, cases_eq, eqb-true, eq-eqb, ne_eqb}
use Rattle.std.proofs.lemmas.List.{get_or_default, get_or-set_same}
use Rattle.std.proofs.lemmas.List.{get_or-set_other}
use Rattle.std.proofs.lemmas.List.Sums.{sum_by-cons, get_or-le-sum_by}
use Rattle.std.proofs.lemmas.List.Sorted.{sum_by-IsPermutation}
use Rattle.task_segments.specs.Schedule.{at}
use Rattle.greedy_sim.proofs.Sums.{one_if}
use Rattle.time_accounts.specs.TimedRun.{TimedRun, Runs, AreApart}
use Rattle.time_accounts.specs.Faults.{BeginsBefore, IsOverlap, IsFirstOverlap}
use Rattle.time_accounts.specs.Checks.{AreByBegin, AreTaken, IsOn, segment_at}

-- 1 for an entry of s
abbrev pub of_segment : ℕ → ℕ × ℕ → ℕ
of_segment s entry = one_if (nat_eq entry.1 s)

-- entries of the segments from one on, in order
abbrev pub AreNumbered : ℕ → List (ℕ × ℕ) → Type 0
AreNumbered from entries = (k : ℕ) → k < length entries → segment_at entries k ≡ from + k

later_numbered : (from : ℕ) (x : ℕ × ℕ) (xs : List (ℕ × ℕ)) → AreNumbered from (x ∷ xs)
    → AreNumbered (from + 1) xs
later_numbered from x xs h k l = h (suc k) (omega (arith, l)) ∙ omega arith

none_below : (s from : ℕ) (entries : List (ℕ × ℕ)) → AreNumbered from entries → s < from
    → sum_by (of_segment s) entries ≡ 0
none_below s from [] h l = refl
none_below s from (x ∷ xs) h l =
    let here : x.1 ≡ from + 0 = h 0 (omega arith) in
    let not_it : of_segment s x ≡ 0 =
    ap one_if (ne_eqb x.1 s (λ e. omega (arith, here, e, l))) in
    omega (
      arith,
      sum_by-cons (of_segment s) x xs,
      not_it,
      none_below s (from + 1) xs (later_numbered from x xs h) (omega (arith, l)),
    )

once_at_most : (s from : ℕ) (entries : List (ℕ × ℕ)) → AreNumbered from entries
    → sum_by (of_segment s) entries ≤ 1
once_at_most s from [] h = omega arith
once_at_most s from (x ∷ xs) h =
    let here : x.1 ≡ from + 0 = h 0 (omega arith) in
    elim (cases_Bool (nat_eq x.1 s)) [
      | inl same ↦
          omega (
            arith,
            sum_by-cons (of_segment s) x xs,
            ap one_if same,
            none_below s (from + 1) xs (later_numbered from x xs h)
                (omega (arith, here, eqb-true x.1 s same)),
          )
      | inr other ↦
          omega (
            arith,
            sum_by-cons (of_segment s) x xs,
            ap one_if other,
            once_at_most s (from + 1) xs (later_numbered from x xs h),
          )
    ]

two_places : (f : ℕ × ℕ → ℕ) (xs : List (ℕ × ℕ)) (i j : ℕ)
    → i < j
    → j < length xs
    → 1 ≤ f (get_or xs i (0, 0))
    → 1 ≤ f (get_or xs j (0, 0))
    → 2 ≤ sum_by f xs
two_places f [] i j less h a b = absurd (omega arith)
two_places f (x ∷ xs) i zero less h a b = absurd (omega arith)
two_places f (x ∷ xs) zero (suc j) less h a b =
    omega (arith, sum_by-cons f x xs, a, b, get_or-le-sum_by f xs j (0, 0) (omega (arith, h)))
two_places f (x ∷ xs) (suc i) (suc j) less h a b =
    omega (
      arith,
      sum_by-cons f x xs,
      two_places f xs i j (omega (arith, less)) (omega (arith, h)) a b,
    )

-- so each segment has one place in a permutation
pub one_place : (entries order : List (ℕ × ℕ)) (i j : ℕ)
    → AreNumbered 0 entries
    → IsPermutation entries order
    → i < j
    → j < length order
    → segment_at order i ≡ segment_at order j
    → ⊥
one_place entries order i j numbered moved less h same =
    let s = segment_at order i in
    let at_i : of_segment s (get_or order i (0, 0)) ≡ 1 = ap one_if (eq-eqb s s refl) in
    let at_j : of_segment s (get_or order j (0, 0)) ≡ 1 =
    ap one_if (eq-eqb (segment_at order j) s (sym same)) in
    omega (
      arith,
      sum_by-IsPermutation (of_segment s) entries order moved,
      once_at_most s 0 entries numbered,
      two_places (of_segment s) order i j less h (omega (arith, at_i)) (omega (arith, at_j)),
    )

before_or_last : (j n : ℕ) → j < n + 1 → (j < n) ⊎ (j ≡ n)
before_or_last j n h = elim (cases_lt j n) [
  | inl less ↦ inl less
  | inr no_less ↦ inr (omega (arith, h, no_less))
]

-- a segment that runs at no moment takes no thread
pub taken_still : (run : TimedRun) (order : List (ℕ × ℕ)) (n : ℕ) (taken : List ℕ)
    → AreTaken run order n taken
    → at run.ends (segment_at order n) ≤ at run.begins (segment_at order n)
    → AreTaken run order (n + 1) taken
taken_still run order n taken so_far none =
    let never : (k : ℕ) → IsOn run order n k → ⊥ = λ k on. omega (arith, none, on.some) in
    record {
      apart = λ i j k less h one other. elim (before_or_last j n h) [
        | inl before ↦ so_far.apart i j k less before one other
        | inr last ↦ absurd (never k (subst (λ (x : ℕ). IsOn run order x k) last other))
      ];
      covered = λ i k h on. elim (before_or_last i n h) [
        | inl before ↦ so_far.covered i k before on
        | inr last ↦ absurd (never k (subst (λ (x : ℕ). IsOn run order x k) last on))
      ];
      of_one = λ k. elim (so_far.of_one k) [
        | inl none_is ↦ inl none_is
        | inr found ↦ inr (found.0, omega (arith, found.1), found.2, found.3)
      ];
    }

-- one that runs takes its thread, where the thread is free
pub taken_by : (run : TimedRun) (order : List (ℕ × ℕ)) (n k end : ℕ) (taken : List ℕ)
    → AreTaken run order n taken
    → IsOn run order n k
    → k < length taken
    → at taken k ≤ at run.begins (segment_at order n)
    → end ≡ at run.ends (segment_at order n)
    → AreTaken run order (n + 1) (set taken k end)
taken_by run order n k end taken so_far on_k h free is_end =
    let here : at (set taken k end) k ≡ end = get_or-set_same taken k end 0 h in
    let thread : (q : ℕ) → IsOn run order n q → q ≡ k = λ q on. sym on.on ∙ on_k.on in
    record {
      apart = λ i j q less l one other. elim (before_or_last j n l) [
        | inl before ↦ so_far.apart i j q less before one other
        | inr last ↦
            let at_last : IsOn run order n q = subst (λ (x : ℕ). IsOn run order x q) last other in
            let on_i : IsOn run order i k =
            subst (λ (x : ℕ). IsOn run order i x) (thread q at_last) one in
            let begins : at run.begins (segment_at order j) ≡ at run.begins (segment_at order n) =
            ap (λ (x : ℕ). at run.begins (segment_at order x)) last in
            omega (arith, so_far.covered i k (omega (arith, less, last)) on_i, free, begins)
      ];
      covered = λ i q l on. elim (before_or_last i n l) [
        | inl before ↦ elim (cases_eq q k) [
          | inl same ↦
              let on_i : IsOn run order i k = subst (λ (x : ℕ). IsOn run order i x) same on in
              omega (
                arith,
                so_far.covered i k before on_i,
                free,
                on_k.some,
                here,
                is_end,
                ap (at (set taken k end)) same,
              )
          | inr other ↦
              omega (
                arith,
                so_far.covered i q before on,
                get_or-set_other taken k q end 0 other,
              )
        ]
        | inr last ↦
            let at_last : IsOn run order n q = subst (λ (x : ℕ). IsOn run order x q) last on in
            omega (
              arith,
              here,
              is_end,
              ap (at (set taken k end)) (thread q at_last),
              ap (λ (x : ℕ). at run.ends (segment_at order x)) last,
            )
      ];
      of_one = λ q. elim (cases_eq q k) [
        | inl same ↦ inr (
          n,
          omega arith,
          subst (λ (x : ℕ). IsOn run order n x) (sym same) on_k,
          sym (ap (at (set taken k end)) same ∙ (here ∙ is_end)),
        )
        | inr other ↦
            let still = get_or-set_other taken k q end 0 other in
            elim (so_far.of_one q) [
              | inl none_is ↦ inl (still ∙ none_is)
              | inr found ↦ inr (
                found.0,
                omega (arith, found.1),
                found.2,
                found.3 ∙ sym still,
              )
            ]
      ];
    }

-- where a segment stands
place_of : (run : TimedRun) (order : List (ℕ × ℕ)) (s : ℕ) → AreByBegin run.begins order
    → s < length run.begins
    → (i : ℕ) × (i < length order) × (segment_at order i ≡ s)
place_of run order s by_begin h =
    let found = by_begin.all s h in (
      found.0,
      found.1,
      ap (λ (e : ℕ × ℕ). e.1)
          (get_or_default order found.0 (0, 0) (at run.begins s, s) found.1 ∙ found.2),
    )

is_on : (run : TimedRun) (order : List (ℕ × ℕ)) (s i k m : ℕ) → segment_at order i ≡ s
    → at run.threads s ≡ k
    → Runs run s m
    → IsOn run order i k
is_on run order s i k m is thread runs = record {
  on = ap (at run.threads) is ∙ thread;
  some = omega (arith, ap (at run.begins) is, ap (at run.ends) is, runs.0, runs.1);
}

-- when all have been looked at, no two run on one thread at one moment
pub all_apart : (run : TimedRun) (order : List (ℕ × ℕ)) (n : ℕ) (taken : List ℕ)
    → AreByBegin run.begins order
    → AreTaken run order n taken
    → length order ≤ n
    → AreApart (length run.begins) run
all_apart run order n taken by_begin so_far long s t m less h same at_s at_t =
    let i = place_of run order s by_begin (omega (arith, less, h)) in
    let j = place_of run order t by_begin h in
    let k = at run.threads t in
    let on_i = is_on run order s i.0 k m i.2 same at_s in
    let on_j = is_on run order t j.0 k m j.2 refl at_t in
    elim (cases_lt i.0 j.0) [
      | inl before ↦
          omega (
            arith,
            so_far.apart i.0 j.0 k before (omega (arith, j.1, long)) on_i on_j,
            ap (at run.ends) i.2,
            ap (at run.begins) j.2,
            at_s.1,
            at_t.0,
          )
      | inr not_before ↦ elim (cases_lt j.0 i.0) [
        | inl after ↦
            omega (
              arith,
              so_far.apart j.0 i.0 k after (omega (arith, i.1, long)) on_j on_i,
              ap (at run.ends) j.2,
              ap (at run.begins) i.2,
              at_t.1,
              at_s.0,
            )
        | inr not_after ↦
            let one : i.0 ≡ j.0 = omega (arith, not_before, not_after) in
            absurd (omega (arith, less, i.2, j.2, ap (segment_at order) one))
      ]
    ]

-- of two segments one begins before the other, and not the other way round
pub not_both : (run : TimedRun) (s t a b : ℕ) → a ≡ s → b ≡ t → BeginsBefore run s t
    → BeginsBefore run b a
    → ⊥
not_both run s t a b same_s same_t (inl less) (inl more) =
    omega (arith, less, more, ap (at run.begins) same_s, ap (at run.begins) same_t)
not_both run s t a b same_s same_t (inl less) (inr more) =
    omega (arith, less, more.0, ap (at run.begins) same_s, ap (at run.begins) same_t)
not_both run s t a b same_s same_t (inr less) (inl more) =
    omega (arith, less.0, more, ap (at run.begins) same_s, ap (at run.begins) same_t)
not_both run s t a b same_s same_t (inr less) (inr more) =
    omega (arith, less.1, more.1, same_s, same_t)

-- the segment at an earlier place begins before the other
pub in_order : (run : TimedRun) (order : List (ℕ × ℕ)) (i j : ℕ) → AreByBegin run.begins order
    → i < j
    → j < length order
    → BeginsBefore run (segment_at order i) (segment_at order j)
in_order run order i j by_begin less h =
    let s = segment_at order i in
    let t = segment_at order j in
    let of_i = by_begin.of_one i (0, 0) (omega (arith, less, h)) in
    let of_j = by_begin.of_one j (0, 0) h in
    let up = by_begin.sorted i j (0, 0) (omega (arith, less)) h in
    elim (cases_lt (at run.begins s) (at run.begins t)) [
      | inl sooner ↦ inl sooner
      | inr no_sooner ↦
          let same : at run.begins s ≡ at run.begins t =
          omega (arith, up, of_i.0, of_i.1, of_j.0, of_j.1, by_begin.few, no_sooner) in
          let order_s : s ≤ t = omega (arith, up, of_i.1, of_j.1, same) in
          elim (cases_lt s t) [
            | inl smaller ↦ inr (same, smaller)
            | inr not_smaller ↦ absurd (by_begin.once i j less h
                (omega (arith, order_s, not_smaller)))
          ]
    ]

-- so one that begins before another stands at an earlier place
earlier_place : (run : TimedRun) (order : List (ℕ × ℕ)) (s t i j : ℕ)
    → AreByBegin run.begins order
    → i < length order
    → segment_at order i ≡ s
    → segment_at order j ≡ t
    → BeginsBefore run s t
    → i < j
earlier_place run order s t i j by_begin h of_s of_t before =
    elim (cases_lt i j) [
      | inl less ↦ less
      | inr no_less ↦ elim (cases_lt j i) [
        | inl more ↦ absurd (not_both run s t (segment_at order i) (segment_at order j) of_s of_t
            before (in_order run order j i by_begin more h))
        | inr no_more ↦
            let one : i ≡ j = omega (arith, no_less, no_more) in
            let same : s ≡ t = sym of_s ∙ (ap (segment_at order) one ∙ of_t) in
            absurd (not_both run s t t s (sym same) same before before)
      ]
    ]

-- a segment that begins while its thread is taken runs at the same time as one that began before
overlaps : (run : TimedRun) (order : List (ℕ × ℕ)) (n k : ℕ) (taken : List ℕ)
    → AreByBegin run.begins order
    → AreTaken run order n taken
    → n < length order
    → IsOn run order n k
    → at run.begins (segment_at order n) < at taken k
    → IsOverlap (length run.begins) run (segment_at order n)
overlaps run order n k taken by_begin so_far h on_n over =
    elim (so_far.of_one k) [
      | inl none ↦ absurd (omega (arith, over, none))
      | inr found ↦
          let i = found.0 in
          let on_i : IsOn run order i k = found.2 in
          let of_i = by_begin.of_one i (0, 0) (omega (arith, found.1, h)) in
          let of_n = by_begin.of_one n (0, 0) h in
          let before = in_order run order i n by_begin found.1 h in
          let begun : at run.begins (segment_at order i) ≤ at run.begins (segment_at order n) =
          elim before [
            | inl less ↦ omega (arith, less)
            | inr same ↦ omega (arith, same.0)
          ] in
          record {
            inside = of_n.0;
            other = segment_at order i;
            other_inside = of_i.0;
            before = before;
            same = on_i.on ∙ sym on_n.on;
            runs = (omega arith, on_n.some);
            other_runs = (begun, omega (arith, found.3, over));
          }
    ]

-- and none of those at earlier places does
none_sooner : (run : TimedRun) (order : List (ℕ × ℕ)) (n : ℕ) (taken : List ℕ)
    → AreByBegin run.begins order
    → AreTaken run order n taken
    → (t : ℕ)
    → IsOverlap (length run.begins) run t
    → BeginsBefore run t (segment_at order n)
    → ⊥
none_sooner run order n taken by_begin so_far t o sooner =
    let j = place_of run order t by_begin o.inside in
    let i = place_of run order o.other by_begin o.other_inside in
    let k = at run.threads t in
    let m = at run.begins t in
    let before_n : j.0 < n =
    earlier_place run order t (segment_at order n) j.0 n by_begin j.1 j.2 refl sooner in
    let before_j : i.0 < j.0 =
    earlier_place run order o.other t i.0 j.0 by_begin i.1 i.2 j.2 o.before in
    let on_i = is_on run order o.other i.0 k m i.2 o.same o.other_runs in
    let on_j = is_on run order t j.0 k m j.2 refl o.runs in
    omega (
      arith,
      so_far.apart i.0 j.0 k before_j before_n on_i on_j,
      ap (at run.ends) i.2,
      ap (at run.begins) j.2,
      o.other_runs.1,
    )

pub first_overlap_at : (run : TimedRun) (order : List (ℕ × ℕ)) (n k : ℕ) (taken : List ℕ)
    → AreByBegin run.begins order
    → AreTaken run order n taken
    → n < length order
    → IsOn run order n k
    → at run.begins (segment_at order n) < at taken k
    → IsFirstOverlap (length run.begins) run (segment_at order n)
first_overlap_at run order n k taken by_begin so_far h on_n over = record {
  overlap = overlaps run order n k taken by_begin so_far h on_n over;
  first = none_sooner run order n taken by_begin so_far;
}

pub overlap-not_apart : (n : ℕ) (run : TimedRun) (s : ℕ) → IsOverlap n run s → AreApart n run → ⊥
overlap-not_apart n run s o apart =
    elim (cases_lt s o.other) [
      | inl less ↦ apart s o.other (at run.begins s) less o.other_inside (sym o.same) o.runs
          o.other_runs
      | inr no_less ↦ elim (cases_lt o.other s) [
        | inl more ↦ apart o.other s (at run.begins s) more o.inside o.same o.other_runs o.runs
        | inr no_more ↦
            let one : o.other ≡ s = omega (arith, no_less, no_more) in
            absurd (not_both run o.other s s o.other (sym one) one o.before o.before)
      ]
    ]
