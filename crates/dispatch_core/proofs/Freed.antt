-- Those of some ascending numbers that wait for one more, and their counts lowered, one at a time.
use Rattle.std.proofs.Common.{ℕ, Bool, true, false, ◌+◌, ◌-◌, ◌<◌, ◌≡◌, ◌≢◌, ◌↔◌, List, [], ◌∷◌, ◌++◌, Some}
use Rattle.std.proofs.Common.{length, take, get_or, refl, sym, ap, ◌∙◌, subst, arith, inl, inr}
use Rattle.std.specs.Prelude.{slice_get, slice_set, AllPairs, Contains, IsTrue, if◌then◌else◌}
use Rattle.std.specs.List.Sorted.{IsStrictlyIncreasing}
use Rattle.std.proofs.lemmas.Bool.{both_ways}
use Rattle.std.proofs.lemmas.List.{get_or-take, get_or_default, length-take}
use Rattle.std.proofs.lemmas.List.Kept.{AllPairs-from_increasing}
use Rattle.depend_table.specs.Lists.{Lists}
use Rattle.depend_table.proofs.Lists.{lists_push, lists_same}
use Rattle.std.proofs.lemmas.List.Elements.{Contains-get_or}
use Rattle.std.proofs.lemmas.Option.{get_or_from_slice_get, slice_get_within}
use Rattle.open_segments.specs.Counters.{AreLowered, IsCounted}
use Rattle.open_segments.proofs.Falls.{differ_from_once, lower_step, next_cases, next_has, next_here}
use Rattle.open_segments.proofs.Falls.{still_has}

-- those before the next one are smaller
below_next : (list : List ℕ) (k x m : ℕ)
    → IsStrictlyIncreasing list
    → k < length list
    → x ≡ get_or list k x
    → Contains (take k list) m
    → m < x
below_next list k x m up within is has =
    let less : has.0 < k = let inside = has.1 in omega (arith, inside, length-take k list) in
    let same : get_or list has.0 m ≡ m = sym (get_or-take k list has.0 m less) ∙ has.2 in
    let pair : get_or list has.0 m < get_or list k m =
    AllPairs-from_increasing list up has.0 k m less within in
    let at : get_or list k m ≡ x = get_or_default list k m x within ∙ sym is in
    omega (arith, same, pair, at)

pub freed_step : (counts list ready : List ℕ) (k x : ℕ) (keep : Bool)
    → IsStrictlyIncreasing list
    → k < length list
    → x ≡ get_or list k x
    → IsTrue keep ↔ (slice_get counts x ≡ Some 1)
    → Lists (λ t. Contains (take k list) t × (slice_get counts t ≡ Some 1)) ready
    → Lists (λ t. Contains (take (k + 1) list) t × (slice_get counts t ≡ Some 1))
    (if keep then ready ++ x ∷ [] else ready)
freed_step counts list ready k x true up within is passes so_far =
    lists_push (λ t. Contains (take k list) t × (slice_get counts t ≡ Some 1))
    (λ t. Contains (take (k + 1) list) t × (slice_get counts t ≡ Some 1)) ready x so_far
    (λ m h. below_next list k x m up within is h.0)
    (λ m h. (still_has list k x m within h.0, h.1))
    (next_has list k x within is, passes.0 refl)
    (λ m h. elim (next_cases list k x m within is h.0) [
      | inl before ↦ inl (before, h.1)
      | inr same ↦ inr same
    ])
freed_step counts list ready k x false up within is passes so_far =
    lists_same (λ t. Contains (take k list) t × (slice_get counts t ≡ Some 1))
    (λ t. Contains (take (k + 1) list) t × (slice_get counts t ≡ Some 1)) ready so_far
    (λ m h. (still_has list k x m within h.0, h.1))
    (λ m h. elim (next_cases list k x m within is h.0) [
      | inl before ↦ (before, h.1)
      | inr same ↦ absurd (both_ways false refl
          (passes.1 (subst (λ (n : ℕ). slice_get counts n ≡ Some 1) same h.1)))
    ])

once : (list : List ℕ) → IsStrictlyIncreasing list → AllPairs (λ a b. a ≢ b) list
once list up = differ_from_once list (AllPairs-from_increasing list up)

-- the next one is still counted
pub next_counted : (before list now : List ℕ) (k x : ℕ)
    → IsStrictlyIncreasing list
    → k < length list
    → x ≡ get_or list k x
    → ((t : ℕ) → Contains list t → IsCounted before t)
    → AreLowered before (Contains (take k list)) now
    → IsCounted now x
next_counted before list now k x up within is counted so_far =
    let here = counted x
    (subst (λ (n : ℕ). Contains list n) (sym is) (Contains-get_or list k x within)) in
    record {
      fewer = here.fewer;
      is = next_here before list now k x here within is (once list up) so_far;
    }

-- and lowered
pub next_lowered : (before list now : List ℕ) (k x count : ℕ)
    → IsStrictlyIncreasing list
    → k < length list
    → x ≡ get_or list k x
    → AreLowered before (Contains (take k list)) now
    → IsCounted now x
    → count ≡ get_or now x count
    → AreLowered before (Contains (take (k + 1) list)) (slice_set now x (count - 1))
next_lowered before list now k x count up within is so_far counted same =
    let value = get_or_from_slice_get now x (counted.fewer + 1) count counted.is in
    lower_step before list now k x count within is (once list up) so_far
    (counted.is ∙ ap (λ (n : ℕ). Some n) (sym (same ∙ value)))
    (slice_get_within now x (counted.fewer + 1) counted.is)
