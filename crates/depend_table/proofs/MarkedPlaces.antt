-- What one more mark does, the numbers at marked places, and the window that the places stand in.
use Rattle.std.proofs.Common.{ℕ, ◌+◌, ◌<◌, ◌≡◌, ◌↔◌, ◌⊎◌, Bool, false, List, [], ◌∷◌, ◌++◌, length}
use Rattle.std.proofs.Common.{All, Bor, map, get_or, set, take, drop, Contains, true, ◌-◌, ◌≤◌, sym, ◌∙◌, ap}
use Rattle.std.proofs.Common.{subst, inl, inr, arith, zero, suc}
use Rattle.std.specs.List.{flat_map}
use Rattle.std.specs.List.Sorted.{IsStrictlyIncreasing}
use Rattle.std.proofs.Math.Seq.{take-append_seam}
use Rattle.std.proofs.lemmas.Bool.{cases_eq, cases_lt, false≢true}
use Rattle.std.proofs.lemmas.List.{get_or-set_same, get_or-set_other, get_or_default, get_or_past}
use Rattle.std.proofs.lemmas.List.{length-set, length-map, get_or-map}
use Rattle.std.proofs.lemmas.List.Elements.{Contains-append_left, Contains-append_right}
use Rattle.std.proofs.lemmas.List.Elements.{Contains-append_cases, Contains-push}
use Rattle.std.proofs.lemmas.List.Elements.{Contains-push_cases}
use Rattle.std.proofs.lemmas.List.Kept.{AllPairs-from_increasing}
use Rattle.depend_table.specs.Lists.{Lists}
use Rattle.depend_table.specs.MarkedPlaces.{AreWithin, IsMarked, AreMarkedToo, IsMarkedNumber}
use Rattle.depend_table.specs.MarkedPlaces.{IsNumberAmong}
use Rattle.depend_table.proofs.Members.{contains_member, member_contains, member_map, member_of_map}
use Rattle.depend_table.proofs.Lists.{lists_push, lists_same}

-- one more place is marked
pub mark_one : (first : ℕ) (old marks : List Bool) (done : List ℕ) (place : ℕ) → first ≤ place
    → place - first < length marks → AreMarkedToo first old marks done
    → AreMarkedToo first old (set marks (place - first) true) (done ++ place ∷ [])
mark_one first old marks done place from within so_far = record {
  same_length = length-set marks (place - first) true ∙ so_far.same_length;
  each = λ p. (there p, back p);
}
  where
    still : (p : ℕ) → IsMarked first marks p → IsMarked first (set marks (place - first) true) p
    still p m =
        elim (cases_eq (p - first) (place - first)) [
          | inl same ↦ (
            m.0,
            ap (λ k. get_or (set marks (place - first) true) k false) same
                ∙ get_or-set_same marks (place - first) true false within,
          )
          | inr other ↦
              (m.0, get_or-set_other marks (place - first) (p - first) true false other ∙ m.1)
        ]

    there : (p : ℕ) → IsMarked first (set marks (place - first) true) p
        → IsMarked first old p ⊎ Contains (done ++ place ∷ []) p
    there p m =
        let above = m.0 in
        elim (cases_eq (p - first) (place - first)) [
          | inl same ↦ let here : place ≡ p = omega arith in
              inr (subst (λ k. Contains (done ++ place ∷ []) k) here (Contains-push done place))
          | inr other ↦
              elim ((so_far.each p).0 (
                m.0,
                sym (get_or-set_other marks (place - first) (p - first) true false other) ∙ m.1,
              )) [
                | inl before ↦ inl before
                | inr listed ↦ inr (Contains-append_left done (place ∷ []) p listed)
              ]
        ]

    back : (p : ℕ) → IsMarked first old p ⊎ Contains (done ++ place ∷ []) p
        → IsMarked first (set marks (place - first) true) p
    back p (inl before) = still p ((so_far.each p).1 (inl before))
    back p (inr listed) =
        elim (Contains-push_cases done place p listed) [
          | inl earlier ↦ still p ((so_far.each p).1 (inr earlier))
          | inr same ↦ subst (λ k. IsMarked first (set marks (place - first) true) k) same
              (from, get_or-set_same marks (place - first) true false within)
        ]

-- the marks of two lists of places, in turn
pub marked_in_turn : (first : ℕ) (old marks : List Bool) (before after : List ℕ)
    → ((place : ℕ) → IsMarked first old place ↔ Contains before place)
    → AreMarkedToo first old marks after
    → (place : ℕ)
    → IsMarked first marks place ↔ Contains (before ++ after) place
marked_in_turn first old marks before after so_far more place = (
  (λ m. elim ((more.each place).0 m) [
    | inl earlier ↦ Contains-append_left before after place ((so_far place).0 earlier)
    | inr new ↦ Contains-append_right before after place new
  ]),
  (λ c. elim (Contains-append_cases before after place c) [
    | inl earlier ↦ (more.each place).1 (inl ((so_far place).1 earlier))
    | inr new ↦ (more.each place).1 (inr new)
  ]),
)

-- past the marks nothing is marked
pub marked_within : (first : ℕ) (marks : List Bool) (place : ℕ) → IsMarked first marks place
    → place < first + length marks
marked_within first marks place marked = grind (arith, cases_lt, false≢true, get_or_past)

-- marks that are written back over as many
pub written_back : (n : ℕ) (old new : List Bool) → length new ≡ length old → n ≡ length old
    → take n (new ++ drop (length new) old) ≡ new
written_back n old new same len =
    ap (λ k. take k (new ++ drop (length new) old)) (len ∙ sym same)
    ∙ take-append_seam new (drop (length new) old)

-- the numbers at marked places, one place further on
pub numbers_unmarked : (first : ℕ) (marks : List Bool) (numbers kept : List ℕ) (i : ℕ)
    → get_or marks (i - first) false ≡ false → Lists (IsMarkedNumber first marks numbers i) kept
    → Lists (IsMarkedNumber first marks numbers (i + 1)) kept
numbers_unmarked first marks numbers kept i unmarked lists =
    lists_same (IsMarkedNumber first marks numbers i) (IsMarkedNumber first marks numbers (i + 1))
    kept lists there back
  where
    there : (m : ℕ)
        → IsMarkedNumber first marks numbers i m
        → IsMarkedNumber first marks numbers (i + 1) m
    there m at_mark =
        let below = at_mark.below in
        record {
          place = at_mark.place;
          below = omega arith;
          marked = at_mark.marked;
          found = at_mark.found;
        }

    back : (m : ℕ)
        → IsMarkedNumber first marks numbers (i + 1) m
        → IsMarkedNumber first marks numbers i m
    back m at_mark =
        let below = at_mark.below in
        let marked = at_mark.marked in
        elim (cases_lt at_mark.place i) [
          | inl less ↦ record {
            place = at_mark.place;
            below = less;
            marked = at_mark.marked;
            found = at_mark.found;
          }
          | inr not_less ↦ let same : at_mark.place ≡ i = omega arith in
              absurd (false≢true
              (sym unmarked ∙ subst (λ k. get_or marks (k - first) false ≡ true) same marked.1))
        ]

pub numbers_marked : (first : ℕ) (marks : List Bool) (numbers kept : List ℕ) (i number : ℕ)
    → i < length numbers
    → IsStrictlyIncreasing numbers
    → IsMarked first marks i
    → get_or numbers i 0 ≡ number
    → Lists (IsMarkedNumber first marks numbers i) kept
    → Lists (IsMarkedNumber first marks numbers (i + 1)) (kept ++ number ∷ [])
numbers_marked first marks numbers kept i number within up marked found lists =
    lists_push (IsMarkedNumber first marks numbers i) (IsMarkedNumber first marks numbers (i + 1))
    kept number lists above there
    (record { place = i; below = omega arith; marked = marked; found = found }) back
  where
    above : (m : ℕ) → IsMarkedNumber first marks numbers i m → m < number
    above m at_mark =
        let before : get_or numbers at_mark.place 0 ≡ m = at_mark.found in
        let less : get_or numbers at_mark.place 0 < get_or numbers i 0 =
        AllPairs-from_increasing numbers up at_mark.place i 0 at_mark.below within in
        omega arith

    there : (m : ℕ)
        → IsMarkedNumber first marks numbers i m
        → IsMarkedNumber first marks numbers (i + 1) m
    there m at_mark =
        let below = at_mark.below in
        record {
          place = at_mark.place;
          below = omega arith;
          marked = at_mark.marked;
          found = at_mark.found;
        }

    back : (m : ℕ) → IsMarkedNumber first marks numbers (i + 1) m
        → IsMarkedNumber first marks numbers i m ⊎ (m ≡ number)
    back m at_mark =
        let below = at_mark.below in
        elim (cases_lt at_mark.place i) [
          | inl less ↦ inl (record {
            place = at_mark.place;
            below = less;
            marked = at_mark.marked;
            found = at_mark.found;
          })
          | inr not_less ↦ let same : at_mark.place ≡ i = omega arith in
              inr (sym at_mark.found ∙ ap (λ k. get_or numbers k 0) same ∙ found)
        ]

-- ascending places stand between the first of them and the last
pub between_ends : (places : List ℕ) → IsStrictlyIncreasing places → 0 < length places
    → AreWithin (get_or places 0 0) (get_or places (length places - 1) 0 + 1) places
between_ends places up some k d h =
    let low : get_or places 0 d ≡ get_or places 0 0 = get_or_default places 0 d 0 some in
    let high : get_or places (length places - 1) d ≡ get_or places (length places - 1) 0 =
    get_or_default places (length places - 1) d 0 (omega arith) in (
      (elim (cases_eq k 0) [
        | inl same ↦ let here : get_or places k d ≡ get_or places 0 d =
            ap (λ i. get_or places i d) same in
            omega arith
        | inr other ↦ let less : get_or places 0 d < get_or places k d =
            AllPairs-from_increasing places up 0 k d (omega arith) h in
            omega arith
      ]),
      (elim (cases_eq k (length places - 1)) [
        | inl same ↦ let here : get_or places k d ≡ get_or places (length places - 1) d =
            ap (λ i. get_or places i d) same in
            omega arith
        | inr other ↦ let less : get_or places k d
            < get_or places (length places - 1) d = AllPairs-from_increasing
            places up k (length places - 1) d (omega arith) (omega arith) in
            omega arith
      ]),
    )

-- a wider window
pub within_wider : (first end from to : ℕ) (places : List ℕ) → from ≤ first → end ≤ to
    → AreWithin first end places
    → AreWithin from to places
within_wider first end from to places lower higher within k d h = grind arith

-- the numbers at the marked places
pub among_marked : (first : ℕ) (marks : List Bool) (end : ℕ) (all numbers kept : List ℕ)
    → ((place : ℕ) → IsMarked first marks place ↔ Contains all place)
    → ((place : ℕ) → IsMarked first marks place → place < end)
    → Lists (IsMarkedNumber first marks numbers end) kept
    → Lists (IsNumberAmong all numbers) kept
among_marked first marks end all numbers kept marked within lists =
    lists_same (IsMarkedNumber first marks numbers end) (IsNumberAmong all numbers) kept lists
    (λ s m. record { place = m.place; among = (marked m.place).0 m.marked; found = m.found })
    (λ s m.
    let at_mark = (marked m.place).1 m.among in
    record {
      place = m.place;
      below = within m.place at_mark;
      marked = at_mark;
      found = m.found;
    })

-- the numbers at ascending places
pub among_ascending : (all places numbers kept : List ℕ)
    → Lists (Contains all) places
    → IsStrictlyIncreasing numbers
    → All (λ place. place < length numbers) places
    → kept ≡ map (λ place. get_or numbers place 0) places
    → Lists (IsNumberAmong all numbers) kept
among_ascending all places numbers kept lists up below is =
    subst (Lists (IsNumberAmong all numbers)) (sym is)
    (record { ascending = ascending; each = λ s. (there s, back s) })
  where
    number_at : ℕ → ℕ
    number_at place = get_or numbers place 0

    ascending : IsStrictlyIncreasing (map number_at places)
    ascending k h =
        let next : k + 1 < length places = omega (arith, length-map places number_at) in
        let less : number_at (get_or places k 0) < number_at (get_or places (k + 1) 0) =
        AllPairs-from_increasing numbers up (get_or places k 0) (get_or places (k + 1) 0) 0
        (lists.ascending k next) (below (k + 1) 0 next) in
        omega (
          arith,
          get_or-map number_at places k 0 0 (omega arith),
          get_or-map number_at places (k + 1) 0 0 next,
        )

    there : (s : ℕ) → Contains (map number_at places) s → IsNumberAmong all numbers s
    there s c =
        let found =
        member_of_map number_at places s (member_contains (map number_at places) s c) in
        record {
          place = found.0;
          among = (lists.each found.0).0 (contains_member found.1);
          found = found.2;
        }

    back : (s : ℕ) → IsNumberAmong all numbers s → Contains (map number_at places) s
    back s m =
        let listed = (lists.each m.place).1 m.among in
        subst (Contains (map number_at places)) m.found
        (contains_member (member_map number_at (member_contains places m.place listed)))

-- where each list stays below a number
pub flat_below : (n : ℕ) (lists : List (Bor (List ℕ))) (place : ℕ)
    → All (λ (one : Bor (List ℕ)). All (λ (p : ℕ). p < n) one.now) lists
    → Contains (flat_map (λ (one : Bor (List ℕ)). one.now) lists) place
    → place < n
flat_below n [] place below c = absurd (omega (arith, c.1))
flat_below n (one ∷ lists) place below c =
    let rest = flat_below n lists place (λ k d h. below (suc k) d (omega arith)) in
    elim (Contains-append_cases one.now (flat_map (λ (o : Bor (List ℕ)). o.now) lists) place c) [
      | inl here ↦
          let less : get_or one.now here.0 place < n =
          below zero one (omega arith) here.0 place here.1 in
          subst (λ (p : ℕ). p < n) here.2 less
      | inr later ↦ rest later
    ]
