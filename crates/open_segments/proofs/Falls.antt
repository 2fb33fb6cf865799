-- How a finish changes the counts.
use Rattle.std.proofs.Common.{ℕ, ◌+◌, ◌-◌, ◌<◌, ◌≡◌, ◌≢◌, ◌⊎◌, ◌↔◌, zero, suc, Bool, true, false}
use Rattle.std.proofs.Common.{List, [], ◌∷◌, Option, Some, None, length, cond, take, get_or}
use Rattle.std.proofs.Common.{refl, sym, ap, ◌∙◌, subst, arith, inl, inr}
use Rattle.std.specs.Prelude.{slice_get, slice_set, slice_index_or, Contains, is_none}
use Rattle.std.specs.Prelude.{AllPairs}
use Rattle.std.proofs.lemmas.Bool.{cases_eq}
use Rattle.std.proofs.lemmas.Option.{same_Some}
use Rattle.std.proofs.lemmas.List.Sums.{sum_by-cons}
use Rattle.std.proofs.lemmas.List.Kept.{AllPairs-from_increasing}
use Rattle.std.proofs.lemmas.List.{length-set, get_or-take, length-take, take_more}
use Rattle.std.proofs.lemmas.List.Elements.{Contains-append_left, Contains-push}
use Rattle.std.proofs.lemmas.List.Elements.{Contains-push_cases}
use Rattle.depend_table.specs.Lists.{Lists}
use Rattle.depend_table.proofs.Lists.{cases_contains}
use Rattle.open_segments.specs.Entry.{entry}
use Rattle.open_segments.specs.Counters.{unfinished_count, AreCounts, IsCounted, AreLowered}
use Rattle.open_segments.specs.NumberLists.{IsListed}
use Rattle.open_segments.proofs.PlaceLemmas.{get-set_same, get-set_other, entry-set_same}
use Rattle.open_segments.proofs.PlaceLemmas.{entry-set_other}

tail_has : (x n : ℕ) (xs : List ℕ) (k : ℕ)
    → k < length (x ∷ xs)
    → slice_index_or (x ∷ xs) k n ≡ n
    → ¬ (x ≡ n)
    → Contains xs n
tail_has x n xs zero within is apart = absurd (apart is)
tail_has x n xs (suc k) within is apart = (k, omega (arith, within), is)

-- once each: none of the later ones is the same
abbrev pub IsOnce : List ℕ → Type 0
IsOnce [] = Unit {0}
IsOnce (x ∷ xs) = (¬ Contains xs x) × IsOnce xs

pub add_one : (values : List (Option ℕ)) (x : ℕ) (xs : List ℕ)
    → unfinished_count values (x ∷ xs)
    ≡ cond {A = ℕ} (is_none (entry values x)) 1 0 + unfinished_count values xs
add_one values x xs = sum_by-cons (λ y. cond {A = ℕ} (is_none (entry values y)) 1 0) x xs

pub count_stays : (values : List (Option ℕ)) (s v : ℕ) (list : List ℕ)
    → ¬ Contains list s
    → unfinished_count (slice_set values s (Some v)) list ≡ unfinished_count values list
count_stays values s v [] none = refl
count_stays values s v (x ∷ xs) none =
    let apart : x ≢ s = λ same. none (0, omega arith, same) in
    let rest =
    count_stays values s v xs
    (λ h. none (suc h.0, (let is_within = h.1 in omega (arith, is_within)), h.2)) in
    add_one (slice_set values s (Some v)) x xs
    ∙ ap
    (λ (o : Option ℕ).
    cond {A = ℕ} (is_none o) 1 0 + unfinished_count (slice_set values s (Some v)) xs)
    (entry-set_other values s x (Some v) apart)
    ∙ ap (λ (n : ℕ). cond {A = ℕ} (is_none (entry values x)) 1 0 + n) rest
    ∙ sym (add_one values x xs)

pub count_falls : (values : List (Option ℕ)) (s v : ℕ) (list : List ℕ)
    → s < length values
    → entry values s ≡ None
    → IsOnce list
    → Contains list s
    → unfinished_count (slice_set values s (Some v)) list + 1 ≡ unfinished_count values list
count_falls values s v [] within none once has = let is_within = has.1 in
    absurd (omega (arith, is_within))
count_falls values s v (x ∷ xs) within none once has = elim (cases_eq x s) [
  | inl same ↦
      let after = add_one (slice_set values s (Some v)) x xs in
      let before = add_one values x xs in
      let rest = count_stays values s v xs (subst (λ (n : ℕ). ¬ Contains xs n) same once.0) in
      let now : cond {A = ℕ} (is_none (entry (slice_set values s (Some v)) x)) 1 0 ≡ 0 =
      ap (λ (n : ℕ). cond {A = ℕ} (is_none (entry (slice_set values s (Some v)) n)) 1 0) same
      ∙ ap (λ (o : Option ℕ). cond {A = ℕ} (is_none o) 1 0) (entry-set_same values s v within) in
      let was : cond {A = ℕ} (is_none (entry values x)) 1 0 ≡ 1 =
      ap (λ (n : ℕ). cond {A = ℕ} (is_none (entry values n)) 1 0) same
      ∙ ap (λ (o : Option ℕ). cond {A = ℕ} (is_none o) 1 0) none in
      omega (arith, after, before, rest, now, was)
  | inr apart ↦
      let after = add_one (slice_set values s (Some v)) x xs in
      let before = add_one values x xs in
      let rest =
      count_falls values s v xs within none once.1 (tail_has x s xs has.0 has.1 has.2 apart) in
      let same : cond {A = ℕ} (is_none (entry (slice_set values s (Some v)) x)) 1 0
      ≡ cond {A = ℕ} (is_none (entry values x)) 1 0 =
      ap (λ (o : Option ℕ). cond {A = ℕ} (is_none o) 1 0) (entry-set_other values s x (Some v) apart) in
      omega (arith, after, before, rest, same)
]

-- nothing is left to count exactly where all have a value
pub none_left : (values : List (Option ℕ)) (list : List ℕ)
    → unfinished_count values list ≡ 0
    → (p : ℕ)
    → Contains list p
    → is_none (entry values p) ≡ false
none_left values [] zero_left p has = let is_within = has.1 in absurd (omega (arith, is_within))
none_left values (x ∷ xs) zero_left p has =
    let parts = add_one values x xs in
    elim (cases_eq x p) [
      | inl same ↦ subst (λ (n : ℕ). is_none (entry values n) ≡ false) same
          (no_one (is_none (entry values x)) (omega (arith, parts, zero_left)))
      | inr apart ↦ none_left values xs (omega (arith, parts, zero_left)) p
          (tail_has x p xs has.0 has.1 has.2 apart)
    ]
  where
    no_one : (b : Bool) → cond {A = ℕ} b 1 0 ≡ 0 → b ≡ false
    no_one true h = absurd (omega (arith, h))
    no_one false h = refl

pub all_counted : (values : List (Option ℕ)) (list : List ℕ)
    → ((p : ℕ) → Contains list p → is_none (entry values p) ≡ false)
    → unfinished_count values list ≡ 0
all_counted values [] all = refl
all_counted values (x ∷ xs) all =
    let here : cond {A = ℕ} (is_none (entry values x)) 1 0 ≡ 0 =
    ap (λ (b : Bool). cond {A = ℕ} b 1 0) (all x (0, omega arith, refl)) in
    let rest =
    all_counted values xs
    (λ p h. all p (suc h.0, (let is_within = h.1 in omega (arith, is_within)), h.2)) in
    omega (arith, add_one values x xs, here, rest)

pub once_from_pairs : (xs : List ℕ) → AllPairs (λ x y. x < y) xs → IsOnce xs
once_from_pairs [] pairs = tt
once_from_pairs (x ∷ xs) pairs = (
  λ h.
      let less : x < slice_index_or xs h.0 x =
      pairs 0 (suc h.0) x (omega arith) (let is_within = h.1 in omega (arith, is_within)) in
      let same = h.2 in
      absurd (omega (arith, less, same)),
  once_from_pairs xs (λ i j d less within. pairs (suc i) (suc j) d (omega arith) (omega arith)),
)

pub once_listed : (P : ℕ → Type 0) (list : List ℕ) → Lists P list → IsOnce list
once_listed P list lists = once_from_pairs list (AllPairs-from_increasing list lists.ascending)

pub differ_from_once : (xs : List ℕ) → AllPairs (λ x y. x < y) xs → AllPairs (λ x y. x ≢ y) xs
differ_from_once xs pairs i j d less within same =
    let below = pairs i j d less within in omega (arith, below, same)

-- the next one is none of those before it
pub fresh_next : (list : List ℕ) (k x : ℕ)
    → k < length list
    → x ≡ get_or list k x
    → AllPairs (λ a b. a ≢ b) list
    → ¬ Contains (take k list) x
fresh_next list k x within is once has = grind (arith, length-take, get_or-take)

pub next_cases : (list : List ℕ) (k x t : ℕ)
    → k < length list
    → x ≡ get_or list k x
    → Contains (take (k + 1) list) t
    → Contains (take k list) t ⊎ (t ≡ x)
next_cases list k x t within is has =
    elim (Contains-push_cases (take k list) (get_or list k x) t
    (subst (λ (l : List ℕ). Contains l t) (take_more list k x within) has)) [
      | inl before ↦ inl before
      | inr same ↦ inr (sym same ∙ sym is)
    ]

pub still_has : (list : List ℕ) (k x t : ℕ)
    → k < length list
    → Contains (take k list) t
    → Contains (take (k + 1) list) t
still_has list k x t within has =
    subst (λ (l : List ℕ). Contains l t) (sym (take_more list k x within))
    (Contains-append_left (take k list) (get_or list k x ∷ []) t has)

pub next_has : (list : List ℕ) (k x : ℕ)
    → k < length list
    → x ≡ get_or list k x
    → Contains (take (k + 1) list) x
next_has list k x within is =
    subst (λ (n : ℕ). Contains (take (k + 1) list) n) (sym is) (subst
    (λ (l : List ℕ). Contains l (get_or list k x)) (sym (take_more list k x within))
    (Contains-push (take k list) (get_or list k x)))

pub lower_step : (before list now : List ℕ) (k x c : ℕ)
    → k < length list
    → x ≡ get_or list k x
    → AllPairs (λ a b. a ≢ b) list
    → AreLowered before (Contains (take k list)) now
    → slice_get now x ≡ Some c
    → x < length now
    → AreLowered before (Contains (take (k + 1) list)) (slice_set now x (c - 1))
lower_step before list now k x c within is once so_far here x_within = record {
  each = length-set now x (c - 1) ∙ so_far.each;
  lowered = λ t n has was. elim (cases_eq t x) [
    | inl same ↦
        let fresh : ¬ Contains (take k list) t = subst (λ (m : ℕ). ¬ Contains (take k list) m)
        (sym same) (fresh_next list k x within is once) in
        let count : c ≡ n + 1 = same_Some c (n + 1)
        (sym here ∙ ap (λ (m : ℕ). slice_get now m) (sym same) ∙ so_far.others t fresh ∙ was) in
        let less : c - 1 ≡ n = omega (arith, count) in
        ap (λ (m : ℕ). slice_get (slice_set now x (c - 1)) m) same
        ∙ get-set_same now x (c - 1) x_within
        ∙ ap (λ (m : ℕ). Some m) less
    | inr apart ↦ elim (next_cases list k x t within is has) [
      | inl earlier ↦ get-set_other now x t (c - 1) apart ∙ so_far.lowered t n earlier was
      | inr same ↦ absurd (apart same)
    ]
  ];
  others = λ t none.
      let apart : t ≢ x = λ same. none (subst (λ (m : ℕ). Contains (take (k + 1) list) m) (sym same)
      (next_has list k x within is)) in
      get-set_other now x t (c - 1) apart
      ∙ so_far.others t (λ has. none (still_has list k x t within has));
}

-- after a finish the counts are those of the values then
pub counts_after : (values : List (Option ℕ)) (preds : List (List ℕ)) (counts after : List ℕ)
    (s v : ℕ)
    → s < length values
    → entry values s ≡ None
    → ((t : ℕ) (list : List ℕ) → slice_get preds t ≡ Some list → IsOnce list)
    → AreCounts values preds counts
    → AreLowered counts (λ t. IsListed preds t s) after
    → AreCounts (slice_set values s (Some v)) preds after
counts_after values preds counts after s v within none once are_counts lowered = record {
  each = lowered.each ∙ are_counts.each;
  counted = λ t found is. elim (cases_contains found s) [
    | inl has ↦
        let falls = count_falls values s v found within none (once t found is) has in
        lowered.lowered t (unfinished_count (slice_set values s (Some v)) found)
        (record { list = found; is_list = is; has = has })
        (are_counts.counted t found is ∙ ap (λ (n : ℕ). Some n) (sym falls))
    | inr not_has ↦
        lowered.others t (λ listed. not_has (subst (λ (l : List ℕ). Contains l s)
        (same_Some listed.list found (sym listed.is_list ∙ is)) listed.has))
        ∙ are_counts.counted t found is
        ∙ ap (λ (n : ℕ). Some n) (sym (count_stays values s v found not_has))
  ];
}

-- a segment with a predecessor that is not finished is counted
pub counted_above : (values : List (Option ℕ)) (preds : List (List ℕ)) (counts : List ℕ) (s t : ℕ)
    → s < length values
    → entry values s ≡ None
    → ((u : ℕ) (list : List ℕ) → slice_get preds u ≡ Some list → IsOnce list)
    → AreCounts values preds counts
    → IsListed preds t s
    → IsCounted counts t
counted_above values preds counts s t within none once are_counts listed =
    let falls =
    count_falls values s 0 listed.list within none (once t listed.list listed.is_list) listed.has in
    record {
      fewer = unfinished_count (slice_set values s (Some 0)) listed.list;
      is = are_counts.counted t listed.list listed.is_list ∙ ap (λ (n : ℕ). Some n) (sym falls);
    }

-- the count that is lowered next is still as it was
pub next_here : (before list now : List ℕ) (k x : ℕ) (counted : IsCounted before x)
    → k < length list
    → x ≡ get_or list k x
    → AllPairs (λ a b. a ≢ b) list
    → AreLowered before (Contains (take k list)) now
    → slice_get now x ≡ Some (counted.fewer + 1)
next_here before list now k x counted within is once so_far =
    so_far.others x (fresh_next list k x within is once) ∙ counted.is

pub lowered_like : (before after : List ℕ) (P Q : ℕ → Type 0) → ((t : ℕ) → P t ↔ Q t)
    → AreLowered before P after → AreLowered before Q after
lowered_like before after P Q same lowered = grind arith
