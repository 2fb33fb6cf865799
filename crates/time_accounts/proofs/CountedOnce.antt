-- Each moment counts at one segment.
use Rattle.std.proofs.Common.{◌≡◌, ℕ, zero, suc, ◌+◌, ◌<◌, ◌≤◌, ◌⊎◌, inl, inr, List, [], ◌∷◌, length, ap}
use Rattle.std.proofs.Common.{sym, ◌∙◌, refl, arith, map, subst, sum, sum_by}
use Rattle.std.specs.List.{range_with_len}
use Rattle.std.proofs.lemmas.Bool.{cases_eq, cases_lt}
use Rattle.std.proofs.lemmas.List.Sums.{sum-map, sum_by-cons}
use Rattle.task_segments.specs.Schedule.{at}
use Rattle.time_accounts.specs.BySegment.{counted_at}
use Rattle.time_accounts.proofs.Longest.{Earlier, IsLongest, longest_from, part, part_no, part_yes}
use Rattle.time_accounts.proofs.Longest.{part_zero}

-- ---- sums

pub nothing : (f : ℕ → ℕ) (xs : List ℕ) → ((x : ℕ) → f x ≡ 0) → sum_by f xs ≡ 0
nothing f [] each = refl
nothing f (x ∷ xs) each = omega (arith, each x, nothing f xs each, sum_by-cons f x xs)

alike : (f g : ℕ → ℕ) (xs : List ℕ) → ((x : ℕ) → f x ≡ g x) → sum_by f xs ≡ sum_by g xs
alike f g [] each = refl
alike f g (x ∷ xs) each =
    omega (arith, each x, alike f g xs each, sum_by-cons f x xs, sum_by-cons g x xs)

pub two_sums : (f g h : ℕ → ℕ) (xs : List ℕ) → ((x : ℕ) → h x ≡ f x + g x)
    → sum_by h xs ≡ sum_by f xs + sum_by g xs
two_sums f g h [] each = refl
two_sums f g h (x ∷ xs) each =
    omega (
      arith,
      each x,
      two_sums f g h xs each,
      sum_by-cons f x xs,
      sum_by-cons g x xs,
      sum_by-cons h x xs,
    )

-- by rows or by columns
swapped : (h : ℕ → ℕ → ℕ) (ss ms : List ℕ)
    → sum_by (λ s. sum_by (h s) ms) ss ≡ sum_by (λ m. sum_by (λ s. h s m) ss) ms
swapped h [] ms = sym (nothing (λ m. sum_by (λ s. h s m) []) ms (λ m. refl))
swapped h (s ∷ ss) ms =
    omega (
      arith,
      sum_by-cons (λ t. sum_by (h t) ms) s ss,
      swapped h ss ms,
      two_sums (h s) (λ m. sum_by (λ t. h t m) ss) (λ m. sum_by (λ t. h t m) (s ∷ ss)) ms
          (λ m. sum_by-cons (λ t. h t m) s ss),
    )

none_of : (f : ℕ → ℕ) (a n : ℕ) → ((s : ℕ) → a ≤ s → s < a + n → f s ≡ 0)
    → sum_by f (range_with_len a n) ≡ 0
none_of f a zero each = refl
none_of f a (suc n) each =
    omega (
      arith,
      each a (omega arith) (omega arith),
      none_of f (a + 1) n (λ s h l. each s (omega (arith, h)) (omega (arith, l))),
      sum_by-cons f a (range_with_len (a + 1) n),
    )

one_of : (f : ℕ → ℕ) (q a n : ℕ) → a ≤ q → q < a + n
    → ((s : ℕ) → a ≤ s → s < a + n → (s ≡ q → ⊥) → f s ≡ 0)
    → sum_by f (range_with_len a n) ≡ f q
one_of f q a zero from below others = absurd (omega (arith, from, below))
one_of f q a (suc n) from below others = elim (cases_eq a q) [
  | inl here ↦
      omega (
        arith,
        ap f here,
        none_of f (a + 1) n (λ s h l.
            others s (omega (arith, h)) (omega (arith, l)) (λ e. omega (arith, e, here, h))),
        sum_by-cons f a (range_with_len (a + 1) n),
      )
  | inr other ↦
      omega (
        arith,
        others a (omega arith) (omega arith) other,
        one_of f q (a + 1) n (omega (arith, from, other)) (omega (arith, below))
            (λ s h l e. others s (omega (arith, h)) (omega (arith, l)) e),
        sum_by-cons f a (range_with_len (a + 1) n),
      )
]

-- ---- one segment for each moment

module _ (froms tos : List ℕ) where
  -- of the segments below k the one that a moment would count at
  record IsFirstBelow (m k s : ℕ) : Type 0 where
    inside : s < k
    from_then : at froms s ≤ m
    before : m < at tos s
    first : (r : ℕ) → r < k → at froms r ≤ m → m < at tos r → Earlier froms tos r s → ⊥

  abbrev NoneBelow : ℕ → ℕ → Type 0
  NoneBelow m k = (r : ℕ) → r < k → at froms r ≤ m → m < at tos r → ⊥

  not_itself : (s : ℕ) → Earlier froms tos s s → ⊥
  not_itself s (inl less) = omega (arith, less)
  not_itself s (inr same) = omega (arith, same.1)

  not_back : (r s : ℕ) → Earlier froms tos r s → Earlier froms tos s r → ⊥
  not_back r s (inl a) (inl b) = omega (arith, a, b)
  not_back r s (inl a) (inr b) = omega (arith, a, b.0)
  not_back r s (inr a) (inl b) = omega (arith, a.0, b)
  not_back r s (inr a) (inr b) = omega (arith, a.1, b.1)

  one_or_other : (r s : ℕ) → (r ≡ s → ⊥) → Earlier froms tos r s ⊎ Earlier froms tos s r
  one_or_other r s other = elim (cases_lt (at froms r) (at froms s)) [
    | inl less ↦ inl (inl less)
    | inr not_less ↦ elim (cases_lt (at froms s) (at froms r)) [
      | inl more ↦ inr (inl more)
      | inr not_more ↦ elim (cases_lt r s) [
        | inl smaller ↦ inl (inr (omega (arith, not_less, not_more), smaller))
        | inr not_smaller ↦ inr (inr (
          omega (arith, not_less, not_more),
          omega (arith, not_smaller, other),
        ))
      ]
    ]
  ]

  -- r before k, and k before s
  through : (r k s : ℕ) → Earlier froms tos r k → Earlier froms tos k s → Earlier froms tos r s
  through r k s (inl a) (inl b) = inl (omega (arith, a, b))
  through r k s (inl a) (inr b) = inl (omega (arith, a, b.0))
  through r k s (inr a) (inl b) = inl (omega (arith, a.0, b))
  through r k s (inr a) (inr b) = inr (omega (arith, a.0, b.0), omega (arith, a.1, b.1))

  below_or_last : (r k : ℕ) → r < suc k → (r < k) ⊎ (r ≡ k)
  below_or_last r k h = elim (cases_lt r k) [
    | inl less ↦ inl less
    | inr no_less ↦ inr (omega (arith, h, no_less))
  ]

  abbrev Found : ℕ → ℕ → Type 0
  Found m k = NoneBelow m k ⊎ ((s : ℕ) × IsFirstBelow m k s)

  -- the one that was found stays, unless the next one comes before it
  stays : (m k s : ℕ) → IsFirstBelow m k s
      → (at froms k ≤ m → m < at tos k → Earlier froms tos k s → ⊥)
      → IsFirstBelow m (suc k) s
  stays m k s found not_k = record {
    inside = omega (arith, found.inside);
    from_then = found.from_then;
    before = found.before;
    first = λ r h a b earlier. elim (below_or_last r k h) [
      | inl less ↦ found.first r less a b earlier
      | inr last ↦
          not_k (omega (arith, a, ap (at froms) last)) (omega (arith, b, ap (at tos) last))
          (subst (λ (x : ℕ). Earlier froms tos x s) last earlier)
    ];
  }

  -- or the next one is the first
  goes : (m k : ℕ) → at froms k ≤ m → m < at tos k
      → ((r : ℕ) → r < k → at froms r ≤ m → m < at tos r → Earlier froms tos r k → ⊥)
      → IsFirstBelow m (suc k) k
  goes m k from_then before none = record {
    inside = omega arith;
    from_then = from_then;
    before = before;
    first = λ r h a b earlier. elim (below_or_last r k h) [
      | inl less ↦ none r less a b earlier
      | inr last ↦ not_itself k (subst (λ (x : ℕ). Earlier froms tos x k) last earlier)
    ];
  }

  -- one that the moment does not lie within
  passed_over : (m k : ℕ) → (at froms k ≤ m → m < at tos k → ⊥) → Found m k → Found m (suc k)
  passed_over m k never (inl none) = inl (λ r h a b. elim (below_or_last r k h) [
    | inl less ↦ none r less a b
    | inr last ↦
        never (omega (arith, a, ap (at froms) last)) (omega (arith, b, ap (at tos) last))
  ])
  passed_over m k never (inr found) =
      inr (found.0, stays m k found.0 found.1 (λ a b earlier. never a b))

  taken_up : (m k : ℕ) → at froms k ≤ m → m < at tos k → Found m k → Found m (suc k)
  taken_up m k from_then before (inl none) =
      inr (k, goes m k from_then before (λ r less a b earlier. none r less a b))
  taken_up m k from_then before (inr found) =
      let s = found.0 in
      elim (one_or_other s k (λ e. omega (arith, e, found.1.inside))) [
        | inl sooner ↦ inr (s, stays m k s found.1 (λ a b earlier. not_back s k sooner earlier))
        | inr later ↦ inr (
          k,
          goes m k from_then before (λ r less a b earlier.
              found.1.first r less a b (through r k s earlier later)),
        )
      ]

  find : (m k : ℕ) → Found m k
  find m zero = inl (λ r h a b. omega (arith, h))
  find m (suc k) = elim (cases_lt m (at froms k)) [
    | inl sooner ↦ passed_over m k (λ a b. omega (arith, a, sooner)) (find m k)
    | inr from_then ↦ elim (cases_lt m (at tos k)) [
      | inl before ↦ taken_up m k from_then before (find m k)
      | inr later ↦ passed_over m k (λ a b. omega (arith, b, later)) (find m k)
    ]
  ]

  -- what a moment has counts at one segment, if it lies within the numbers of one
  counted_once : (told : ℕ → ℕ) (m r : ℕ) → r < length froms → at froms r ≤ m → m < at tos r
      → sum_by (λ s. part froms tos told s m) (range_with_len 0 (length froms)) ≡ told m
  counted_once told m r inside from_then before =
      let n = length froms in
      elim (find m n) [
        | inl none ↦ absurd (none r inside from_then before)
        | inr found ↦
            let s = found.0 in
            let is : IsLongest froms tos m s = record {
              from_then = found.1.from_then;
              before = found.1.before;
              first = found.1.first;
            } in
            one_of (λ t. part froms tos told t m) s 0 n (omega arith)
            (omega (arith, found.1.inside))
            (λ t h l other. part_no froms tos told t m (λ also.
            elim (one_or_other t s other) [
              | inl sooner ↦
                  is.first t (omega (arith, l)) also.from_then also.before sooner
              | inr later ↦
                  also.first s found.1.inside is.from_then is.before later
            ]))
            ∙ part_yes froms tos told s m (longest_from froms tos m s is)
      ]

  -- all segments together have what the moments have
  pub all_counted : (told : ℕ → ℕ) (ms : List ℕ)
      → ((m : ℕ) → (told m ≡ 0)
      ⊎ ((r : ℕ) × (r < length froms) × (at froms r ≤ m) × (m < at tos r)))
      → sum (map (counted_at told froms tos ms) (range_with_len 0 (length froms)))
      ≡ sum_by told ms
  all_counted told ms some =
      let all = range_with_len 0 (length froms) in
      sum-map (counted_at told froms tos ms) all
      ∙ swapped (part froms tos told) all ms
      ∙ alike (λ m. sum_by (λ s. part froms tos told s m) all) told ms (λ m.
      elim (some m) [
        | inl none ↦
            nothing (λ s. part froms tos told s m) all (λ s. part_zero froms tos told s m none)
            ∙ sym none
        | inr found ↦ counted_once told m found.0 found.1 found.2 found.3
      ])
