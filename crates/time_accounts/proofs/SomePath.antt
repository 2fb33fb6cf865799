-- Each run has a path of its own.
use Rattle.std.proofs.Common.{◌≡◌, ℕ, zero, suc, ◌-◌, ◌<◌, ◌≤◌, ◌⊎◌, inl, inr, List, [], ◌∷◌}
use Rattle.std.proofs.Common.{length, ap, subst, refl, arith, Contains, Some, slice_get, get_or}
use Rattle.std.proofs.lemmas.Bool.{cases_lt}
use Rattle.task_segments.specs.Schedule.{at, IsChain}
use Rattle.task_segments.specs.StartsAndTails.{IsAscending}
use Rattle.dispatch_core.specs.RecordedGraph.{RecordedGraph, Precedes, predecessors_of}
use Rattle.greedy_sim.proofs.Sums.{strong_induction}
use Rattle.time_accounts.specs.TimedRun.{TimedRun, IsTimedRun}
use Rattle.time_accounts.specs.OwnPath.{IsLastBefore, IsOwnPath}

pub first_or_later : (x : ℕ) (xs : List ℕ) (q : ℕ) → Contains (x ∷ xs) q → (x ≡ q) ⊎ Contains xs q
first_or_later x xs q k =
    elim k.0 as (λ i. i < length (x ∷ xs) → get_or (x ∷ xs) i q ≡ q → (x ≡ q) ⊎ Contains xs q) [
      | zero ↦ (λ _ e. inl e)
      | suc i ↦ (λ h e. inr (i, omega (arith, h), e))
    ] k.1 k.2

-- s ends after r, or at the same moment and its number is no greater
abbrev EndsAfter : List ℕ → ℕ → ℕ → Type 0
EndsAfter ends s r = (at ends r < at ends s) ⊎ ((at ends r ≡ at ends s) × (s ≤ r))

no_sooner : (ends : List ℕ) (s r : ℕ) → EndsAfter ends s r → at ends r ≤ at ends s
no_sooner ends s r (inl less) = omega (arith, less)
no_sooner ends s r (inr same) = omega (arith, same.0)

no_greater : (ends : List ℕ) (s r : ℕ) → EndsAfter ends s r → at ends r ≡ at ends s → s ≤ r
no_greater ends s r (inl less) e = absurd (omega (arith, less, e))
no_greater ends s r (inr same) e = same.1

after_same : (ends : List ℕ) (s r : ℕ) → s ≡ r → EndsAfter ends s r
after_same ends s r e = inr (omega (arith, ap (at ends) e), omega (arith, e))

after_trans : (ends : List ℕ) (s r q : ℕ) → EndsAfter ends s r → EndsAfter ends r q
    → EndsAfter ends s q
after_trans ends s r q (inl less) (inl more) = inl (omega (arith, less, more))
after_trans ends s r q (inl less) (inr same) = inl (omega (arith, less, same.0))
after_trans ends s r q (inr same) (inl more) = inl (omega (arith, same.0, more))
after_trans ends s r q (inr same) (inr again) =
    inr (omega (arith, same.0, again.0), omega (arith, same.1, again.1))

one_after : (ends : List ℕ) (s r : ℕ) → EndsAfter ends s r ⊎ EndsAfter ends r s
one_after ends s r = elim (cases_lt (at ends r) (at ends s)) [
  | inl less ↦ inl (inl less)
  | inr no_less ↦ elim (cases_lt (at ends s) (at ends r)) [
    | inl more ↦ inr (inl more)
    | inr no_more ↦ elim (cases_lt r s) [
      | inl smaller ↦ inr (inr (omega (arith, no_less, no_more), omega (arith, smaller)))
      | inr not_smaller ↦ inl (inr (omega (arith, no_less, no_more), not_smaller))
    ]
  ]
]

-- of these segments, this one ends last
record IsLastOf (ends segments : List ℕ) (r : ℕ) : Type 0 where
  member : Contains segments r
  after : (q : ℕ) → Contains segments q → EndsAfter ends r q

last_of : (ends segments : List ℕ)
    → ((r : ℕ) → Contains segments r → ⊥) ⊎ ((r : ℕ) × IsLastOf ends segments r)
last_of ends [] = inl (λ r k. absurd (omega (arith, k.1)))
last_of ends (s ∷ rest) =
    elim (last_of ends rest) [
      | inl none ↦ inr (
        s,
        record {
          member = (0, omega arith, refl);
          after = λ q k. elim (first_or_later s rest q k) [
            | inl same ↦ after_same ends s q same
            | inr later ↦ absurd (none q later)
          ];
        },
      )
      | inr found ↦
          let r = found.0 in
          let is = found.1 in
          elim (one_after ends s r) [
            | inl first ↦ inr (
              s,
              record {
                member = (0, omega arith, refl);
                after = λ q k. elim (first_or_later s rest q k) [
                  | inl same ↦ after_same ends s q same
                  | inr later ↦ after_trans ends s r q first (is.after q later)
                ];
              },
            )
            | inr later ↦ inr (
              r,
              record {
                member = (suc is.member.0, omega (arith, is.member.1), is.member.2);
                after = λ q k. elim (first_or_later s rest q k) [
                  | inl same ↦ after_trans ends r s q later (after_same ends s q same)
                  | inr among ↦ is.after q among
                ];
              },
            )
          ]
    ]

-- of the segments up to n, one ends last
last_upto : (ends : List ℕ) (n : ℕ)
    → (r : ℕ) × (r ≤ n) × ((q : ℕ) → q ≤ n → EndsAfter ends r q)
last_upto ends zero = (0, omega arith, λ q h. after_same ends 0 q (omega (arith, h)))
last_upto ends (suc n) =
    let found = last_upto ends n in
    elim (one_after ends (suc n) found.0) [
      | inl first ↦ (
        suc n,
        omega arith,
        λ q h. elim (cases_lt q (suc n)) [
          | inl before ↦
              after_trans ends (suc n) found.0 q first (found.2 q (omega (arith, before)))
          | inr last ↦ after_same ends (suc n) q (omega (arith, h, last))
        ],
      )
      | inr later ↦ (
        found.0,
        omega (arith, found.1),
        λ q h. elim (cases_lt q (suc n)) [
          | inl before ↦ found.2 q (omega (arith, before))
          | inr last ↦
              after_trans ends found.0 (suc n) q later
              (after_same ends (suc n) q (omega (arith, h, last)))
        ],
      )
    ]

-- a path of the run's own, up to a last member
record LeadsFar (n : ℕ) (R : ℕ → ℕ → Type 0) (run : TimedRun) (last : ℕ) : Type 0 where
  path : List ℕ
  first : ℕ
  linked : IsChain (IsLastBefore R run) path
  segments : (s : ℕ) → Contains path s → s < n
  begins : slice_get path 0 ≡ Some first
  ends : slice_get path (length path - 1) ≡ Some last
  alone : (r : ℕ) → R r first → ⊥

grown : (graph : RecordedGraph) (n last : ℕ) (run : TimedRun) → IsAscending (Precedes graph)
    → (t : ℕ)
    → t < n
    → (rest : List ℕ)
    → IsChain (IsLastBefore (Precedes graph) run) (t ∷ rest)
    → ((s : ℕ) → Contains (t ∷ rest) s → s < n)
    → slice_get (t ∷ rest) (length (t ∷ rest) - 1) ≡ Some last
    → LeadsFar n (Precedes graph) run last
grown graph n last run asc =
    strong_induction
    (λ t. t < n → (rest : List ℕ) → IsChain (IsLastBefore (Precedes graph) run) (t ∷ rest)
    → ((s : ℕ) → Contains (t ∷ rest) s → s < n)
    → slice_get (t ∷ rest) (length (t ∷ rest) - 1) ≡ Some last
    → LeadsFar n (Precedes graph) run last)
    (λ t before h rest linked inside ends.
    elim (last_of run.ends (predecessors_of graph t)) [
      | inl none ↦ record {
        path = t ∷ rest;
        first = t;
        linked = linked;
        segments = inside;
        begins = refl;
        ends = ends;
        alone = none;
      }
      | inr found ↦
          let r = found.0 in
          let link : IsLastBefore (Precedes graph) run r t =
          record {
            before = found.1.member;
            latest = λ q pred. no_sooner run.ends r q (found.1.after q pred);
            smallest = λ q pred e. no_greater run.ends r q (found.1.after q pred) e;
          } in
          let smaller : r < t = asc.up r t found.1.member in
          let one_more : suc (length (t ∷ rest) - 1) ≡ length (r ∷ t ∷ rest) - 1 = omega arith in
          before r smaller (omega (arith, smaller, h)) (t ∷ rest) (link, linked)
          (λ s k. elim (first_or_later r (t ∷ rest) s k) [
            | inl same ↦ omega (arith, same, smaller, h)
            | inr later ↦ inside s later
          ])
          (subst (λ (k : ℕ). slice_get (r ∷ t ∷ rest) k ≡ Some last) one_more ends)
    ])

pub some_path : (graph : RecordedGraph) {n p first last : ℕ} {run : TimedRun}
    → IsAscending (Precedes graph)
    → 0 < n
    → IsTimedRun n (Precedes graph) p first last run
    → (path : List ℕ) × IsOwnPath n (Precedes graph) run path
some_path graph {n} {p} {first} {last} {run} asc some timed =
    let found = last_upto run.ends (n - 1) in
    let s = found.0 in
    let inside : s < n = omega (arith, found.1, some) in
    let after : (t : ℕ) → t < n → EndsAfter run.ends s t = λ t h. found.2 t (omega (arith, h)) in
    let far = grown graph n s run asc s inside [] tt
    (λ t k. elim (first_or_later s [] t k) [
      | inl same ↦ omega (arith, same, inside)
      | inr none ↦ absurd (omega (arith, none.1))
    ]) refl in (
      far.path,
      record {
        linked = far.linked;
        segments = far.segments;
        first = far.first;
        last = s;
        begins = far.begins;
        ends = far.ends;
        alone = far.alone;
        latest = λ t h. no_sooner run.ends s t (after t h);
        smallest = λ t h e. no_greater run.ends s t (after t h) e;
      },
    )
