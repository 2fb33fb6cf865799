-- Sums over ascending lists of numbers, against the sum of all costs.
use Rattle.std.proofs.Common.{◌≡◌, ℕ, zero, suc, ◌+◌, ◌<◌, ◌≤◌, List, [], ◌∷◌, length, Contains}
use Rattle.std.proofs.Common.{refl, sym, ap, ◌∙◌, inl, inr, arith}
use Rattle.std.specs.List.{sum, sum_by}
use Rattle.std.proofs.lemmas.Bool.{cases_lt}
use Rattle.std.proofs.lemmas.List.Sums.{sum_by-cons}
use Rattle.task_segments.specs.Schedule.{at, IsChain}
use Rattle.task_segments.specs.StartsAndTails.{IsAscending}

-- the numbers ascend, from the first on and below the end
abbrev pub Ascends : ℕ → ℕ → List ℕ → Type 0
Ascends first end [] = Unit {0}
Ascends first end (s ∷ rest) = (first ≤ s) × (s < end) × Ascends (suc s) end rest

wider : (low first end high : ℕ) → low ≤ first → end ≤ high → (list : List ℕ)
    → Ascends first end list
    → Ascends low high list
wider low first end high l h [] k = tt
wider low first end high l h (s ∷ rest) k =
    (omega (arith, k.0), omega (arith, k.1), wider (suc s) (suc s) end high (omega arith) h rest k.2)

-- the costs from a number on
abbrev pub AreFrom : (ℕ → ℕ) → ℕ → List ℕ → Type 0
AreFrom cost first costs = (i : ℕ) → cost (first + i) ≡ at costs i

next_costs : (cost : ℕ → ℕ) (first here : ℕ) (costs : List ℕ)
    → AreFrom cost first (here ∷ costs)
    → AreFrom cost (suc first) costs
next_costs cost first here costs h i =
    let is : suc first + i ≡ first + suc i = omega arith in ap cost is ∙ h (suc i)

first_cost : (cost : ℕ → ℕ) (first here : ℕ) (costs : List ℕ)
    → AreFrom cost first (here ∷ costs)
    → cost first ≡ here
first_cost cost first here costs h =
    let is : first ≡ first + 0 = omega arith in ap cost is ∙ h 0

first_of_sum : (here : ℕ) (costs : List ℕ) → sum (here ∷ costs) ≡ here + sum costs
first_of_sum here costs = sum_by-cons (λ n. n) here costs

-- an ascending list has no more than all costs
pub ascending_sum : (cost : ℕ → ℕ) (costs : List ℕ) (first : ℕ) → AreFrom cost first costs
    → (list : List ℕ)
    → Ascends first (first + length costs) list
    → sum_by cost list ≤ sum costs
ascending_sum cost [] first h [] k = omega arith
ascending_sum cost [] first h (s ∷ rest) k = absurd (omega (arith, k.0, k.1))
ascending_sum cost (here ∷ costs) first h [] k = omega arith
ascending_sum cost (here ∷ costs) first h (s ∷ rest) k =
    let later = next_costs cost first here costs h in
    let total = first_of_sum here costs in
    elim (cases_lt first s) [
      | inl l ↦
          omega (
            arith,
            ascending_sum cost costs (suc first) later (s ∷ rest) (
              l,
              omega (arith, k.1),
              wider (suc s) (suc s) (first + length (here ∷ costs))
                  (suc first + length costs) (omega arith) (omega arith) rest k.2,
            ),
          )
      | inr l ↦ (
          let is : s ≡ first = omega (arith, k.0) in
          let same = ap cost is ∙ first_cost cost first here costs h in
          let more = ascending_sum cost costs (suc first) later rest
          (wider (suc first) (suc s) (first + length (here ∷ costs)) (suc first + length costs)
          (omega arith) (omega arith) rest k.2) in
          omega (arith, sum_by-cons cost s rest))
    ]

-- and one that has all of them has each number with a cost
pub all_on_it : (cost : ℕ → ℕ) (costs : List ℕ) (first : ℕ) → AreFrom cost first costs
    → (list : List ℕ)
    → Ascends first (first + length costs) list
    → sum costs ≤ sum_by cost list
    → (s : ℕ)
    → first ≤ s
    → s < first + length costs
    → 0 < cost s
    → Contains list s
all_on_it cost [] first h list k all s low high some = absurd (omega arith)
all_on_it cost (here ∷ costs) first h [] k all s low high some =
    let later = next_costs cost first here costs h in
    let total = first_of_sum here costs in
    let none : sum_by cost [] ≡ 0 = refl in
    elim (cases_lt first s) [
      | inl l ↦ all_on_it cost costs (suc first) later [] tt (omega arith) s l (omega arith) some
      | inr l ↦ (
          let is : s ≡ first = omega arith in
          let same = ap cost is ∙ first_cost cost first here costs h in
          absurd (omega arith))
    ]
all_on_it cost (here ∷ costs) first h (t ∷ rest) k all s low high some =
    let later = next_costs cost first here costs h in
    let total = first_of_sum here costs in
    let sums = sum_by-cons cost t rest in
    let begins = first_cost cost first here costs h in
    elim (cases_lt first t) [
      | inl l ↦ (
          let after : Ascends (suc first) (suc first + length costs) (t ∷ rest) = (
            l,
            omega (arith, k.1),
            wider (suc t) (suc t) (first + length (here ∷ costs))
                (suc first + length costs) (omega arith) (omega arith) rest k.2,
          ) in
          let most = ascending_sum cost costs (suc first) later (t ∷ rest) after in
          elim (cases_lt first s) [
            | inl m ↦
                all_on_it cost costs (suc first) later (t ∷ rest) after (omega arith) s m
                (omega arith) some
            | inr m ↦ (
                let is : s ≡ first = omega arith in
                let same = ap cost is ∙ begins in
                absurd (omega arith))
          ])
      | inr l ↦ (
          let is : t ≡ first = omega (arith, k.0) in
          let same = ap cost is ∙ begins in
          let after = wider (suc first) (suc t) (first + length (here ∷ costs))
          (suc first + length costs) (omega arith) (omega arith) rest k.2 in
          elim (cases_lt first s) [
            | inl m ↦ (
                let c = all_on_it cost costs (suc first) later rest after (omega arith) s m
                (omega arith) some in
                (suc c.0, omega (arith, c.1), c.2))
            | inr m ↦ (zero, omega arith, omega arith)
          ])
    ]

-- a chain under an ascending relation ascends
pub chain_ascends : (R : ℕ → ℕ → Type 0) → IsAscending R → (end first s : ℕ) (rest : List ℕ)
    → first ≤ s
    → ((t : ℕ) → Contains (s ∷ rest) t → t < end)
    → IsChain R (s ∷ rest)
    → Ascends first end (s ∷ rest)
chain_ascends R up end first s [] l below h = (l, below s (zero, omega arith, refl), tt)
chain_ascends R up end first s (t ∷ rest) l below h = (
  l,
  below s (zero, omega arith, refl),
  chain_ascends R up end (suc s) t rest
      (omega (arith, up.up s t h.0))
      (λ u c. below u (suc c.0, omega (arith, c.1), c.2)) h.1,
)

-- no more at each number of a list, so no more in sum
pub sum_no_more : (f g : ℕ → ℕ) (list : List ℕ) → ((s : ℕ) → Contains list s → f s ≤ g s)
    → sum_by f list ≤ sum_by g list
sum_no_more f g [] h = omega arith
sum_no_more f g (s ∷ rest) h =
    omega (
      arith,
      h s (zero, omega arith, refl),
      sum_no_more f g rest (λ t c. h t (suc c.0, omega (arith, c.1), c.2)),
      sum_by-cons f s rest,
      sum_by-cons g s rest,
    )

-- and the same at each where the sums are the same
pub same_at_each : (f g : ℕ → ℕ) (list : List ℕ) → ((s : ℕ) → Contains list s → f s ≤ g s)
    → sum_by g list ≤ sum_by f list
    → (s : ℕ)
    → Contains list s
    → f s ≡ g s
same_at_each f g [] h all s c = absurd (omega (arith, c.1))
same_at_each f g (t ∷ rest) h all s (zero, l, is) =
    let below = λ (u : ℕ) (c : Contains rest u). h u (suc c.0, omega (arith, c.1), c.2) in
    let here : f t ≡ g t =
    omega (
      arith,
      h t (zero, omega arith, refl),
      sum_no_more f g rest below,
      sum_by-cons f t rest,
      sum_by-cons g t rest,
    ) in
    sym (ap f is) ∙ here ∙ ap g is
same_at_each f g (t ∷ rest) h all s (suc i, l, is) =
    let below = λ (u : ℕ) (c : Contains rest u). h u (suc c.0, omega (arith, c.1), c.2) in
    let less : sum_by g rest ≤ sum_by f rest =
    omega (
      arith,
      h t (zero, omega arith, refl),
      sum_by-cons f t rest,
      sum_by-cons g t rest,
    ) in
    same_at_each f g rest below less s (i, omega arith, is)

least_on_it : (first end : ℕ) (list : List ℕ) → Ascends first end list → (s : ℕ)
    → Contains list s
    → first ≤ s
least_on_it first end [] k s c = absurd (omega (arith, c.1))
least_on_it first end (t ∷ rest) k s (zero, l, is) = omega (arith, k.0)
least_on_it first end (t ∷ rest) k s (suc i, l, is) =
    omega (arith, k.0, least_on_it (suc t) end rest k.2 s (i, omega arith, is))

-- an ascending list that has each number with a cost has all of them
pub none_off_it : (cost : ℕ → ℕ) (costs : List ℕ) (first : ℕ) → AreFrom cost first costs
    → (list : List ℕ)
    → Ascends first (first + length costs) list
    → ((s : ℕ) → first ≤ s → s < first + length costs → 0 < cost s → Contains list s)
    → sum costs ≤ sum_by cost list
none_off_it cost [] first h list k on = omega arith
none_off_it cost (here ∷ costs) first h [] k on =
    let later = next_costs cost first here costs h in
    let begins = first_cost cost first here costs h in
    let rest = none_off_it cost costs (suc first) later [] tt
    (λ s l m some. on s (omega arith) (omega arith) some) in
    elim (cases_lt 0 (cost first)) [
      | inl l ↦ absurd (omega (arith, (on first (omega arith) (omega arith) l).1))
      | inr l ↦ omega (arith, first_of_sum here costs)
    ]
none_off_it cost (here ∷ costs) first h (t ∷ list) k on =
    let later = next_costs cost first here costs h in
    let begins = first_cost cost first here costs h in
    let total = first_of_sum here costs in
    let end = first + length (here ∷ costs) in
    let next = suc first + length costs in
    elim (cases_lt first t) [
      | inl l ↦ (
          let after : Ascends (suc first) next (t ∷ list) =
          (l, omega (arith, k.1), wider (suc t) (suc t) end next (omega arith) (omega arith) list k.2) in
          let rest = none_off_it cost costs (suc first) later (t ∷ list) after
          (λ s l m some. on s (omega arith) (omega arith) some) in
          elim (cases_lt 0 (cost first)) [
            | inl some ↦ absurd (omega (
              arith,
              least_on_it (suc first) next (t ∷ list) after first
                  (on first (omega arith) (omega arith) some),
            ))
            | inr none ↦ omega arith
          ])
      | inr l ↦ (
          let is : t ≡ first = omega (arith, k.0) in
          let same = ap cost is ∙ begins in
          let after = wider (suc first) (suc t) end next (omega arith) (omega arith) list k.2 in
          let rest = none_off_it cost costs (suc first) later list after
          (λ s l m some. past s (omega arith) (on s (omega arith) (omega arith) some)) in
          omega (arith, sum_by-cons cost t list))
    ]
  where
    past : (s : ℕ) → t < s → Contains (t ∷ list) s → Contains list s
    past s l (zero, m, is) = absurd (omega arith)
    past s l (suc i, m, is) = (i, omega arith, is)
