-- Whether a segment stands in an ascending chain is seen at one place of it.
use Rattle.std.proofs.Common.{◌≡◌, ◌≢◌, ◌∙◌, refl, sym, subst, ap, ℕ, zero, suc, ◌+◌, ◌<◌, true}
use Rattle.std.proofs.Common.{false, eqb, List, [], ◌∷◌, length, get_or, inl, inr, arith}
use Rattle.std.specs.List.Sorted.{IsStrictlyIncreasing}
use Rattle.std.proofs.lemmas.Bool.{cases_eq, cases_lt}
use Rattle.std.proofs.lemmas.Bool.Decides.{nat_tests}
use Rattle.std.proofs.lemmas.List.{get_or_default}
use Rattle.std.proofs.lemmas.List.Folds.{list_any_at, list_any_none}
use Rattle.std.proofs.lemmas.Map.Keys.{below_from_sorted, sorted_from_strictly_increasing}
use Rattle.task_segments.specs.Schedule.{IsChain}
use Rattle.spanprof_command.specs.ChainPlaces.{IsPlace}
use Rattle.spanprof_command.specs.Slacks.{in_chain}

-- a chain of a relation that leads to larger numbers is ascending
pub chain_ascends : (R : ℕ → ℕ → Type 0)
    → ((s t : ℕ) → R s t → s < t)
    → (chain : List ℕ)
    → IsChain R chain
    → IsStrictlyIncreasing chain
chain_ascends R up [] linked k within = absurd (omega arith)
chain_ascends R up (s ∷ []) linked k within = absurd (omega arith)
chain_ascends R up (s ∷ t ∷ rest) linked zero within = up s t linked.0
chain_ascends R up (s ∷ t ∷ rest) linked (suc k) within =
    let next : suc (k + 1) ≡ suc k + 1 = omega arith in
    let less = chain_ascends R up (t ∷ rest) linked.1 k (omega arith) in
    subst (λ (n : ℕ). get_or (s ∷ t ∷ rest) (suc k) 0 < get_or (s ∷ t ∷ rest) n 0) next less

-- of two members of an ascending chain the earlier is below the later
ascends : (chain : List ℕ)
    → IsStrictlyIncreasing chain
    → (i j : ℕ)
    → i < j
    → j < length chain
    → get_or chain i 0 < get_or chain j 0
ascends chain up i j = below_from_sorted chain i j 0 (sorted_from_strictly_increasing chain up)

-- where the member at the place is the segment, it stands in the chain; else it does not
stands_in_chain : (chain : List ℕ) (s place : ℕ) → place < length chain → get_or chain place 0 ≡ s
    → in_chain chain s ≡ 1
stands_in_chain chain s place within at =
    let here : eqb (get_or chain place 0) s ≡ true = grind (arith, nat_tests) in
    let some = list_any_at (λ member. eqb member s) chain place 0 within here in
    rw some refl

-- a segment that is not at its place in an ascending chain is not on it
pub stands_not : (chain : List ℕ) (s place : ℕ)
    → IsStrictlyIncreasing chain
    → IsPlace chain s place
    → (place < length chain → get_or chain place 0 ≢ s)
    → in_chain chain s ≡ 0
stands_not chain s place up is other =
    let each : (k d : ℕ) → k < length chain → eqb (get_or chain k d) s ≡ false = λ k d l. (
    let same = get_or_default chain k d 0 l in
    let apart : get_or chain k 0 ≢ s = λ e. by_place k l e in
    grind (arith, nat_tests)) in
    let none = list_any_none (λ member. eqb member s) chain each in
    rw none refl
  where
    by_place : (k : ℕ) → k < length chain → get_or chain k 0 ≡ s → ⊥
    by_place k l e = elim (cases_lt k place) [
      | inl below ↦ (let less = is.before k below in omega arith)
      | inr above ↦ elim (cases_eq k place) [
        | inl here ↦ other (omega arith) (ap (λ (n : ℕ). get_or chain n 0) (sym here) ∙ e)
        | inr later ↦ (
            let less = ascends chain up place k (omega arith) l in
            let least = is.after place (omega arith) (omega arith) in
            omega arith)
      ]
    ]

-- the place of the first segment, which is not above any member
pub first_place : (chain : List ℕ) → IsPlace chain 0 0
first_place chain = record {
  within = omega arith;
  before = λ k less. absurd (omega arith);
  after = λ k from within. omega arith;
}

-- the place of the next segment
pub next_place : (chain : List ℕ) (s place : ℕ)
    → IsStrictlyIncreasing chain
    → IsPlace chain s place
    → IsPlace chain (s + 1) (place + in_chain chain s)
next_place chain s place up is = elim (cases_lt place (length chain)) [
  | inl within ↦ elim (cases_eq (get_or chain place 0) s) [
    | inl here ↦ (
        let one = stands_in_chain chain s place within here in
        rw one (record {
          within = omega arith;
          before = λ k l. elim (cases_eq k place) [
            | inl same ↦ (let at = ap (λ (n : ℕ). get_or chain n 0) same in omega arith)
            | inr other ↦ (let less = is.before k (omega arith) in omega arith)
          ];
          after = λ k l m. (let less = ascends chain up place k (omega arith) m in omega arith);
        }))
    | inr other ↦ kept (λ l. other)
  ]
  | inr past ↦ kept (λ l. absurd (omega arith))
]
  where
    kept : (place < length chain → get_or chain place 0 ≢ s)
        → IsPlace chain (s + 1) (place + in_chain chain s)
    kept other =
        let none = stands_not chain s place up is other in
        rw none (record {
          within = omega (arith, is.within);
          before = λ k l. (let less = is.before k (omega arith) in omega arith);
          after = λ k l m. elim (cases_eq k place) [
            | inl same ↦ (
                let least = is.after k (omega arith) m in
                let at = ap (λ (n : ℕ). get_or chain n 0) same in
                let differs = other (omega arith) in
                elim (cases_eq (get_or chain k 0) s) [
                  | inl e ↦ absurd (differs (sym at ∙ e))
                  | inr e ↦ grind arith
                ])
            | inr later ↦ (
                let less = ascends chain up place k (omega arith) m in
                let least = is.after place (omega arith) (omega arith) in
                omega arith)
          ];
        })
