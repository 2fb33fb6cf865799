-- How many moments pass a test that holds only where each segment that could run has begun.
use Rattle.std.proofs.Common.{◌≡◌, ℕ, zero, suc, ◌+◌, ◌-◌, ◌<◌, ◌≤◌, inl, inr, Bool, true, false}
use Rattle.std.proofs.Common.{List, [], ◌∷◌, length, ap, arith, add-zero, add-suc}
use Rattle.std.proofs.lemmas.Bool.{cases_Bool, cases_lt}
use Rattle.std.proofs.lemmas.List.Sums.{sum_by-cons}
use Rattle.task_segments.specs.Schedule.{at, end_of, IsChain, AreSegments, chain_sum}
use Rattle.task_segments.specs.StartsAndTails.{IsAscending}
use Rattle.task_segments.proofs.Schedules.{end_of-least, AreSegments-cons}
use Rattle.greedy_sim.specs.Greedy.{running_count, ReadyBy}
use Rattle.greedy_sim.proofs.Sums.{strong_induction, total, one_if, runs_yes}

-- where a segment runs, some run
pub running_some : (costs starts : List ℕ) (m s : ℕ)
    → length starts ≡ length costs
    → s < length costs
    → at starts s ≤ m
    → m < at starts s + at costs s
    → 1 ≤ running_count costs starts m
running_some [] starts m s e h a b = absurd (omega arith)
running_some (cost ∷ costs) [] m s e h a b = absurd (omega arith)
running_some (cost ∷ costs) (start ∷ starts) m zero e h a b =
    rw (runs_yes m cost start a b) (omega arith)
running_some (cost ∷ costs) (start ∷ starts) m (suc s) e h a b =
    omega (arith, running_some costs starts m s (omega arith) (omega arith) a b)

-- no chain has a greater sum
abbrev pub BoundsChains : List ℕ → (ℕ → ℕ → Type 0) → ℕ → Type 0
BoundsChains costs R bound = (chain : List ℕ) → AreSegments costs chain → IsChain R chain
    → chain_sum costs chain ≤ bound

-- where the test holds, each segment whose predecessors have ended has begun
pub record IsStopped (costs : List ℕ) (R : ℕ → ℕ → Type 0) (starts : List ℕ) (S : ℕ → Bool) : Type
    0 where
  pub begun : (s m : ℕ) → s < length costs → S m ≡ true → ReadyBy costs R starts s m
      → at starts s ≤ m

-- then, before the end, some segment runs
pub some_runs : {costs : List ℕ} {R : ℕ → ℕ → Type 0} {starts : List ℕ} {S : ℕ → Bool}
    → IsAscending R
    → length starts ≡ length costs
    → IsStopped costs R starts S
    → (m : ℕ) → S m ≡ true → m < end_of costs starts → 1 ≤ running_count costs starts m
some_runs {costs} {R} {starts} {S} asc each stopped m holds h =
    elim (cases_lt 0 (running_count costs starts m)) [
      | inl l ↦ omega arith
      | inr none ↦
          let ended : (s : ℕ) → s < length costs → at starts s + at costs s ≤ m =
          strong_induction (λ s. s < length costs → at starts s + at costs s ≤ m) (λ s before l.
          let started : at starts s ≤ m = stopped.begun s m l holds
          (λ r pred. before r (asc.up r s pred) (omega (arith, asc.up r s pred))) in
          elim (cases_lt m (at starts s + at costs s)) [
            | inl more ↦ absurd (omega (arith, running_some costs starts m s each l started more))
            | inr done ↦ done
          ]) in
          absurd (omega (arith, end_of-least costs starts m ended))
    ]

-- how many moments before t pass
abbrev pub passing : (ℕ → Bool) → ℕ → ℕ
passing S t = total (λ m. one_if (S m)) t

-- they grow with time, by one a moment at most
passing-more : (S : ℕ → Bool) (t d : ℕ)
    → (passing S t ≤ passing S (t + d)) × (passing S (t + d) ≤ passing S t + d)
passing-more S t zero =
    let same : passing S (t + 0) ≡ passing S t = ap (passing S) (add-zero t) in
    (omega (arith, same), omega (arith, same))
passing-more S t (suc d) =
    let before = passing-more S t d in
    let step : passing S (t + suc d) ≡ passing S (t + d) + one_if (S (t + d)) =
    ap (passing S) (add-suc t d) in
    elim (cases_Bool (S (t + d))) [
      | inl holds ↦
          let one : one_if (S (t + d)) ≡ 1 = ap one_if holds in
          (omega (arith, before.0, one, step), omega (arith, before.1, one, step))
      | inr fails ↦
          let none : one_if (S (t + d)) ≡ 0 = ap one_if fails in
          (omega (arith, before.0, none, step), omega (arith, before.1, none, step))
    ]

pub passing-mono : (S : ℕ → Bool) (t u : ℕ) → t ≤ u → passing S t ≤ passing S u
passing-mono S t u h =
    let reaches : t + (u - t) ≡ u = omega arith in
    omega (arith, ap (passing S) reaches, (passing-more S t (u - t)).0)

-- where none passes from an end on, none is counted after it
pub passing-ends : (S : ℕ → Bool) (end : ℕ) → ((m : ℕ) → end ≤ m → S m ≡ false)
    → (t : ℕ) → passing S t ≤ passing S end
passing-ends S end none zero = omega arith
passing-ends S end none (suc t) =
    elim (cases_lt t end) [
      | inl l ↦ passing-mono S (suc t) end (omega arith)
      | inr over ↦
          let no : one_if (S t) ≡ 0 = ap one_if (none t over) in
          omega (arith, no, passing-ends S end none t)
    ]

chain_sum-cons : (costs rest : List ℕ) (s : ℕ)
    → chain_sum costs (s ∷ rest) ≡ at costs s + chain_sum costs rest
chain_sum-cons costs rest s = sum_by-cons (at costs) s rest

-- One segment on a walk back from the end. Where the test holds before s starts, a member of a
-- chain that ends before s runs; so those moments, with the costs of a chain from s on, are at most
-- the span.
passing_to_start : (costs : List ℕ) (R : ℕ → ℕ → Type 0) (span : ℕ) (starts : List ℕ) (S : ℕ → Bool)
    → IsStopped costs R starts S
    → (s rest_sum : ℕ)
    → s < length costs
    → rest_sum ≤ span
    → ((r : ℕ) → R r s → passing S (at starts r + at costs r) + rest_sum ≤ span)
    → (x : ℕ)
    → x ≤ at starts s
    → passing S x + rest_sum ≤ span
passing_to_start costs R span starts S stopped s rest_sum h base before zero l = omega arith
passing_to_start costs R span starts S stopped s rest_sum h base before (suc x) l =
    let so_far = passing_to_start costs R span starts S stopped s rest_sum h base before x
    (omega arith) in
    elim (cases_Bool (S x)) [
      | inr fails ↦
          let none : one_if (S x) ≡ 0 = ap one_if fails in
          omega (arith, so_far, none)
      | inl holds ↦
          let one : one_if (S x) ≡ 1 = ap one_if holds in
          elim (cases_lt (passing S x + rest_sum) span) [
            | inl room ↦ omega (arith, one)
            | inr tight ↦
                let ended : (r : ℕ) → R r s → at starts r + at costs r ≤ x = λ r pred.
                elim (cases_lt x (at starts r + at costs r)) [
                  | inl later ↦ absurd (omega (
                    arith,
                    one,
                    passing-mono S (suc x) (at starts r + at costs r) (omega arith),
                    before r pred,
                  ))
                  | inr done ↦ done
                ] in
                absurd (omega (arith, stopped.begun s x h holds ended))
          ]
    ]

-- the moments before the end of s that pass, with the costs of what follows s on a chain
passing_to_end : (costs : List ℕ) (R : ℕ → ℕ → Type 0) (span : ℕ) (starts : List ℕ) (S : ℕ → Bool)
    → IsAscending R
    → IsStopped costs R starts S
    → BoundsChains costs R span
    → (s : ℕ)
    → s < length costs
    → (rest : List ℕ)
    → AreSegments costs (s ∷ rest)
    → IsChain R (s ∷ rest)
    → passing S (at starts s + at costs s) + chain_sum costs rest ≤ span
passing_to_end costs R span starts S asc stopped bounds =
    strong_induction
    (λ s. s < length costs → (rest : List ℕ) → AreSegments costs (s ∷ rest) → IsChain R (s ∷ rest)
    → passing S (at starts s + at costs s) + chain_sum costs rest ≤ span)
    (λ s before h rest segments linked.
    let whole : chain_sum costs (s ∷ rest) ≤ span = bounds (s ∷ rest) segments linked in
    let to_start : passing S (at starts s) + chain_sum costs (s ∷ rest) ≤ span =
    passing_to_start costs R span starts S stopped s (chain_sum costs (s ∷ rest)) h whole
    (λ r pred. let inside : r < length costs = omega (arith, asc.up r s pred) in
    before r (asc.up r s pred) inside (s ∷ rest)
    (AreSegments-cons costs r (s ∷ rest) inside segments) (pred, linked))
    (at starts s) (omega arith) in
    omega (
      arith,
      to_start,
      chain_sum-cons costs rest s,
      (passing-more S (at starts s) (at costs s)).1,
    ))

-- the moments before the end that pass are at most the span
pub passing-le-span : (costs : List ℕ) (R : ℕ → ℕ → Type 0) (span : ℕ) (starts : List ℕ)
    (S : ℕ → Bool)
    → IsAscending R
    → IsStopped costs R starts S
    → BoundsChains costs R span
    → passing S (end_of costs starts) ≤ span
passing-le-span costs R span starts S asc stopped bounds =
    elim (cases_lt span (passing S (end_of costs starts))) [
      | inr done ↦ done
      | inl more ↦
          let early : (s : ℕ) → s < length costs
          → at starts s + at costs s ≤ end_of costs starts - 1 = λ s h.
          let bound = passing_to_end costs R span starts S asc stopped bounds s h []
          (AreSegments-cons costs s [] h
          (λ x held. absurd (omega (arith, held.1)))) tt in
          elim (cases_lt (end_of costs starts - 1) (at starts s + at costs s)) [
            | inl late ↦ absurd (omega (
              arith,
              bound,
              passing-mono S (end_of costs starts) (at starts s + at costs s) (omega arith),
            ))
            | inr done ↦ done
          ] in
          let less = end_of-least costs starts (end_of costs starts - 1) early in
          let zero_end : end_of costs starts ≡ 0 = omega arith in
          absurd (omega (arith, ap (passing S) zero_end))
    ]
