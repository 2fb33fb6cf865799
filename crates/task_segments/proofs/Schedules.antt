-- Facts about the schedules of any relation.
use Rattle.std.proofs.Common.{◌≡◌, ℕ, ◌+◌, ◌<◌, ◌≤◌, inl, inr, List, [], ◌∷◌, length, map, get_or}
use Rattle.std.proofs.Common.{refl, subst, arith, zero, suc, Contains}
use Rattle.std.specs.List.{range_with_len}
use Rattle.std.proofs.lemmas.Bool.{cases_lt}
use Rattle.std.proofs.lemmas.List.FromFn.{length-map-range_with_len, get_or-map-range_with_len}
use Rattle.std.proofs.lemmas.List.Sums.{sum_by-cons}
use Rattle.task_segments.specs.Schedule.{at, IsLegal, end_of, IsChain, chain_sum, AreSegments}
use Rattle.task_segments.specs.Schedule.{IsSpan, IsLeastEnd, IsLeastStart, IsSlack}
use Rattle.task_segments.specs.StartsAndTails.{IsAscending}

-- the end is no sooner than the end of any segment
pub end_of-covers : (costs starts : List ℕ)
    → length starts ≡ length costs
    → (s : ℕ)
    → s < length costs
    → at starts s + at costs s ≤ end_of costs starts
end_of-covers [] starts e s h = absurd (omega arith)
end_of-covers (cost ∷ costs) [] e s h = absurd (omega arith)
end_of-covers (cost ∷ costs) (start ∷ starts) e zero h = omega arith
end_of-covers (cost ∷ costs) (start ∷ starts) e (suc s) h =
    omega (arith, end_of-covers costs starts (omega arith) s (omega arith))

-- the end is the least such number
pub end_of-least : (costs starts : List ℕ) (end : ℕ)
    → ((s : ℕ) → s < length costs → at starts s + at costs s ≤ end)
    → end_of costs starts ≤ end
end_of-least [] starts end h = omega arith
end_of-least (cost ∷ costs) [] end h = omega arith
end_of-least (cost ∷ costs) (start ∷ starts) end h =
    let here : start + cost ≤ end = h 0 (omega arith) in
    let later : end_of costs starts ≤ end =
    end_of-least costs starts end (λ s k. h (suc s) (omega arith)) in
    omega arith

-- the schedule that starts each of the first n segments by a rule
abbrev pub by_rule : (ℕ → ℕ) → ℕ → List ℕ
by_rule rule n = map rule (range_with_len 0 n)

-- its starts are by the rule
pub at-by_rule : (rule : ℕ → ℕ) (n s : ℕ) → s < n → at (by_rule rule n) s ≡ rule s
at-by_rule rule n s h = get_or-map-range_with_len rule 0 n s s 0 h (omega arith)

-- it has one for each segment
pub length-by_rule : (rule : ℕ → ℕ) (n : ℕ) → length (by_rule rule n) ≡ n
length-by_rule rule n = length-map-range_with_len rule 0 n

-- it is legal where the rule leaves each cost its room
pub IsLegal-by_rule : (costs : List ℕ) (R : ℕ → ℕ → Type 0) → IsAscending R → (rule : ℕ → ℕ)
    → ((s t : ℕ) → s < length costs → t < length costs → R s t → rule s + at costs s ≤ rule t)
    → IsLegal costs R (by_rule rule (length costs))
IsLegal-by_rule costs R ascending rule h = grind (arith, length-by_rule, at-by_rule)

-- it ends where the rule ends
pub end_of-by_rule : (costs : List ℕ) (rule : ℕ → ℕ) (end : ℕ)
    → ((s : ℕ) → s < length costs → rule s + at costs s ≤ end)
    → end_of costs (by_rule rule (length costs)) ≤ end
end_of-by_rule costs rule end h = grind (arith, end_of-least, at-by_rule)

-- a chain under one relation is one under another that has all of it
pub chain_within : (R Q : ℕ → ℕ → Type 0)
    → ((s t : ℕ) → R s t → Q s t)
    → (chain : List ℕ)
    → IsChain R chain
    → IsChain Q chain
chain_within R Q within [] linked = linked
chain_within R Q within (s ∷ []) linked = tt
chain_within R Q within (s ∷ t ∷ rest) linked =
    (within s t linked.0, chain_within R Q within (t ∷ rest) linked.1)

-- what follows a segment in a chain fits between its start and the end
pub chain_from : (costs : List ℕ) (R : ℕ → ℕ → Type 0) (starts : List ℕ)
    → IsLegal costs R starts
    → (s : ℕ) (rest : List ℕ)
    → ((t : ℕ) → Contains (s ∷ rest) t → t < length costs)
    → IsChain R (s ∷ rest)
    → at starts s + chain_sum costs (s ∷ rest) ≤ end_of costs starts
chain_from costs R starts legal s [] inside linked =
    omega (
      arith,
      end_of-covers costs starts legal.each s (inside s (0, omega arith, refl)),
      sum_by-cons (at costs) s [],
    )
chain_from costs R starts legal s (t ∷ rest) inside linked =
    let later : at starts t + chain_sum costs (t ∷ rest) ≤ end_of costs starts =
    chain_from costs R starts legal t rest (λ u k. inside u (suc k.0, omega arith, k.2)) linked.1 in
    let step : at starts s + at costs s ≤ at starts t =
    legal.kept s t (inside t (1, omega arith, refl)) linked.0 in
    let one_more : chain_sum costs (s ∷ t ∷ rest) ≡ at costs s + chain_sum costs (t ∷ rest) =
    sum_by-cons (at costs) s (t ∷ rest) in
    omega arith

-- no legal schedule ends before the sum of a chain
pub chain-within-end : (costs : List ℕ) (R : ℕ → ℕ → Type 0) (starts chain : List ℕ)
    → IsLegal costs R starts
    → AreSegments costs chain
    → IsChain R chain
    → chain_sum costs chain ≤ end_of costs starts
chain-within-end costs R starts [] legal inside linked = absurd linked
chain-within-end costs R starts (s ∷ rest) legal inside linked =
    let within : at starts s + chain_sum costs (s ∷ rest) ≤ end_of costs starts =
    chain_from costs R starts legal s rest inside linked in
    omega arith

-- where there is a segment, one ends last
pub end_of-reached : (costs starts : List ℕ) → length starts ≡ length costs → 0 < length costs
    → (s : ℕ) × (s < length costs) × (at starts s + at costs s ≡ end_of costs starts)
end_of-reached [] starts long some = absurd (omega arith)
end_of-reached (cost ∷ costs) [] long some = absurd (omega arith)
end_of-reached (cost ∷ []) (start ∷ starts) long some = (0, omega arith, omega arith)
end_of-reached (cost ∷ next ∷ costs) (start ∷ starts) long some =
    let later : (s : ℕ)
    × (s < length (next ∷ costs))
    × (at starts s + at (next ∷ costs) s ≡ end_of (next ∷ costs) starts) =
    end_of-reached (next ∷ costs) starts (omega arith) (omega arith) in
    let ends_last : at starts later.0 + at (next ∷ costs) later.0 ≡ end_of (next ∷ costs) starts =
    later.2 in
    elim (cases_lt (start + cost) (end_of (next ∷ costs) starts)) [
      | inl less ↦ (suc later.0, omega (arith, later.1), omega arith)
      | inr no_less ↦ (0, omega arith, omega arith)
    ]

-- the members of a chain with one more before it
pub AreSegments-cons : (costs : List ℕ) (s : ℕ) (chain : List ℕ)
    → s < length costs
    → AreSegments costs chain
    → AreSegments costs (s ∷ chain)
AreSegments-cons costs s chain s_in inside t has =
    elim has.0 as (λ k. k < length (s ∷ chain) → get_or (s ∷ chain) k t ≡ t → t < length costs) [
      | zero ↦ (λ _ e. let P : ℕ → Type 0 = λ u. u < length costs in subst P e s_in)
      | suc k ↦ (λ h e. inside t (k, omega arith, e))
    ] has.1 has.2

-- there is at most one span, one least end, one least start and one slack
pub span-unique : (costs : List ℕ) (R : ℕ → ℕ → Type 0) (a b : ℕ) → IsSpan costs R a
    → IsSpan costs R b → a ≡ b
span-unique costs R a b is_a is_b = grind arith

-- there is one least end
pub least_end-unique : (costs : List ℕ) (R : ℕ → ℕ → Type 0) (a b : ℕ) → IsLeastEnd costs R a
    → IsLeastEnd costs R b
    → a ≡ b
least_end-unique costs R a b is_a is_b =
    let at_most : a ≤ end_of costs is_b.starts = is_a.least is_b.starts is_b.legal in
    let at_least : b ≤ end_of costs is_a.starts = is_b.least is_a.starts is_a.legal in
    omega (arith, is_a.ends, is_b.ends)

-- one least start
pub least_start-unique : (costs : List ℕ) (R : ℕ → ℕ → Type 0) (s a b : ℕ)
    → IsLeastStart costs R s a
    → IsLeastStart costs R s b → a ≡ b
least_start-unique costs R s a b is_a is_b =
    let at_most : a ≤ at is_b.starts s = is_a.least is_b.starts is_b.legal in
    let at_least : b ≤ at is_a.starts s = is_b.least is_a.starts is_a.legal in
    omega (arith, is_a.starts_so, is_b.starts_so)

-- no slack is greater than another one of the same segment
slack-le : (costs : List ℕ) (R : ℕ → ℕ → Type 0) (s a b : ℕ) → IsSlack costs R s a
    → IsSlack costs R s b → a ≤ b
slack-le costs R s a b is_a is_b = grind (arith, least_end-unique, least_start-unique)

-- and one slack
pub slack-unique : (costs : List ℕ) (R : ℕ → ℕ → Type 0) (s a b : ℕ) → IsSlack costs R s a
    → IsSlack costs R s b
    → a ≡ b
slack-unique costs R s a b is_a is_b =
    omega (arith, slack-le costs R s a b is_a is_b, slack-le costs R s b a is_b is_a)
