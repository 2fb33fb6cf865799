-- Lists that are filled place by place.
use Rattle.std.proofs.Common.{ℕ, ◌+◌, ◌<◌, ◌≤◌, ◌≡◌, ◌∙◌, List, [], ◌∷◌, length, get_or, map, suc}
use Rattle.std.proofs.Common.{◌++◌, below_more, refl, subst, sym, arith}
use Rattle.std.specs.Prelude.{Contains}
use Rattle.std.proofs.lemmas.List.{get_or-map, get_or_append_left, get_or_default, get_or_push}
use Rattle.std.proofs.lemmas.List.{length-map, length_push, same_lists}
use Rattle.greedy_sim.specs.Greedy.{IsCurve, IsGreedyEnd}
use Rattle.task_segments.specs.Schedule.{AreSegments, IsChain}

-- two lists of numbers with the same number at each place
pub filled : (xs ys : List ℕ) → length xs ≡ length ys
    → ((k : ℕ) → k < length ys → get_or xs k 0 ≡ get_or ys k 0)
    → xs ≡ ys
filled xs ys each same = same_lists xs ys each (λ k d inside.
    get_or_default xs k d 0 inside ∙ (same k (omega (arith, each, inside))
    ∙ sym (get_or_default ys k d 0 (omega (arith, each, inside)))))

-- a list with a number for each element of another
pub filled_from : {X : Type 0} (f : X → ℕ) (xs : List ℕ) (ys : List X) (d : X)
    → length xs ≡ length ys
    → ((k : ℕ) → k < length ys → get_or xs k 0 ≡ f (get_or ys k d))
    → xs ≡ map f ys
filled_from f xs ys d each same = filled xs (map f ys) (each ∙ sym (length-map ys f)) (λ k inside.
    let within : k < length ys = omega (arith, length-map ys f, inside) in
    same k within ∙ sym (get_or-map f ys k d 0 within))

-- a chain of segments below n that goes up has at most n members
few_from : (n : ℕ) (R : ℕ → ℕ → Type 0) → ((s t : ℕ) → R s t → s < t) → (s : ℕ) (rest : List ℕ)
    → ((t : ℕ) → Contains (s ∷ rest) t → t < n) → IsChain R (s ∷ rest)
    → length (s ∷ rest) + s ≤ n
few_from n R up s [] inside linked = omega (arith, inside s (0, omega arith, refl))
few_from n R up s (t ∷ rest) inside linked =
    let less = up s t linked.0 in
    let later = few_from n R up t rest
    (λ u held. inside u (suc held.0, omega (arith, held.1), held.2)) linked.1 in
    omega arith

pub few_in_chain : (costs : List ℕ) (R : ℕ → ℕ → Type 0) (chain : List ℕ)
    → ((s t : ℕ) → R s t → s < t)
    → AreSegments costs chain
    → IsChain R chain
    → length chain ≤ length costs
few_in_chain costs R [] up inside linked = absurd linked
few_in_chain costs R (s ∷ rest) up inside linked =
    let few = few_from (length costs) R up s rest inside linked in omega arith

-- the end on one thread more
pub one_more_end : (costs : List ℕ) (R : ℕ → ℕ → Type 0) (ends : List ℕ) (n end : ℕ)
    → IsCurve costs R n ends
    → IsGreedyEnd costs R (n + 1) end
    → IsCurve costs R (n + 1) (ends ++ end ∷ [])
one_more_end costs R ends n end before here = record {
  each = omega (arith, before.each, length_push ends end);
  at_each = below_more _ _
      (λ k h. subst (IsGreedyEnd costs R (k + 1))
      (sym (get_or_append_left ends (end ∷ []) 0 k (omega (arith, h, before.each))))
      (before.at_each k h))
      (subst (IsGreedyEnd costs R (n + 1)) (sym (get_or_push ends end 0 n before.each)) here);
}
