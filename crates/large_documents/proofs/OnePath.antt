-- A run has one path of its own.
use Rattle.std.proofs.Common.{◌≡◌, ◌-◌, ◌<◌, ◌⊎◌, ◌∙◌, ℕ, zero, suc, List, [], ◌∷◌, length}
use Rattle.std.proofs.Common.{ap, sym, subst, arith, inl, inr, drop, Some, None, drop-cons}
use Rattle.std.proofs.lemmas.Option.{get_or_from_slice_get, slice_get_within}
use Rattle.std.specs.List.{Contains, slice_get}
use Rattle.task_segments.specs.Schedule.{IsChain, at}
use Rattle.time_accounts.specs.OwnPath.{IsLastBefore, IsOwnPath}
use Rattle.time_accounts.specs.TimedRun.{TimedRun}

-- the one list is the end of the other
abbrev AreEnds : List ℕ → List ℕ → Type 0
AreEnds a b = ((k : ℕ) × (drop k b ≡ a)) ⊎ ((k : ℕ) × (drop k a ≡ b))

link_at : (R : ℕ → ℕ → Type 0) (b : List ℕ) (k : ℕ) → IsChain R b → suc k < length b
    → R (at b k) (at b (suc k))
link_at R [] k chain h = absurd chain
link_at R (x ∷ []) k chain h = absurd (omega (arith, h))
link_at R (x ∷ y ∷ rest) zero chain h = chain.0
link_at R (x ∷ y ∷ rest) (suc k) chain h = link_at R (y ∷ rest) k chain.1 (omega (arith, h))

record IsHead (b : List ℕ) (k y : ℕ) : Type 0 where
  inside : k < length b
  here : at b k ≡ y

head_of : (b : List ℕ) (k y : ℕ) (rest : List ℕ) → drop k b ≡ y ∷ rest → IsHead b k y
head_of [] zero y rest e = absurd (omega (arith, ap length e))
head_of [] (suc k) y rest e = absurd (omega (arith, ap length e))
head_of (x ∷ b) zero y rest e = record {
  inside = omega arith;
  here = ap (λ (l : List ℕ). at l 0) e;
}
head_of (x ∷ b) (suc k) y rest e =
    let later = head_of b k y rest e in
    record { inside = omega (arith, later.inside); here = later.here }

last_alone : (b : List ℕ) (x : ℕ) → slice_get b (length b - 1) ≡ Some x
    → drop (length b - 1) b ≡ x ∷ []
last_alone [] x e = let never : None ≡ Some x = e in absurd (cc)
last_alone (z ∷ []) x e = let same : z ≡ x = cc in ap (λ (y : ℕ). y ∷ []) same
last_alone (z ∷ w ∷ rest) x e =
    let one_less : length (z ∷ w ∷ rest) - 1 ≡ suc (length (w ∷ rest) - 1) = omega arith in
    let later : slice_get (w ∷ rest) (length (w ∷ rest) - 1) ≡ Some x =
    subst (λ (k : ℕ). slice_get (z ∷ w ∷ rest) k ≡ Some x) one_less e in
    subst (λ (k : ℕ). drop k (z ∷ w ∷ rest) ≡ x ∷ []) (sym one_less)
    (last_alone (w ∷ rest) x later)

module _ (R : ℕ → ℕ → Type 0) (unique : (r s t : ℕ) → R r t → R s t → r ≡ s) where
  one_longer : (x y : ℕ) (rest b : List ℕ) (k : ℕ) → IsChain R (x ∷ y ∷ rest) → IsChain R b
      → drop k b ≡ y ∷ rest → AreEnds (x ∷ y ∷ rest) b
  one_longer x y rest b zero chain other e = inr (1, sym e)
  one_longer x y rest b (suc k) chain other e =
      let head = head_of b (suc k) y rest e in
      let before : R (at b k) y = subst (R (at b k)) head.here (link_at R b k other head.inside) in
      let same : at b k ≡ x = unique (at b k) x y before chain.0 in
      let inside : k < length b = omega (arith, head.inside) in
      inl (
        k,
        drop-cons b k 0 inside ∙ ap (λ (z : ℕ). z ∷ drop (suc k) b) same
            ∙ ap (λ (l : List ℕ). x ∷ l) e,
      )

  ends : (a b : List ℕ) (last : ℕ) → IsChain R a → IsChain R b
      → slice_get a (length a - 1) ≡ Some last → slice_get b (length b - 1) ≡ Some last
      → AreEnds a b
  ends [] b last chain other at_a at_b = absurd chain
  ends (x ∷ []) b last chain other at_a at_b =
      let same : last ≡ x = cc in
      inl (length b - 1, last_alone b last at_b ∙ ap (λ (y : ℕ). y ∷ []) same)
  ends (x ∷ y ∷ rest) b last chain other at_a at_b =
      let one_less : length (x ∷ y ∷ rest) - 1 ≡ suc (length (y ∷ rest) - 1) = omega arith in
      let later : slice_get (y ∷ rest) (length (y ∷ rest) - 1) ≡ Some last =
      subst (λ (k : ℕ). slice_get (x ∷ y ∷ rest) k ≡ Some last) one_less at_a in
      elim (ends (y ∷ rest) b last chain.1 other later at_b) [
        | inl longer ↦ one_longer x y rest b longer.0 chain other longer.1
        | inr shorter ↦ inr (suc shorter.0, shorter.1)
      ]

same_before : (R : ℕ → ℕ → Type 0) (run : TimedRun) (r s t : ℕ) → IsLastBefore R run r t
    → IsLastBefore R run s t → r ≡ s
same_before R run r s t a b =
    let same : at run.ends r ≡ at run.ends s =
    omega (arith, a.latest s b.before, b.latest r a.before) in
    omega (arith, a.smallest s b.before (sym same), b.smallest r a.before same)

module _ (n : ℕ) (R : ℕ → ℕ → Type 0) (run : TimedRun) where
  contained : (path : List ℕ) (k x : ℕ) → slice_get path k ≡ Some x → Contains path x
  contained path k x e =
      (k, slice_get_within path k x e, get_or_from_slice_get path k x x e)

  last_inside : (path : List ℕ) (own : IsOwnPath n R run path) → own.last < n
  last_inside path own = own.segments own.last (contained path (length path - 1) own.last own.ends)

  same_last : (a b : List ℕ) (one : IsOwnPath n R run a) (two : IsOwnPath n R run b)
      → one.last ≡ two.last
  same_last a b one two =
      let in_a = last_inside a one in
      let in_b = last_inside b two in
      let same : at run.ends one.last ≡ at run.ends two.last =
      omega (arith, one.latest two.last in_b, two.latest one.last in_a) in
      omega (
        arith,
        one.smallest two.last in_b (sym same),
        two.smallest one.last in_a same,
      )

  -- a path that is the end of a path is that path
  whole : (a b : List ℕ) (k : ℕ) → IsOwnPath n R run a → IsOwnPath n R run b → drop k b ≡ a
      → b ≡ a
  whole a b zero one two e = e
  whole [] b (suc k) one two e = absurd one.linked
  whole (y ∷ rest) b (suc k) one two e =
      let head = head_of b (suc k) y rest e in
      let first : y ≡ one.first = let is = one.begins in cc in
      let before : IsLastBefore R run (at b k) (at b (suc k)) =
      link_at (IsLastBefore R run) b k two.linked head.inside in
      let alone : R (at b k) one.first = subst (R (at b k)) (head.here ∙ first) before.before in
      absurd (one.alone (at b k) alone)

  pub one_path : (a b : List ℕ) → IsOwnPath n R run a → IsOwnPath n R run b → a ≡ b
  one_path a b one two =
      let same = same_last a b one two in
      let at_b = subst (λ (l : ℕ). slice_get b (length b - 1) ≡ Some l) (sym same) two.ends in
      elim (ends (IsLastBefore R run) (same_before R run) a b one.last one.linked two.linked
      one.ends at_b) [
        | inl longer ↦ sym (whole a b longer.0 one two longer.1)
        | inr shorter ↦ whole b a shorter.0 two one shorter.1
      ]
