-- Two relations of precedence, of which the one lies within the other, and joins by its chains what
-- the other orders: they have the same chains, legal schedules, spans, least ends, least starts and
-- slacks.
use Rattle.std.proofs.Common.{ℕ, suc, ◌+◌, ◌<◌, ◌≤◌, ◌≡◌, ◌↔◌, List, [], ◌∷◌, length, refl, sym}
use Rattle.std.proofs.Common.{subst, arith}
use Rattle.std.proofs.lemmas.List.Sums.{sum_by-cons}
use Rattle.task_segments.specs.Schedule.{IsChain, IsJoined, IsLegal, at, chain_sum, AreSegments}
use Rattle.task_segments.specs.Schedule.{IsSpan, IsLeastEnd, IsLeastStart, IsSlack}
use Rattle.task_segments.proofs.Reaches.{Reaches, reaches_by_one, reach_map, reached_is_joined}
use Rattle.task_segments.proofs.Reaches.{reaches, waits_along}
use Rattle.task_segments.proofs.Reaches.Reaches.{Stays, Goes}
use Rattle.task_segments.proofs.Schedules.{AreSegments-cons, chain_within}

-- a chain of R from s, of segments, whose sum is at least a given one
record ChainFrom (costs : List ℕ) (R : ℕ → ℕ → Type 0) (s least : ℕ) : Type 0 where
  more : List ℕ
  linked : IsChain R (s ∷ more)
  inside : AreSegments costs (s ∷ more)
  at_least : least ≤ chain_sum costs (s ∷ more)

-- a chain with one more segment in front
one_more : (costs : List ℕ) (R : ℕ → ℕ → Type 0) (s m least : ℕ) → R s m → s < length costs
    → ChainFrom costs R m least → ChainFrom costs R s (at costs s + least)
one_more costs R s m least r within c =
    let at_least = c.at_least in
    let sum = sum_by-cons (at costs) s (m ∷ c.more) in
    record {
      more = m ∷ c.more;
      linked = (r, c.linked);
      inside = AreSegments-cons costs s (m ∷ c.more) within c.inside;
      at_least = omega arith;
    }

-- a way to a chain leads on along it
lead_on : (costs : List ℕ) (R : ℕ → ℕ → Type 0)
    → ((s t : ℕ) → R s t → s < t)
    → (s t least : ℕ)
    → Reaches R s t
    → ChainFrom costs R t least
    → ChainFrom costs R s least
lead_on costs R forward s t least Stays c = c
lead_on costs R forward s t least (Goes {m} r rest) c =
    let after = lead_on costs R forward m t least rest c in
    let less = forward s m r in
    let within = after.inside m (0, omega arith, refl) in
    let longer = one_more costs R s m least r (omega arith) after in
    let at_least = longer.at_least in
    record {
      more = longer.more;
      linked = longer.linked;
      inside = longer.inside;
      at_least = omega arith;
    }

-- a way that is no standing still adds the cost of its first segment
step_on : (costs : List ℕ) (R : ℕ → ℕ → Type 0)
    → ((s t : ℕ) → R s t → s < t)
    → (s t least : ℕ)
    → s < t
    → Reaches R s t
    → ChainFrom costs R t least
    → ChainFrom costs R s (at costs s + least)
step_on costs R forward s t least less Stays c = absurd (omega arith)
step_on costs R forward s t least less (Goes {m} r rest) c =
    let after = lead_on costs R forward m t least rest c in
    let below = forward s m r in
    let within = after.inside m (0, omega arith, refl) in
    one_more costs R s m least r (omega arith) after

-- two relations with the same legal schedules have the same least ends and least starts
pub least_end_map : (costs : List ℕ) (R Q : ℕ → ℕ → Type 0)
    → ((starts : List ℕ) → IsLegal costs R starts → IsLegal costs Q starts)
    → ((starts : List ℕ) → IsLegal costs Q starts → IsLegal costs R starts)
    → (end : ℕ)
    → IsLeastEnd costs R end
    → IsLeastEnd costs Q end
least_end_map costs R Q there back end
    h = grind arith

-- a schedule is legal for both, so the least starts are the same
pub least_start_map : (costs : List ℕ) (R Q : ℕ → ℕ → Type 0)
    → ((starts : List ℕ) → IsLegal costs R starts → IsLegal costs Q starts)
    → ((starts : List ℕ) → IsLegal costs Q starts → IsLegal costs R starts) → (s start : ℕ)
    → IsLeastStart costs R s start → IsLeastStart costs Q s start
least_start_map costs R Q there back s start
    h = grind arith

-- and the same slacks
pub slack_map : (costs : List ℕ) (R Q : ℕ → ℕ → Type 0)
    → ((starts : List ℕ) → IsLegal costs R starts → IsLegal costs Q starts)
    → ((starts : List ℕ) → IsLegal costs Q starts → IsLegal costs R starts)
    → (s slack : ℕ)
    → IsSlack costs R s slack
    → IsSlack costs Q s slack
slack_map costs R Q there back s slack h = grind (arith, least_end_map, least_start_map)

module _ (R Q : ℕ → ℕ → Type 0) (forward : (s t : ℕ) → R s t → s < t)
    (within : (s t : ℕ) → Q s t → R s t) (ways : (s t : ℕ) → R s t → Reaches Q s t) where
  inner_forward : (s t : ℕ) → Q s t → s < t
  inner_forward s t edge = forward s t (within s t edge)

  pub same_joined : (s t : ℕ) → IsJoined R s t ↔ IsJoined Q s t
  same_joined s t = (
    λ j. reached_is_joined (reach_map ways (reaches j)),
    λ j. reached_is_joined (reach_map (λ a b e. reaches_by_one (within a b e)) (reaches j)),
  )

  pub legal_within : (costs starts : List ℕ) → IsLegal costs R starts → IsLegal costs Q starts
  legal_within costs starts
      legal = record {
        each = legal.each;
        kept = λ s t inside edge. legal.kept s t inside (within s t edge);
      }

  pub legal_joined : (costs starts : List ℕ) → IsLegal costs Q starts → IsLegal costs R starts
  legal_joined costs starts legal = record {
    each = legal.each;
    kept = λ s t inside edge. waits_along costs Q starts legal inner_forward s t (forward s t edge)
        (ways s t edge) inside;
  }

  pub same_legal : (costs starts : List ℕ) → IsLegal costs R starts ↔ IsLegal costs Q starts
  same_legal costs starts = (legal_within costs starts, legal_joined costs starts)

  pub same_least_end : (costs : List ℕ) (end : ℕ) → IsLeastEnd costs R end ↔ IsLeastEnd costs Q end
  same_least_end costs end = (
    least_end_map costs R Q (legal_within costs) (legal_joined costs) end,
    least_end_map costs Q R (legal_joined costs) (legal_within costs) end,
  )

  pub same_least_start : (costs : List ℕ) (s start : ℕ)
      → IsLeastStart costs R s start ↔ IsLeastStart costs Q s start
  same_least_start costs s start = (
    least_start_map costs R Q (legal_within costs) (legal_joined costs) s start,
    least_start_map costs Q R (legal_joined costs) (legal_within costs) s start,
  )

  pub same_slack : (costs : List ℕ) (s slack : ℕ)
      → IsSlack costs R s slack ↔ IsSlack costs Q s slack
  same_slack costs s slack = (
    slack_map costs R Q (legal_within costs) (legal_joined costs) s slack,
    slack_map costs Q R (legal_joined costs) (legal_within costs) s slack,
  )

  refined : (costs : List ℕ) (s : ℕ) (rest : List ℕ)
      → IsChain R (s ∷ rest)
      → AreSegments costs (s ∷ rest)
      → ChainFrom costs Q s (chain_sum costs (s ∷ rest))
  refined costs s [] linked
      inside = record { more = []; linked = tt; inside = inside; at_least = omega arith }
  refined costs s (t ∷ rest) linked inside =
      subst (ChainFrom costs Q s) (sym (sum_by-cons (at costs) s (t ∷ rest)))
      (step_on costs Q inner_forward s t (chain_sum costs (t ∷ rest)) (forward s t linked.0)
      (ways s t linked.0)
      (refined costs t rest linked.1
      (λ n held. inside n (suc held.0, omega (arith, held.1), held.2))))

  at_most : (costs : List ℕ) (greatest : ℕ)
      → ((other : List ℕ) → AreSegments costs other → IsChain Q other
      → chain_sum costs other ≤ greatest)
      → (other : List ℕ)
      → AreSegments costs other
      → IsChain R other
      → chain_sum costs other ≤ greatest
  at_most costs greatest most [] inside linked = absurd linked
  at_most costs greatest most (s ∷ rest) inside linked =
      let finer = refined costs s rest linked inside in
      let bound = most (s ∷ finer.more) finer.inside finer.linked in
      let at_least = finer.at_least in
      omega arith

  span_joined : (costs : List ℕ) (span : ℕ) → IsSpan costs Q span → IsSpan costs R span
  span_joined costs span
      h = record {
        chain = h.chain;
        segments = h.segments;
        linked = chain_within Q R within h.chain h.linked;
        reached = h.reached;
        greatest = at_most costs span h.greatest;
      }

  span_within : (costs : List ℕ) (span : ℕ) → IsSpan costs R span → IsSpan costs Q span
  span_within costs span h = by_chain h.chain h.segments h.linked h.reached
    where
      by_chain : (chain : List ℕ)
          → AreSegments costs chain
          → IsChain R chain
          → chain_sum costs chain ≡ span
          → IsSpan costs Q span
      by_chain [] inside linked reached = absurd linked
      by_chain (s ∷ rest) inside linked reached =
          let finer = refined costs s rest linked inside in
          let at_least = finer.at_least in
          let no_more =
          h.greatest (s ∷ finer.more) finer.inside (chain_within Q R within (s ∷ finer.more) finer.linked) in
          record {
            chain = s ∷ finer.more;
            segments = finer.inside;
            linked = finer.linked;
            reached = omega arith;
            greatest = λ other segments chained.
                h.greatest other segments (chain_within Q R within other chained);
          }

  pub same_span : (costs : List ℕ) (span : ℕ) → IsSpan costs R span ↔ IsSpan costs Q span
  same_span costs span = (span_within costs span, span_joined costs span)
