-- Each graph has an analysis: earliest starts, tails, slacks, and a critical chain.
use Rattle.std.proofs.Common.{ℕ, zero, suc, ◌+◌, ◌-◌, ◌<◌, ◌≤◌, ◌≡◌, ◌∙◌, List, [], ◌∷◌, length}
use Rattle.std.proofs.Common.{get_or, set, sum, take, replicate, refl, subst, arith, inl, inr}
use Rattle.std.specs.Prelude.{Contains}
use Rattle.std.proofs.lemmas.Bool.{cases_lt}
use Rattle.std.proofs.lemmas.List.{get_or-replicate, get_or_past, length-replicate, length-set}
use Rattle.std.proofs.lemmas.List.{take_all}
use Rattle.std.proofs.lemmas.List.Elements.{Contains-get_or}
use Rattle.task_segments.proofs.Schedules.{at-by_rule, by_rule, end_of-reached, length-by_rule}
use Rattle.task_segments.proofs.StartsAndTails.{tail-fits}
use Rattle.task_segments.specs.Schedule.{at, end_of}
use Rattle.task_segments.specs.StartsAndTails.{IsEarliest, IsTails}
use Rattle.dispatch_core.specs.RecordedGraph.{IsGraph, Precedes, RecordedGraph, predecessors_of}
use Rattle.span_analysis.proofs.AnalysisLemmas.{IsAnalysis-all}
use Rattle.span_analysis.proofs.ChainSteps.{IsChainFrom, IsChainFrom-more, IsChainFrom-one}
use Rattle.span_analysis.proofs.ChainSteps.{LeadsTo-all, first_of_all}
use Rattle.span_analysis.proofs.Existence.{earliest_exists}
use Rattle.span_analysis.proofs.PassSteps.{AreRaised-keep, AreRaised-none, AreRaised-set}
use Rattle.span_analysis.proofs.PassSteps.{AreTailsFrom-more, AreTailsFrom-none, IsAscending-graph}
use Rattle.span_analysis.proofs.PassSteps.{IsTails-all}
use Rattle.span_analysis.specs.Critical.{Delays, EndsLast, IsSmallest, LeadsTo}
use Rattle.span_analysis.specs.Findings.{Findings, IsAnalysis}
use Rattle.span_analysis.specs.Passes.{AreRaised, AreTailsFrom}
use Rattle.dispatch_core.proofs.Decisions.{IsDecided, IsFirst, decided_by_equivalent, decide_below}
use Rattle.dispatch_core.proofs.Decisions.{decide_both, decide_less, decide_same, find_first}

-- ---- tails

-- the numbers at the first i places, raised to the floor
some_raised : (places : List ℕ) (floor : ℕ) (old : List ℕ)
    → ((s : ℕ) → Contains places s → s < length old)
    → (i : ℕ)
    → i ≤ length places
    → (new : List ℕ) × (length new ≡ length old) × AreRaised (take i places) floor old new
some_raised places floor old inside zero all = (old, refl, AreRaised-none places floor old)
some_raised places floor old inside (suc i) all =
    let before = some_raised places floor old inside i (omega (arith, all)) in
    let place : ℕ = get_or places i 0 in
    let within : i < length places = omega (arith, all) in
    let known : place < length old = inside place (Contains-get_or places i 0 within) in
    let next : i + 1 ≡ suc i = omega arith in
    elim (cases_lt (at before.0 place) floor) [
      | inl low ↦ (
        set before.0 place floor,
        length-set before.0 place floor ∙ before.1,
        subst (λ (n : ℕ). AreRaised (take n places) floor old (set before.0 place floor)) next
            (AreRaised-set places floor old before.0 i within (omega (arith, known, before.1)) low
            before.2),
      )
      | inr high ↦ (
        before.0,
        before.1,
        subst (λ (n : ℕ). AreRaised (take n places) floor old before.0) next
            (AreRaised-keep places floor old before.0 i within high before.2),
      )
    ]

-- the tails of the last d segments alone
some_tails_from : (graph : RecordedGraph)
    → IsGraph graph
    → (d low : ℕ)
    → low + d ≡ length graph.costs
    → (tails : List ℕ) × AreTailsFrom graph low tails
some_tails_from graph is zero low all =
    let none : List ℕ = replicate (length graph.costs) 0 in
    let same : length graph.costs ≡ low = omega (arith, all) in
    let zeros : (s : ℕ) → at none s ≡ 0 = λ s. elim (cases_lt s (length graph.costs)) [
      | inl within ↦ get_or-replicate (length graph.costs) s 0 0 within
      | inr past ↦ get_or_past none s 0
          (omega (arith, past, length-replicate {A = ℕ} (length graph.costs) 0))
    ] in (
      none,
      subst (λ (n : ℕ). AreTailsFrom graph n none) same
          (AreTailsFrom-none graph none (length-replicate (length graph.costs) 0) zeros),
    )
some_tails_from graph is (suc d) low all =
    let later = some_tails_from graph is d (low + 1) (omega (arith, all)) in
    let places : List ℕ = predecessors_of graph low in
    let floor : ℕ = at graph.costs low + at later.0 low in
    let inside : (s : ℕ) → Contains places s → s < length later.0 =
    λ s h. let less = is.smaller s low h in omega (arith, less, later.1.each, all) in
    let raised = some_raised places floor later.0 inside (length places) (omega arith) in
    let whole = take_all (length places) places (omega arith) in (
      raised.0,
      AreTailsFrom-more graph low later.0 raised.0 is (omega (arith, all)) raised.1 later.1
          (subst (λ (ps : List ℕ). AreRaised ps floor later.0 raised.0) whole raised.2),
    )

some_tails : (graph : RecordedGraph)
    → IsGraph graph
    → (tails : List ℕ) × IsTails graph.costs (Precedes graph) tails
some_tails graph is =
    let all = some_tails_from graph is (length graph.costs) 0 (omega arith) in
    (all.0, IsTails-all graph all.0 all.1)

-- ---- the chain

-- the first number is the smallest
is_smallest : (P : ℕ → Type 0) (n s : ℕ) → IsFirst P n s → IsSmallest P s
is_smallest P n s first = record {
  holds = first.holds;
  smallest = λ other h. elim
      (cases_lt other s) [ inl less ↦ absurd (first.none_before other less h) | inr more ↦ more ];
}

-- among the segments that end last there is a smallest
some_last : (graph : RecordedGraph) (starts : List ℕ)
    → IsGraph graph
    → length starts ≡ length graph.costs
    → (last : ℕ) × IsSmallest (EndsLast graph starts) last
some_last graph starts is each =
    let end : ℕ = end_of graph.costs starts in
    let E : ℕ → Type 0 = EndsLast graph starts in
    let decided : (s : ℕ) → IsDecided (E s) = λ s.
    let A : Type 0 = s < length graph.costs in
    let B : Type 0 = at starts s + at graph.costs s ≡ end in
    decided_by_equivalent (A × B) (E s) (λ h. record { is_segment = h.0; ends = h.1 })
    (λ h. (h.is_segment, h.ends))
    (decide_both A B (decide_less s (length graph.costs))
    (decide_same (at starts s + at graph.costs s) end)) in
    elim (find_first E (length graph.costs) decided) [
      | inr found ↦ (found.0, is_smallest E (length graph.costs) found.0 found.1)
      | inl none ↦ let some = end_of-reached graph.costs starts each is.some in absurd
          (none some.0 some.1 (record { is_segment = some.1; ends = some.2 }))
    ]

decide_delays : (graph : RecordedGraph) (starts : List ℕ) (t s : ℕ)
    → IsDecided (Delays graph starts t s)
decide_delays graph starts t s =
    let A : Type 0 = Precedes graph s t in
    let B : Type 0 = at starts s + at graph.costs s ≡ at starts t in
    decided_by_equivalent (A × B) (Delays graph starts t s)
    (λ h. record { precedes = h.0; just = h.1 }) (λ h. (h.precedes, h.just))
    (decide_both A B
    (decide_below (λ k. get_or (predecessors_of graph t) k s ≡ s) (length (predecessors_of graph t))
    (λ k. decide_same (get_or (predecessors_of graph t) k s) s))
    (decide_same (at starts s + at graph.costs s) (at starts t)))

-- a chain to the last segment goes on down to the first
leads_from : (graph : RecordedGraph) (starts : List ℕ)
    → IsGraph graph
    → IsEarliest graph.costs (Precedes graph) starts
    → (last bound member : ℕ) (chain : List ℕ)
    → member < bound
    → IsChainFrom graph starts last member chain
    → (whole : List ℕ) × LeadsTo graph starts last whole
leads_from graph starts is earliest last zero member chain below from =
    absurd (omega (arith, below))
leads_from graph starts is earliest last (suc bound) member chain below from =
    elim
    (find_first (Delays graph starts member) member (λ s. decide_delays graph starts member s)) [
      | inr found ↦
          let first = is_smallest (Delays graph starts member) member found.0 found.1 in
          leads_from graph starts is earliest last bound found.0 (found.0 ∷ chain)
          (omega (arith, found.1.below, below))
          (IsChainFrom-more graph starts last member found.0 chain is from first)
      | inl none ↦
          let first = first_of_all graph starts member is earliest from.inside
          (λ s h. none s (is.smaller s member h.precedes) h) in
          (chain, LeadsTo-all graph starts last member chain first from)
    ]

-- ---- the analysis

-- every graph has an analysis
pub some_analysis : (graph : RecordedGraph)
    → IsGraph graph
    → (found : Findings) × IsAnalysis graph found
some_analysis graph is =
    let starts = earliest_exists graph is in
    let tails = some_tails graph is in
    let last = some_last graph starts.0 is starts.1.legal.each in
    let inside : last.0 < length graph.costs = last.1.holds.is_segment in
    let chain = leads_from graph starts.0 is starts.1 last.0 (suc last.0) last.0 (last.0 ∷ [])
    (omega arith)
    (IsChainFrom-one graph starts.0 last.0 inside) in
    let end : ℕ = end_of graph.costs starts.0 in
    let room : ℕ → ℕ = λ s. end - (at starts.0 s + at graph.costs s + at tails.0 s) in
    let slacks : List ℕ = by_rule room (length graph.costs) in
    let found : Findings =
    record {
      work = sum graph.costs;
      span = end;
      starts = starts.0;
      slacks = slacks;
      chain = chain.0;
    } in
    let fits : (s : ℕ) → s < length graph.costs
    → at starts.0 s + at slacks s + at graph.costs s + at tails.0 s ≡ end = λ s known.
    let within = tail-fits graph.costs (Precedes graph) tails.0 starts.0 end
    (IsAscending-graph graph is) tails.1
    starts.1.legal
    (omega arith) s known in
    let same : at slacks s ≡ room s = at-by_rule room (length graph.costs) s known in
    omega (arith, within, same) in (
      found,
      IsAnalysis-all graph found tails.0 last.0 is refl starts.1 tails.1 last.1 refl
          (length-by_rule room (length graph.costs)) fits chain.1,
    )
