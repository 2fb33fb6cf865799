-- The first segment that starts before a kept predecessor ends is the first that starts too soon.
use Rattle.std.proofs.Common.{◌≡◌, ◌<◌, ◌≤◌, ◌+◌, ◌∙◌, ℕ, List, length, Some, arith, inl, inr, subst}
use Rattle.std.proofs.Common.{sym, ap, get_or}
use Rattle.std.proofs.lemmas.Bool.{cases_lt, cases_eq}
use Rattle.std.specs.Prelude.{Contains}
use Rattle.std.proofs.lemmas.List.{get_or_default}
use Rattle.std.proofs.lemmas.List.Elements.{Contains-get_or}
use Rattle.task_segments.proofs.Reaches.{Reaches}
use Rattle.task_segments.proofs.Reaches.Reaches.{Stays, Goes}
use Rattle.task_segments.specs.Schedule.{at}
use Rattle.task_segments.specs.Table.{Table, costs_of}
use Rattle.open_segments.specs.Facts.{IsSoundTable}
use Rattle.dispatch_core.specs.Graph.{IsGraphOf}
use Rattle.dispatch_core.specs.RecordedGraph.{IsGraph, Precedes, RecordedGraph, predecessors_of}
use Rattle.dispatch_core.proofs.Carried.{graph_ways, graph_within}
use Rattle.span_cert.specs.BrokenPairs.{IsRow}
use Rattle.span_cert.specs.Claims.{moments_of_starts}
use Rattle.span_cert.specs.declared.claim.Start.{Start}
use Rattle.span_cert.proofs.Counting.{moment-at}
use Rattle.span_cert.specs.LateSegments.{IsFirstLate, IsLate, IsLateFor, NoneIsLate}
use Rattle.span_cert.specs.Tests.{FirstBroken, IsBroken, NoneIsBroken}

-- ---- the predecessors of one segment

-- t starts before none of its first n predecessors ends
abbrev pub NoneUpTo : RecordedGraph → List ℕ → ℕ → ℕ → Type 0
NoneUpTo graph starts t n =
    (k : ℕ) → k < n → ¬ IsLateFor graph starts (get_or (predecessors_of graph t) k 0) t

pub one_pred_more : (graph : RecordedGraph) (starts : List ℕ) (t n : ℕ)
    → NoneUpTo graph starts t n
    → ¬ IsLateFor graph starts (get_or (predecessors_of graph t) n 0) t
    → NoneUpTo graph starts t (n + 1)
one_pred_more graph starts t n none not_this k less late = elim (cases_eq k n) [
  | inl same ↦
      let P : ℕ → Type 0 = λ i. IsLateFor graph starts (get_or (predecessors_of graph t) i 0) t in
      not_this (subst P same late)
  | inr other ↦ none k (omega (arith, less, other)) late
]

pub none_late : (graph : RecordedGraph) (starts : List ℕ) (t n : ℕ)
    → length (predecessors_of graph t) ≤ n
    → NoneUpTo graph starts t n
    → ¬ IsLate graph starts t
none_late graph starts t n all none late =
    let preds : List ℕ = predecessors_of graph t in
    let held = late.1.precedes in
    let same : get_or preds held.0 0 ≡ late.0 =
    get_or_default preds held.0 0 late.0 held.1 ∙ held.2 in
    none held.0 (omega (arith, held.1, all))
    (subst (λ (s : ℕ). IsLateFor graph starts s t) (sym same) late.1)

-- a predecessor has a smaller number
pub pred_before : (graph : RecordedGraph) (preds : List ℕ) (t k : ℕ)
    → IsGraph graph
    → preds ≡ predecessors_of graph t
    → k < length preds
    → get_or preds k 0 < t
pred_before graph preds t k is same within =
    is.smaller (get_or preds k 0) t (subst (λ (ps : List ℕ). Contains ps (get_or preds k 0)) same
    (Contains-get_or preds k 0 within))

-- whether t starts before this predecessor ends, by the starts and costs that were read
pub late_for : (graph : RecordedGraph) (starts : List Start) (preds : List ℕ) (t k cost : ℕ)
    (none : Start)
    → preds ≡ predecessors_of graph t
    → k < length preds
    → t < length starts
    → get_or preds k 0 < length starts
    → cost ≡ at graph.costs (get_or preds k 0)
    → (get_or starts t none).moment < (get_or starts (get_or preds k 0) none).moment + cost
    → IsLateFor graph (moments_of_starts starts) (get_or preds k 0) t
late_for graph starts preds t k cost none same within to from is soon = record {
  precedes = subst (λ (ps : List ℕ). Contains ps (get_or preds k 0)) same
      (Contains-get_or preds k 0 within);
  too_soon = omega (
    arith,
    soon,
    is,
    moment-at starts t none to,
    moment-at starts (get_or preds k 0) none from,
  );
}

pub not_late_for : (graph : RecordedGraph) (starts : List Start) (preds : List ℕ) (t k cost : ℕ)
    (none : Start)
    → preds ≡ predecessors_of graph t
    → t < length starts
    → get_or preds k 0 < length starts
    → cost ≡ at graph.costs (get_or preds k 0)
    → ((get_or starts t none).moment < (get_or starts (get_or preds k 0) none).moment + cost → ⊥)
    → ¬ IsLateFor graph (moments_of_starts starts) (get_or (predecessors_of graph t) k 0) t
not_late_for graph starts preds t k cost none same to from is kept late =
    let there : IsLateFor graph (moments_of_starts starts) (get_or preds k 0) t =
    subst (λ (ps : List ℕ). IsLateFor graph (moments_of_starts starts) (get_or ps k 0) t) (sym same)
    late in
    let soon = there.too_soon in
    kept (omega (
      arith,
      soon,
      is,
      moment-at starts t none to,
      moment-at starts (get_or preds k 0) none from,
    ))

-- ---- all segments before one

-- along a chain whose pairs into segments below n are kept, starts never fall
rises : (costs starts : List ℕ) (R : ℕ → ℕ → Type 0) (n : ℕ)
    → ((s t : ℕ) → t < n → R s t → at starts s + at costs s ≤ at starts t)
    → ((s t : ℕ) → R s t → s < t)
    → (s t : ℕ)
    → Reaches R s t
    → t < n
    → (s ≤ t) × (at starts s ≤ at starts t)
rises costs starts R n kept forward s t Stays within = (omega arith, omega arith)
rises costs starts R n kept forward s t (Goes {m} r rest) within =
    let first = forward s m r in
    let after = rises costs starts R n kept forward m t rest within in
    let order = after.0 in
    let onward = after.1 in
    let step = kept s m (omega arith) r in
    (omega arith, omega arith)

-- and the later segment starts when the earlier one has ended, or after that
waits : (costs starts : List ℕ) (R : ℕ → ℕ → Type 0) (n : ℕ)
    → ((s t : ℕ) → t < n → R s t → at starts s + at costs s ≤ at starts t)
    → ((s t : ℕ) → R s t → s < t)
    → (s t : ℕ)
    → s < t
    → Reaches R s t
    → t < n
    → at starts s + at costs s ≤ at starts t
waits costs starts R n kept forward s t less Stays within = absurd (omega arith)
waits costs starts R n kept forward s t less (Goes {m} r rest) within =
    let after = rises costs starts R n kept forward m t rest within in
    let order = after.0 in
    let onward = after.1 in
    let step = kept s m (omega arith) r in
    omega arith

kept_below : (graph : RecordedGraph) (starts : List ℕ) (n : ℕ)
    → ((u : ℕ) → u < n → ¬ IsLate graph starts u)
    → (s t : ℕ)
    → t < n
    → Precedes graph s t
    → at starts s + at graph.costs s ≤ at starts t
kept_below graph starts n none s t within edge =
    elim (cases_lt (at starts t) (at starts s + at graph.costs s)) [
      | inl less ↦ absurd (none t within (s, record { precedes = edge; too_soon = less }))
      | inr no_less ↦ no_less
    ]

-- where no segment below n is late, none there is broken
none_below : (table : Table) (graph : RecordedGraph) (starts : List ℕ) (n : ℕ)
    → IsSoundTable table
    → IsGraphOf table graph
    → ((u : ℕ) → u < n → ¬ IsLate graph starts u)
    → (s t : ℕ)
    → t < n
    → ¬ IsBroken table starts s t
none_below table graph starts n sound of none s t within b =
    let kept = waits graph.costs starts (Precedes graph) n (kept_below graph starts n none)
    (λ a c edge. sound.goes_up.ascending a c (graph_within table graph sound of a c edge)) s t
    (sound.goes_up.ascending s t b.precedes) (graph_ways table graph sound of s t b.precedes)
    within in
    let cost : at graph.costs s ≡ at (costs_of table) s = ap (λ (cs : List ℕ). at cs s) of.costs in
    omega (arith, kept, b.too_soon, cost)

pub none_broken : (table : Table) (graph : RecordedGraph) (starts : List ℕ)
    → IsSoundTable table
    → IsGraphOf table graph
    → NoneIsLate graph starts
    → NoneIsBroken table starts
none_broken table graph starts sound of none s t =
    none_below table graph starts (t + 1) sound of (λ u less. none u) s t (omega arith)

-- what is late has a broken pair
pub late_broken : (table : Table) (graph : RecordedGraph) (starts : List ℕ) (t : ℕ)
    → IsSoundTable table
    → IsGraphOf table graph
    → IsLate graph starts t
    → (s : ℕ) × IsBroken table starts s t
late_broken table graph starts t sound of late =
    let edge = graph_within table graph sound of late.0 t late.1.precedes in
    let cost : at graph.costs late.0 ≡ at (costs_of table) late.0 =
    ap (λ (cs : List ℕ). at cs late.0) of.costs in
    let soon = late.1.too_soon in (
      late.0,
      record {
        is_segment = sound.goes_up.within late.0 t edge;
        precedes = edge;
        too_soon = omega (arith, soon, cost);
      },
    )

-- the row of the first that is late has the first broken pair
pub first_of_row : (table : Table) (graph : RecordedGraph) (starts : List ℕ) (s t : ℕ)
    → IsSoundTable table
    → IsGraphOf table graph
    → IsFirstLate graph starts t
    → IsRow table starts t (Some s)
    → FirstBroken table starts s t
first_of_row table graph starts s t sound of first row = record {
  broken = row.0;
  least_to = λ r u b. elim (cases_lt u t) [
    | inl less ↦ absurd
        (none_below table graph starts t sound of first.none_before r u less b)
    | inr more ↦ more
  ];
  least_from = row.1;
}
