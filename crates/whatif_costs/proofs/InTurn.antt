-- Changes that are made one after another.
use Rattle.std.proofs.Common.{◌≡◌, ℕ, ◌+◌, ◌-◌, ◌<◌, ◌≤◌, List, ◌∷◌, Option, Some}
use Rattle.std.proofs.Common.{None, length, get_or, set, drop, sum, sym, ap, ◌∙◌, arith}
use Rattle.std.proofs.lemmas.List.{drop_more, drop_all, length-set}
use Rattle.std.proofs.lemmas.List.Sums.{sum_by-set, get_or-le-sum_by}
use Rattle.dispatch_core.specs.RecordedGraph.{RecordedGraph}
use Rattle.program_text.specs.declared.limits.TheConstants.{MOST_WORK}
use Rattle.task_segments.specs.Schedule.{at}
use Rattle.whatif_costs.specs.Changed.{refusal_of}
use Rattle.whatif_costs.specs.NewCosts.{with_new_costs, first_refusal, refusal_in}
use Rattle.whatif_costs.specs.declared.new_costs.NewCost.{NewCost}
use Rattle.whatif_costs.specs.declared.fault.WhatFault.{WhatFault}
use Rattle.whatif_costs.proofs.Refusals.{accepted_inside, accepted_small}

-- a graph with other costs
abbrev pub with_costs : RecordedGraph → List ℕ → RecordedGraph
with_costs graph costs = record graph { costs = costs }

-- the first n changes are in the costs, and the others lead from there to where all lead
pub record AreTried (graph : RecordedGraph) (changes : List NewCost) (n : ℕ) (costs : List ℕ)
    (work : ℕ)
    : Type 0 where
  pub each : length costs ≡ length graph.costs
  pub work_is : work ≡ sum costs
  pub small : work ≤ MOST_WORK
  pub refused : refusal_in graph changes ≡ refusal_in (with_costs graph costs) (drop n changes)
  pub reached : with_new_costs graph changes ≡ with_new_costs (with_costs graph costs) (drop n changes)

pub none_tried : (graph : RecordedGraph) (changes : List NewCost) (costs : List ℕ) (work : ℕ)
    → costs ≡ graph.costs
    → work ≡ sum graph.costs
    → sum graph.costs ≤ MOST_WORK
    → AreTried graph changes 0 costs work
none_tried graph changes costs work is total small = record {
  each = ap (λ (xs : List ℕ). length xs) is;
  work_is = total ∙ ap (λ (xs : List ℕ). sum xs) (sym is);
  small = omega (arith, total, small);
  refused = ap (λ (xs : List ℕ). refusal_in (with_costs graph xs) changes) (sym is);
  reached = ap (λ (xs : List ℕ). with_new_costs (with_costs graph xs) changes) (sym is);
}

-- the changes from the n-th on
rest_is : (changes : List NewCost) (n : ℕ) (none change : NewCost)
    → n < length changes
    → change ≡ get_or changes n none
    → drop n changes ≡ change ∷ drop (n + 1) changes
rest_is changes n none change inside is =
    drop_more changes n none inside
    ∙ ap (λ (x : NewCost). x ∷ drop (n + 1) changes) (sym is)

-- one more change, which is not refused
pub one_more_tried : (graph : RecordedGraph) (changes : List NewCost) (n : ℕ) (costs : List ℕ)
    (work : ℕ) (none change : NewCost)
    → n < length changes
    → change ≡ get_or changes n none
    → refusal_of (with_costs graph costs) change.segment change.cost ≡ None
    → AreTried graph changes n costs work
    → AreTried graph changes (n + 1) (set costs change.segment change.cost)
    (work - at costs change.segment + change.cost)
one_more_tried graph changes n costs work none change inside is accepted tried =
    let s = change.segment in
    let s_in : s < length costs =
    accepted_inside (with_costs graph costs) s change.cost accepted in
    let total : sum (set costs s change.cost) + at costs s ≡ sum costs + change.cost =
    sum_by-set (λ x. x) costs s change.cost 0 s_in in
    let within : at costs s ≤ sum costs = get_or-le-sum_by (λ x. x) costs s 0 s_in in
    let small : sum (set costs s change.cost) ≤ MOST_WORK =
    accepted_small (with_costs graph costs) s change.cost accepted in
    let works : work ≡ sum costs = tried.work_is in
    let next = rest_is changes n none change inside is in
    record {
      each = length-set costs s change.cost ∙ tried.each;
      work_is = omega (arith, total, works, within);
      small = omega (arith, total, works, within, small);
      refused = tried.refused
          ∙ (ap (λ (xs : List NewCost). refusal_in (with_costs graph costs) xs) next
          ∙ ap (λ (o : Option WhatFault). first_refusal o
          (refusal_in (with_costs graph (set costs s change.cost)) (drop (n + 1) changes))) accepted);
      reached = tried.reached
          ∙ ap (λ (xs : List NewCost). with_new_costs (with_costs graph costs) xs) next;
    }

-- a change that is refused after those before it
pub refused_there : (graph : RecordedGraph) (changes : List NewCost) (n : ℕ) (costs : List ℕ)
    (work : ℕ) (none change : NewCost) (fault : WhatFault)
    → n < length changes
    → change ≡ get_or changes n none
    → refusal_of (with_costs graph costs) change.segment change.cost ≡ Some fault
    → AreTried graph changes n costs work
    → refusal_in graph changes ≡ Some fault
refused_there graph changes n costs work none change fault inside is why tried =
    tried.refused
    ∙ (ap (λ (xs : List NewCost). refusal_in (with_costs graph costs) xs)
    (rest_is changes n none change inside is)
    ∙ ap (λ (o : Option WhatFault). first_refusal o
    (refusal_in (with_costs graph (set costs change.segment change.cost)) (drop (n + 1) changes)))
    why)

-- all changes, of which none is refused
pub none_refused : (graph : RecordedGraph) (changes : List NewCost) (n : ℕ) (costs : List ℕ)
    (work : ℕ)
    → length changes ≤ n
    → AreTried graph changes n costs work
    → refusal_in graph changes ≡ None
none_refused graph changes n costs work past tried =
    tried.refused
    ∙ ap (λ (xs : List NewCost). refusal_in (with_costs graph costs) xs) (drop_all n changes past)

pub all_tried : (graph : RecordedGraph) (changes : List NewCost) (n : ℕ) (costs : List ℕ)
    (work : ℕ)
    → length changes ≤ n
    → AreTried graph changes n costs work
    → with_new_costs graph changes ≡ with_costs graph costs
all_tried graph changes n costs work past tried =
    tried.reached
    ∙ ap (λ (xs : List NewCost). with_new_costs (with_costs graph costs) xs) (drop_all n changes past)
