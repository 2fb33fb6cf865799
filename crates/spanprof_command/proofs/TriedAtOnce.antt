-- Changes that a trial takes all at once.
use Rattle.std.proofs.Common.{◌≡◌, ◌≢◌, ◌∙◌, List, [], ◌∷◌, Option, None, Some, Result, Ok, Err}
use Rattle.std.proofs.Common.{map, refl, ap, sym}
use Rattle.command_words.specs.declared.changes.Change.{Change}
use Rattle.dispatch_core.specs.RecordedGraph.{RecordedGraph}
use Rattle.whatif_costs.specs.Changed.{IsFaultOf, refusal_of, with_cost}
use Rattle.whatif_costs.specs.NewCosts.{first_refusal, refusal_in, with_new_costs}
use Rattle.whatif_costs.specs.declared.new_costs.NewCost.{NewCost}
use Rattle.whatif_costs.specs.declared.fault.WhatFault.{WhatFault}
use Rattle.whatif_costs.specs.declared.fault.WhatFault.TheVariants.{OutOfMemory}
use Rattle.spanprof_command.specs.NewCosts.{new_cost_of}
use Rattle.spanprof_command.specs.Trials.{after_changes, unless_refused}

-- one refusal after another is the first of the two
unless_either : (first second : Option WhatFault) (next : Result RecordedGraph WhatFault)
    → unless_refused first (unless_refused second next)
    ≡ unless_refused (first_refusal first second) next
unless_either None second next = refl
unless_either (Some why) second next = refl

-- changes one by one lead to the same as all at once
all_of : (graph : RecordedGraph) (changes : List Change)
    → after_changes graph changes
    ≡ unless_refused (refusal_in graph (map new_cost_of changes))
    (Ok (with_new_costs graph (map new_cost_of changes)))
all_of graph [] = refl
all_of graph (change ∷ changes) =
    let next : RecordedGraph = with_cost graph change.segment change.cost in
    let refusal : Option WhatFault = refusal_of graph change.segment change.cost in
    ap (λ (r : Result RecordedGraph WhatFault). unless_refused refusal r) (all_of next changes)
    ∙ unless_either refusal (refusal_in next (map new_cost_of changes))
    (Ok (with_new_costs next (map new_cost_of changes)))

all_at_once : (graph : RecordedGraph) (changes : List Change) (taken : List NewCost)
    → taken ≡ map new_cost_of changes
    → after_changes graph changes
    ≡ unless_refused (refusal_in graph taken) (Ok (with_new_costs graph taken))
all_at_once graph changes taken same =
    all_of graph changes
    ∙ ap (λ (xs : List NewCost). unless_refused (refusal_in graph xs)
    (Ok (with_new_costs graph xs))) (sym same)

-- where none is refused, one by one they lead to the graph that they lead to at once
pub accepted_all : (graph tried : RecordedGraph) (changes : List Change) (taken : List NewCost)
    → taken ≡ map new_cost_of changes
    → refusal_in graph taken ≡ None
    → tried ≡ with_new_costs graph taken
    → after_changes graph changes ≡ Ok tried
accepted_all graph tried changes taken same none is =
    let ok : RecordedGraph → Result RecordedGraph WhatFault = λ g. Ok g in
    all_at_once graph changes taken same
    ∙ (ap (λ (o : Option WhatFault). unless_refused o (Ok (with_new_costs graph taken))) none
    ∙ ap ok (sym is))

-- a fault that is not memory is the refusal itself
refusal_is : (refusal : Option WhatFault) (why : WhatFault)
    → IsFaultOf refusal why
    → why ≢ OutOfMemory
    → refusal ≡ Some why
refusal_is None why is other = absurd (other is)
refusal_is (Some first) why is other = ap (λ (w : WhatFault). Some w) (sym is)

-- a list that is refused at once is refused one by one, for the same change
pub refused_all : (graph : RecordedGraph) (changes : List Change) (taken : List NewCost)
    (why : WhatFault)
    → taken ≡ map new_cost_of changes
    → IsFaultOf (refusal_in graph taken) why
    → why ≢ OutOfMemory
    → after_changes graph changes ≡ Err why
refused_all graph changes taken why same is other =
    all_at_once graph changes taken same
    ∙ ap (λ (o : Option WhatFault). unless_refused o (Ok (with_new_costs graph taken)))
    (refusal_is (refusal_in graph taken) why is other)
