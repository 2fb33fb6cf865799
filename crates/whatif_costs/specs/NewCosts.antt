-- Changes of costs, each made on what those before it have left.
use Rattle.std.specs.Prelude.{List, [], ◌∷◌, Option, Some, None}
use Rattle.dispatch_core.specs.RecordedGraph.{RecordedGraph}
use Rattle.whatif_costs.specs.Changed.{with_cost, refusal_of}
use Rattle.whatif_costs.specs.declared.new_costs.NewCost.{NewCost}
use Rattle.whatif_costs.specs.declared.fault.WhatFault.{WhatFault}

-- the graph after all changes
abbrev pub with_new_costs : RecordedGraph → List NewCost → RecordedGraph
with_new_costs graph [] = graph
with_new_costs graph (change ∷ changes) =
    with_new_costs (with_cost graph change.segment change.cost) changes

-- the one refusal, or where there is none, the other
abbrev pub first_refusal : Option WhatFault → Option WhatFault → Option WhatFault
first_refusal None other = other
first_refusal (Some why) other = Some why

-- why the first change that is refused is, memory aside
abbrev pub refusal_in : RecordedGraph → List NewCost → Option WhatFault
refusal_in graph [] = None
refusal_in graph (change ∷ changes) =
    first_refusal (refusal_of graph change.segment change.cost)
    (refusal_in (with_cost graph change.segment change.cost) changes)
