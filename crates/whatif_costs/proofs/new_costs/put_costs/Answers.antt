use Rattle.std.proofs.Common.{arith, refl, sym, ◌∙◌}
use Rattle.whatif_costs.specs.declared.new_costs.NewCost.{NewCost}
use Rattle.whatif_costs.proofs.InTurn.{one_more_tried, refused_there, with_costs}
use Rattle.whatif_costs.proofs.Refusals.{accepted_inside}
use Rattle.whatif_costs.proofs.new_costs.put_costs.Goals as goal

pub returns-in-Some-clause-refused : goal.returns-in-Some-clause-refused
returns-in-Some-clause-refused c =
    let none : NewCost = record { segment = 0; cost = 0 } in
    refused_there c.args.graph.now c.args.changes.now c.loop-change.change-index c.loop-change.costs
    c.loop-change.work none _ c.in-Some.fault c.loop-change-test.true refl
    (sym (c.refusal_at.ensures c.args.graph.now.predecessors) ∙ c.in-Some.is) c.loop-change.invariant

pub bounds-costs-change : goal.bounds-costs-change
bounds-costs-change c =
    accepted_inside (with_costs c.args.graph.now c.loop-change.costs) _ _
    (sym (c.refusal_at.ensures c.args.graph.now.predecessors) ∙ c.in_default.is)

pub overflow_add-work : goal.overflow_add-work
overflow_add-work c =
    let none : NewCost = record { segment = 0; cost = 0 } in
    let next =
    one_more_tried c.args.graph.now c.args.changes.now c.loop-change.change-index c.loop-change.costs
    c.loop-change.work none _ c.loop-change-test.true refl
    (sym (c.refusal_at.ensures c.args.graph.now.predecessors) ∙ c.in_default.is)
    c.loop-change.invariant in
    let small = next.small in
    omega arith

pub bounds-costs-change-in-loop-change : goal.bounds-costs-change-in-loop-change
bounds-costs-change-in-loop-change c =
    accepted_inside (with_costs c.args.graph.now c.loop-change.costs) _ _
    (sym (c.refusal_at.ensures c.args.graph.now.predecessors) ∙ c.in_default.is)

pub loop-change-preserved : goal.loop-change-preserved
loop-change-preserved c =
    let none : NewCost = record { segment = 0; cost = 0 } in
    one_more_tried c.args.graph.now c.args.changes.now c.loop-change.change-index c.loop-change.costs
    c.loop-change.work none _ c.loop-change-test.true refl
    (sym (c.refusal_at.ensures c.args.graph.now.predecessors) ∙ c.in_default.is)
    c.loop-change.invariant
