use Rattle.std.proofs.Common.{List, ℕ, ◌∙◌, ap}
use Rattle.whatif_costs.specs.Changed.{refusal_of}
use Rattle.whatif_costs.proofs.fault.refusal.Goals as goal

pub returns : goal.returns
returns c =
    let edges = c.args.graph.now.predecessors in
    c.refusal_at.ensures edges
    ∙ ap (λ (xs : List ℕ). refusal_of (record { costs = xs; predecessors = edges }) c.args.segment
    c.args.cost) c.costs.ensures
