use Rattle.std.proofs.Common.{ℕ, ◌≡◌, List, take, length, sum_by}
use Rattle.dispatch_core.proofs.graph.Graph.edges.Given as goal

abbrev pub invariant-loop-segment : goal.invariant-loop-segment
invariant-loop-segment l =
    l.total ≡ sum_by (λ (list : List ℕ). length list) (take l.segment l.self.predecessors)
