use Rattle.std.proofs.Common.{ℕ, ◌≡◌, List, length, map, take}
use Rattle.dispatch_core.proofs.run_state.predecessor_counts.Given as goal

abbrev pub invariant-loop-segment : goal.invariant-loop-segment
invariant-loop-segment l =
    l.counts.items ≡ take l.segment (map (λ (list : List ℕ). length list) l.graph.predecessors)
