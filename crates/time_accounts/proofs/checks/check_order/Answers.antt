use Rattle.std.proofs.Common.{ℕ, List, length, Contains, subst, ap, arith}
use Rattle.dispatch_core.specs.RecordedGraph.{predecessors_of}
use Rattle.time_accounts.proofs.checks.check_order.Goals as goal

pub first_to_end_after-requires-clause-inside : goal.first_to_end_after-requires-clause-inside
first_to_end_after-requires-clause-inside c s k =
    let pred : Contains (predecessors_of c.args.graph.now c.loop-segment.segment) s =
    subst (λ (xs : List ℕ). Contains xs s) c.preds.ensures k in
    omega (
      arith,
      ap length c.ends.ensures,
      c.requires.ranged.counted.each.each_end,
      c.is_graph.ensures.smaller s c.loop-segment.segment pred,
      c.len-segment-end.ensures.count,
      c.loop-segment-test.true,
    )
