use Rattle.std.proofs.Common.{ℕ, List, length, Contains, subst, ap, arith}
use Rattle.dispatch_core.specs.RecordedGraph.{predecessors_of}
use Rattle.time_accounts.proofs.path.last_before.Goals as goal

pub last_among-requires-clause-inside : goal.last_among-requires-clause-inside
last_among-requires-clause-inside c s k =
    let pred : Contains (predecessors_of c.args.graph.now c.args.segment) s =
    subst (λ (xs : List ℕ). Contains xs s) c.preds.ensures k in
    omega (
      arith,
      ap length c.ends.ensures,
      c.requires.each,
      c.requires.inside,
      c.is_graph.ensures.smaller s c.args.segment pred,
    )
