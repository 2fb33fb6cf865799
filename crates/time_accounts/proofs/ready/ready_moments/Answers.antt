use Rattle.std.proofs.Common.{◌≡◌, ℕ, List, length, Contains, subst, ap, sym, ◌∙◌, arith}
use Rattle.std.proofs.lemmas.List.{length-map}
use Rattle.std.proofs.lemmas.Grind.{same_number_lists}
use Rattle.dispatch_core.specs.RecordedGraph.{predecessors_of}
use Rattle.time_accounts.specs.Shares.{last_end, ready_moments}
use Rattle.time_accounts.proofs.ReadyMoments.{at-ready_moments}
use Rattle.time_accounts.proofs.ready.ready_moments.Goals as goal

pub last_end_of-requires : goal.last_end_of-requires
last_end_of-requires c s k =
    let pred : Contains (predecessors_of c.args.graph.now c.loop-segment.segment) s =
    subst (λ (xs : List ℕ). Contains xs s) c.preds.ensures k in
    omega (
      arith,
      ap length c.ends.ensures,
      c.requires,
      c.is_graph.ensures.smaller s c.loop-segment.segment pred,
      c.len-segment-end.ensures.count,
      c.loop-segment-test.true,
    )

pub returns : goal.returns
returns c =
    let long : length (ready_moments c.args.graph.now c.args.times.now)
    ≡ length c.args.graph.now.predecessors =
    length-map c.args.graph.now.predecessors (last_end c.args.times.now.ends) in
    let all : length c.loop-segment.moments.items ≡ length c.args.graph.now.costs =
    omega (
      arith,
      c.loop-segment.invariant.each,
      c.loop-segment-test.false,
      c.loop-segment.auto.segment-end,
      c.len-segment-end.ensures.count,
    ) in
    same_number_lists c.loop-segment.moments.items
    (ready_moments c.args.graph.now c.args.times.now)
    (omega (arith, long, all, c.is_graph.ensures.each))
    (λ k l. c.loop-segment.invariant.so_far k (omega (arith, l, c.loop-segment.invariant.each))
    ∙ sym (at-ready_moments c.args.graph.now c.args.times.now k))
