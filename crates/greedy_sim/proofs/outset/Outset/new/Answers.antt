use Rattle.std.proofs.Common.{ℕ, ◌≡◌, ◌+◌, ◌<◌, ◌∷◌, List, [], length, get_or, arith, ap, sym, ◌∙◌}
use Rattle.std.proofs.Common.{subst}
use Rattle.std.proofs.lemmas.List.{length-append}
use Rattle.dispatch_core.specs.RecordedGraph.{predecessors_of}
use Rattle.greedy_sim.proofs.Outsets.{makes_outset, pushed_rule}
use Rattle.greedy_sim.proofs.outset.Outset.new.Goals as goal

pub loop-segment-init : goal.loop-segment-init
loop-segment-init c = record {
  size = ap length c.in_ok-waits.ensures.items;
  left = λ s l. absurd (omega (arith, l));
}

pub preds-requires : goal.preds-requires
preds-requires c = omega (arith, c.loop-segment-test.true, c.len-count.ensures.count)

pub loop-segment-preserved : goal.loop-segment-preserved
loop-segment-preserved c =
    let segment = c.loop-segment.segment in
    let old = c.loop-segment.waits.items in
    let row = c.preds.result.now in
    let rule : ℕ → ℕ = λ s. length (predecessors_of c.args.graph.now s) in
    let L : List ℕ → Type 0 = λ xs. (s : ℕ) → s < segment + 1 → get_or xs s 0 ≡ rule s in
    record {
      size = ap length c.in_ok-push.ensures.items
          ∙ (length-append old (length row ∷ []) ∙ ap (λ k. k + 1) c.loop-segment.invariant.size);
      left = subst L (sym c.in_ok-push.ensures.items)
          (pushed_rule rule old (length row) segment c.loop-segment.invariant.size
          c.loop-segment.invariant.left (ap length c.preds.ensures));
    }

pub returns : goal.returns
returns c =
    let all : c.loop-segment.segment ≡ c.len-count.result =
    omega (arith, c.loop-segment-test.false, c.loop-segment.auto.segment-end) in
    makes_outset c.args.graph.now c.in_ok-waiting.waiting c.loop-segment.waits.items
    c.loop-segment.segment c.len-count.ensures.is_graph (all ∙ c.len-count.ensures.count)
    c.in_ok-waiting.ensures c.loop-segment.invariant.size c.loop-segment.invariant.left
