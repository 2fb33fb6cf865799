use Rattle.std.proofs.Common.{ℕ, ◌<◌, ◌≡◌, [], List, length, get_or, sym, ap, ◌∙◌, subst, arith, Contains}
use Rattle.std.specs.Prelude.{replicate}
use Rattle.dispatch_core.specs.RecordedGraph.{predecessors_of}
use Rattle.dispatch_core.specs.Successors.{AreCounted, AreSuccessors}
use Rattle.dispatch_core.proofs.Following.{IsFilledTo, all_full, are_successors, few_counted, fill_next}
use Rattle.dispatch_core.proofs.Following.{has_room, nothing_yet}
use Rattle.dispatch_core.proofs.successors.successors_of.Goals as goal

pub loop-segment-init : goal.loop-segment-init
loop-segment-init c =
    let counts : List ℕ = c.in_ok-counts.counts.items in
    nothing_yet c.args.graph.now counts c.in_ok-lists.lists c.in_ok-counts.ensures.each
    (c.in_ok-lists.ensures.rooms ∙ c.deref.ensures.value)
    (c.in_ok-lists.ensures.lists
    ∙ ap (λ (l : List ℕ). replicate {A = List ℕ} (length l) []) c.deref.ensures.value)

pub enter-requires-clause-inside : goal.enter-requires-clause-inside
enter-requires-clause-inside c r has =
    let less = c.len-segment-end.ensures.is_graph.smaller r c.loop-segment.segment
    (subst (λ (l : List ℕ). Contains l r) c.preds.ensures has) in
    omega (
      arith,
      less,
      c.loop-segment-test.true,
      c.len-segment-end.ensures.count,
      c.loop-segment.invariant.each,
    )

pub enter-requires-clause-room : goal.enter-requires-clause-room
enter-requires-clause-room c r has =
    has_room c.args.graph.now c.loop-segment.segment r c.in_ok-counts.counts.items
    c.preds.result.now c.loop-segment.lists c.len-segment-end.ensures.is_graph
    (omega (arith, c.loop-segment-test.true, c.len-segment-end.ensures.count)) c.preds.ensures
    c.in_ok-counts.ensures c.loop-segment.invariant has

pub enter-requires-clause-few : goal.enter-requires-clause-few
enter-requires-clause-few c r =
    let limit = c.len-segment-end.ensures.is_graph.few in
    omega (
      arith,
      limit,
      few_counted c.args.graph.now c.in_ok-counts.counts.items r
          c.len-segment-end.ensures.is_graph c.in_ok-counts.ensures,
      ap (λ (l : List ℕ). get_or l r 0) c.loop-segment.invariant.same_rooms,
    )

pub loop-segment-preserved : goal.loop-segment-preserved
loop-segment-preserved c =
    fill_next c.args.graph.now c.loop-segment.segment c.in_ok-counts.counts.items
    c.preds.result.now c.loop-segment.lists c.enter.new.lists c.len-segment-end.ensures.is_graph
    (omega (arith, c.loop-segment-test.true, c.len-segment-end.ensures.count)) c.preds.ensures
    c.enter.ensures.rooms c.enter.ensures.each c.enter.ensures.entered c.enter.ensures.others
    c.loop-segment.invariant

pub into_lists-requires : goal.into_lists-requires
into_lists-requires c =
    let all : c.loop-segment.segment ≡ length c.args.graph.now.costs =
    omega (
      arith,
      c.loop-segment-test.false,
      c.loop-segment.auto.segment-end,
      c.len-segment-end.ensures.count,
    ) in
    all_full c.args.graph.now c.in_ok-counts.counts.items c.loop-segment.lists
    c.in_ok-counts.ensures
    (subst (λ (n : ℕ). IsFilledTo c.args.graph.now n c.in_ok-counts.counts.items
    c.loop-segment.lists) all c.loop-segment.invariant)

pub returns : goal.returns
returns c =
    let all : c.loop-segment.segment ≡ length c.args.graph.now.costs =
    omega (
      arith,
      c.loop-segment-test.false,
      c.loop-segment.auto.segment-end,
      c.len-segment-end.ensures.count,
    ) in
    subst (λ (l : List (List ℕ)). AreSuccessors c.args.graph.now l) (sym c.into_lists.ensures)
    (are_successors c.args.graph.now c.in_ok-counts.counts.items c.loop-segment.lists
    c.len-segment-end.ensures.is_graph
    (subst (λ (n : ℕ). IsFilledTo c.args.graph.now n c.in_ok-counts.counts.items
    c.loop-segment.lists) all c.loop-segment.invariant))
