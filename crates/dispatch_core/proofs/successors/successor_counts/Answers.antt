use Rattle.std.proofs.Common.{ℕ, ◌+◌, ◌<◌, ◌≤◌, ◌≡◌, List, length, get_or, sym, ap, ◌∙◌, subst, arith, Contains, inl, inr}
use Rattle.std.proofs.lemmas.Bool.{cases_lt}
use Rattle.std.proofs.lemmas.List.{get_or_past}
use Rattle.task_segments.specs.declared.limits.TheConstants.{MOST_ROWS}
use Rattle.dispatch_core.specs.RecordedGraph.{predecessors_of}
use Rattle.dispatch_core.proofs.Following.{fed_few}
use Rattle.dispatch_core.proofs.successors.successor_counts.Goals as goal

pub count_each-requires-clause-inside : goal.count_each-requires-clause-inside
count_each-requires-clause-inside c r has =
    let segment : ℕ = c.loop-segment.segment in
    let less = c.len-count.ensures.is_graph.smaller r segment
    (subst (λ (l : List ℕ). Contains l r) c.preds.ensures has) in
    omega (
      arith,
      less,
      c.loop-segment-test.true,
      c.len-count.ensures.count,
      c.loop-segment.invariant.each,
      ap (λ (l : List ℕ). length l) c.deref_mut.ensures.value,
    )

pub count_each-requires-clause-few : goal.count_each-requires-clause-few
count_each-requires-clause-few c r =
    let graph = c.args.graph.now in
    let segment : ℕ = c.loop-segment.segment in
    let counts : List ℕ = c.loop-segment.counts.items in
    let is = c.len-count.ensures.is_graph in
    let limit = is.few in
    let all = is.each in
    let each = c.loop-segment.invariant.each in
    let low : segment < length graph.costs =
    omega (arith, c.loop-segment-test.true, c.len-count.ensures.count) in
    let same = ap (λ (l : List ℕ). get_or l r 0) c.deref_mut.ensures.value in
    elim (cases_lt r (length graph.costs)) [
      | inl known ↦ omega (
        arith,
        same,
        c.loop-segment.invariant.counted r known,
        fed_few graph segment r is (omega (arith, low, all)),
        low,
        limit,
      )
      | inr past ↦ omega (arith, same, get_or_past counts r 0 (omega (arith, each, past)))
    ]
