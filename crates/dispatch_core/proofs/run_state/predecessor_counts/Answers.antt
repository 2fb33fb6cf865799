use Rattle.std.proofs.Common.{ℕ, ◌<◌, ◌≡◌, ◌++◌, ◌∷◌, [], List, length, map, take, get_or, sym, ap, ◌∙◌}
use Rattle.std.proofs.Common.{arith}
use Rattle.std.proofs.lemmas.List.{take_all, take_more, length-map, get_or-map}
use Rattle.open_segments.proofs.Ascending.{length_below}
use Rattle.dispatch_core.specs.RecordedGraph.{predecessors_of}
use Rattle.dispatch_core.proofs.run_state.predecessor_counts.Goals as goal

pub overflow_cast-preds : goal.overflow_cast-preds
overflow_cast-preds c =
    let graph = c.args.graph.now in
    let segment : ℕ = c.loop-segment.segment in
    let is = c.len-count.ensures.is_graph in
    let limit = is.few in
    let below = length_below segment (predecessors_of graph segment) (is.ascending segment)
    (λ p member. is.smaller p segment member) in
    omega (
      arith,
      below,
      limit,
      c.loop-segment-test.true,
      c.len-count.ensures.count,
      ap (λ (l : List ℕ). length l) c.preds.ensures,
    )

pub loop-segment-preserved : goal.loop-segment-preserved
loop-segment-preserved c =
    let graph = c.args.graph.now in
    let number : ℕ = c.loop-segment.segment in
    let all : List ℕ = map (λ (l : List ℕ). length l) graph.predecessors in
    let each = c.len-count.ensures.is_graph.each in
    let within : number < length graph.predecessors =
    omega (arith, c.loop-segment-test.true, c.len-count.ensures.count, each) in
    let here : get_or all number 0 ≡ length c.preds.result.now =
    get_or-map (λ (l : List ℕ). length l) graph.predecessors number [] 0 within
    ∙ sym (ap (λ (l : List ℕ). length l) c.preds.ensures) in
    let more = take_more all number 0
    (omega (arith, within, length-map graph.predecessors (λ (l : List ℕ). length l))) in
    c.in_ok-push.ensures.items
    ∙ ap (λ (l : List ℕ). l ++ length c.preds.result.now ∷ []) c.loop-segment.invariant
    ∙ ap (λ (n : ℕ). take number all ++ n ∷ []) (sym here)
    ∙ sym more

pub returns : goal.returns
returns c =
    let graph = c.args.graph.now in
    let all : List ℕ = map (λ (l : List ℕ). length l) graph.predecessors in
    let each = c.len-count.ensures.is_graph.each in
    c.loop-segment.invariant
    ∙ take_all c.loop-segment.segment all (omega (
      arith,
      c.loop-segment-test.false,
      c.len-count.ensures.count,
      each,
      length-map graph.predecessors (λ (l : List ℕ). length l),
    ))
