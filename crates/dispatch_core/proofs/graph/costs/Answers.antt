use Rattle.std.proofs.Common.{ℕ, ◌≡◌, ◌<◌, ◌++◌, ◌∷◌, [], List, sym, ap, ◌∙◌, arith, take, get_or}
use Rattle.std.proofs.Common.{length}
use Rattle.std.proofs.lemmas.List.{take_more, length-map, get_or-map}
use Rattle.task_segments.specs.Table.{no_segment, costs_of}
use Rattle.task_segments.specs.declared.table.Segment.{Segment}
use Rattle.dispatch_core.proofs.graph.costs.Goals as goal

pub loop-segment-preserved : goal.loop-segment-preserved
loop-segment-preserved g c =
    let number = c.loop-segment.segment in
    let all = costs_of c.args.table.now in
    let within : number < length c.args.table.now.segments =
    omega (arith, c.loop-segment-test.true, c.len-segment-end.ensures) in
    let here : get_or all number 0 ≡ c.cost.result = get_or-map (λ (row : Segment). row.cost)
    c.args.table.now.segments number no_segment 0 within
    ∙ sym c.cost.ensures in
    let more = take_more all number 0
    (omega (arith, within, length-map c.args.table.now.segments (λ (row : Segment). row.cost))) in
    c.in_ok-push.ensures.items
    ∙ ap (λ (l : List ℕ). l ++ c.cost.result ∷ []) c.loop-segment.invariant
    ∙ ap (λ n. take number all ++ n ∷ []) (sym here)
    ∙ sym more
