use Rattle.std.proofs.Common.{ℕ, List, arith, ap, get_or, length, refl, rules}
use Rattle.std.proofs.lemmas.Bool.{both_ways}
use Rattle.span_cert.specs.Claims.{moments_of_starts}
use Rattle.span_cert.specs.declared.claim.Start.{Start}
use Rattle.span_cert.proofs.Late.{late_for, none_late, not_late_for, one_pred_more, pred_before}
use Rattle.span_cert.proofs.late_segments.is_late.Goals as goal

pub bounds-starts-s : goal.bounds-starts-s
bounds-starts-s c =
    let before = pred_before c.args.graph.now c.preds-preds.result.now c.args.t c.loop-s.s-index
    c.len.ensures.is_graph c.preds-preds.ensures (omega arith) in
    omega (arith, before, c.requires.to, c.requires.each)

pub cost-requires : goal.cost-requires
cost-requires c =
    let before = pred_before c.args.graph.now c.preds-preds.result.now c.args.t c.loop-s.s-index
    c.len.ensures.is_graph c.preds-preds.ensures (omega arith) in
    omega (arith, before, c.requires.to)

pub returns-then-is_too_soon : goal.returns-then-is_too_soon
returns-then-is_too_soon c =
    let none : Start = record { segment = 0; moment = 0 } in
    let preds : List ℕ = c.preds-preds.result.now in
    let before = pred_before c.args.graph.now preds c.args.t c.loop-s.s-index
    c.len.ensures.is_graph c.preds-preds.ensures (omega arith) in (
      λ yes. (
        get_or preds c.loop-s.s-index 0,
        late_for c.args.graph.now c.args.starts.now preds c.args.t c.loop-s.s-index c.cost.result
            none c.preds-preds.ensures (omega arith) (omega (arith, c.requires.to, c.requires.each))
            (omega (arith, before, c.requires.to, c.requires.each)) c.cost.ensures
            (c.is_too_soon.ensures.0 c.if-is_too_soon.true),
      ),
      λ late. refl,
    )

pub loop-s-preserved : goal.loop-s-preserved
loop-s-preserved c =
    let none : Start = record { segment = 0; moment = 0 } in
    let preds : List ℕ = c.preds-preds.result.now in
    let before = pred_before c.args.graph.now preds c.args.t c.loop-s.s-index
    c.len.ensures.is_graph c.preds-preds.ensures (omega arith) in
    one_pred_more c.args.graph.now (moments_of_starts c.args.starts.now) c.args.t c.loop-s.s-index
    c.loop-s.invariant
    (not_late_for c.args.graph.now c.args.starts.now preds c.args.t c.loop-s.s-index c.cost.result
    none c.preds-preds.ensures (omega (arith, c.requires.to, c.requires.each))
    (omega (arith, before, c.requires.to, c.requires.each)) c.cost.ensures
    (λ soon. both_ways c.is_too_soon.result c.if-is_too_soon.false (c.is_too_soon.ensures.1 soon)))

pub returns : goal.returns
returns c =
    let all = ap (λ (ps : List ℕ). length ps) c.preds-preds.ensures in (
      λ no. absurd (search rules),
      λ late. absurd
          (none_late c.args.graph.now (moments_of_starts c.args.starts.now) c.args.t c.loop-s.s-index
          (omega (arith, all)) c.loop-s.invariant late),
    )
