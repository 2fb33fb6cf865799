use Rattle.std.proofs.Common.{◌≡◌, ◌-◌, ◌∙◌, ap, ap₂, refl, arith}
use Rattle.std.specs.List.{range_with_len}
use Rattle.dispatch_core.specs.RecordedGraph.{Precedes}
use Rattle.greedy_sim.proofs.CurveEnds.{curve_from, no_count}
use Rattle.greedy_sim.proofs.curve.ends_before.Goals as goal

pub returns-clause-curve : goal.returns-clause-curve
returns-clause-curve g c =
    let ends = c.into_par_iter.ensures in
    let mapped = rw (c.map_init.ensures.base, c.map_init.ensures.f) at c.in_ok-ends.ensures in
    let range_is = c.with_min_len.ensures.base in
    let start : c.with_min_len.result.base.start ≡ 1 = ap (λ r. r.start) range_is ∙ ends.0 in
    let size : c.with_min_len.result.base.end - c.with_min_len.result.base.start ≡ c.args.before - 1 =
    omega (arith, start, ap (λ r. r.end) range_is, ends.1) in
    let range : mapped.1.0 ≡ range_with_len 1 (c.args.before - 1) = mapped.1.1 ∙ ap₂ range_with_len start
    size in
    curve_from _ c.args.graph.now.costs (Precedes c.args.graph.now) (c.args.before - 1) c.in_ok-ends.ends
    mapped.0 mapped.1.0
    (λ p end post. post.2.0) range mapped.1.2 mapped.2

pub returns-clause-count : goal.returns-clause-count
returns-clause-count g c =
    let ends = c.into_par_iter.ensures in
    let mapped = rw (c.map_init.ensures.base, c.map_init.ensures.f) at c.in_ok-ends.ensures in
    let range_is = c.with_min_len.ensures.base in
    let start : c.with_min_len.result.base.start ≡ 1 = ap (λ r. r.start) range_is ∙ ends.0 in
    let size : c.with_min_len.result.base.end - c.with_min_len.result.base.start ≡ c.args.before - 1 =
    omega (arith, start, ap (λ r. r.end) range_is, ends.1) in
    let range : mapped.1.0 ≡ range_with_len 1 (c.args.before - 1) = mapped.1.1 ∙ ap₂ range_with_len start
    size in
    no_count _ (c.args.before - 1) c.in_ok-ends.ends mapped.0 mapped.1.0 (λ p post. post.2.1 refl) range
    mapped.1.2 mapped.2
    (omega arith)
