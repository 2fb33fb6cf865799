use Rattle.std.proofs.Common.{◌≡◌, ◌-◌, ◌∙◌, ap, ap₂, arith}
use Rattle.std.specs.List.{range_with_len}
use Rattle.span_cert.specs.Claims.{moments_of_starts}
use Rattle.span_cert.proofs.Columns.{columns_from}
use Rattle.span_cert.proofs.broken_pairs.columns_of.Goals as goal

pub returns : goal.returns
returns g c =
    let ends = c.into_par_iter.ensures in
    let mapped = rw (c.map_init.ensures.base, c.map_init.ensures.f) at c.in_ok-columns.ensures in
    let split = c.with_min_len.ensures.base in
    let start : c.with_min_len.result.base.start ≡ 0 = ap (λ r. r.start) split ∙ ends.0 in
    let size : c.with_min_len.result.base.end - c.with_min_len.result.base.start ≡ 64 =
    omega (arith, start, ap (λ r. r.end) split, ends.1) in
    let range = mapped.1.1 ∙ ap₂ range_with_len start size in
    columns_from _ _ c.args.table.now (moments_of_starts c.args.starts.now) mapped.1.0 mapped.0
    c.in_ok-columns.columns (λ column answer post. post.2) range mapped.1.2 mapped.2
