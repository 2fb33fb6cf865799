use Rattle.std.proofs.Common.{◌∙◌, ap, length, rules}
use Rattle.span_cert.specs.Tests.{HasRightNumbers}
use Rattle.span_cert.proofs.Counting.{count_of}
use Rattle.span_cert.proofs.Verdicts.{pair_of}
use Rattle.span_cert.proofs.verdict.judge_by_edges.Goals as goal

pub first_broken_by_edges-requires : goal.first_broken_by_edges-requires
first_broken_by_edges-requires g c =
    let counted : HasRightNumbers c.args.table.now c.args.claim.now = search rules in (
      search rules,
      ap length c.starts.ensures
          ∙ count_of c.args.claim.now.starts (length c.args.table.now.segments) counted.starts,
    )

pub judge_counted-requires : goal.judge_counted-requires
judge_counted-requires g c = (
  search rules,
  (
    c.requires,
    (
      c.is_counted.ensures.0 c.if-not-is_counted.false,
      pair_of c.args.table.now c.starts.result.now c.args.claim.now.starts c.in_ok-pair.pair
          c.starts.ensures c.in_ok-pair.ensures,
    ),
  ),
)
