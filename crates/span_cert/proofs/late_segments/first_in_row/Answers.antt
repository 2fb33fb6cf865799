use Rattle.std.proofs.Common.{rules}
use Rattle.span_cert.proofs.late_segments.first_in_row.Goals as goal

pub broken_before-requires : goal.broken_before-requires
broken_before-requires g c = (search rules, (search rules, c.requires.some.1.is_segment))

pub unreachable-requires : goal.unreachable-requires
unreachable-requires g c = absurd (c.in-None.ensures c.requires.some.0 c.requires.some.1)
