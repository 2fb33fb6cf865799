use Rattle.std.proofs.Common.{◌∙◌, ap, length, rules, sym}
use Rattle.span_cert.specs.Claims.{moments_of_starts}
use Rattle.span_cert.proofs.Broken.{length-costs}
use Rattle.span_cert.proofs.Late.{first_of_row, late_broken, none_broken}
use Rattle.span_cert.proofs.late_segments.first_broken_by_edges.Goals as goal

pub first_late-requires : goal.first_late-requires
first_late-requires g c = record {
  each = c.requires.each ∙ sym (length-costs c.args.table.now)
      ∙ ap length (sym c.in_ok-graph.ensures.costs);
}

pub first_in_row-requires : goal.first_in_row-requires
first_in_row-requires g c = (
  search rules,
  (
    c.requires.each,
    late_broken c.args.table.now c.in_ok-graph.graph (moments_of_starts c.args.starts.now)
        c.in-Some.t c.serves_runs.ensures c.in_ok-graph.ensures c.in-Some.ensures.late,
  ),
)

pub returns-in-Some : goal.returns-in-Some
returns-in-Some g c =
    first_of_row c.args.table.now c.in_ok-graph.graph (moments_of_starts c.args.starts.now)
    c.first_in_row.result c.in-Some.t c.serves_runs.ensures c.in_ok-graph.ensures
    c.in-Some.ensures c.first_in_row.ensures

pub returns : goal.returns
returns g c =
    none_broken c.args.table.now c.in_ok-graph.graph (moments_of_starts c.args.starts.now)
    c.serves_runs.ensures c.in_ok-graph.ensures c.in-None.ensures
