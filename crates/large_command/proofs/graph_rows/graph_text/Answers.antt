use Rattle.csv_table.specs.Row.{line_of}
use Rattle.csv_table.proofs.Tables.{lines_more}
use Rattle.large_command.specs.GraphReports.{graph_header, graph_row}
use Rattle.large_command.proofs.graph_rows.graph_text.Goals as goal

pub loop-segment-preserved : goal.loop-segment-preserved
loop-segment-preserved c =
    lines_more (graph_row c.args.table.now c.args.graph.now) c.loop-segment.segment
    (line_of (λ name. name) graph_header) _ _ c.loop-segment.invariant c.in_ok-rows-2.ensures
