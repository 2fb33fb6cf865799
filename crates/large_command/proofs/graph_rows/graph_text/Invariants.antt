use Rattle.std.proofs.Common.{◌≡◌, ◌++◌, flat_map}
use Rattle.std.specs.List.{range_with_len}
use Rattle.csv_table.specs.Row.{line_of}
use Rattle.large_command.specs.GraphReports.{graph_header, graph_row}
use Rattle.large_command.proofs.graph_rows.graph_text.Given as goal

-- the rows so far
abbrev pub invariant-loop-segment : goal.invariant-loop-segment
invariant-loop-segment l =
    l.rows
    ≡ line_of (λ name. name) graph_header
    ++ flat_map (graph_row l.table l.graph) (range_with_len 0 l.segment)
