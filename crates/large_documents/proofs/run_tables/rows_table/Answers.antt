use Rattle.std.proofs.Common.{arith}
use Rattle.large_documents.specs.Accounts.{rows_header, rows_row}
use Rattle.csv_table.proofs.Tables.{table_more}
use Rattle.large_documents.proofs.run_tables.rows_table.Goals as goal

pub loop-segment-preserved : goal.loop-segment-preserved
loop-segment-preserved c =
    let segment = c.loop-segment.segment in
    table_more rows_header (rows_row c.args.first c.args.readies.now c.args.times.now) 0 segment
    segment _ _ _ c.loop-segment.invariant c.in_ok-rows-2.ensures c.rows_row.ensures (omega arith)
