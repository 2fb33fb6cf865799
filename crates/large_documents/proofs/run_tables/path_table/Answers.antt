use Rattle.std.proofs.Common.{arith}
use Rattle.large_documents.specs.Accounts.{path_header, path_row}
use Rattle.csv_table.proofs.Tables.{table_more}
use Rattle.large_documents.proofs.run_tables.path_table.Goals as goal

pub loop-place-preserved : goal.loop-place-preserved
loop-place-preserved c =
    let place = c.loop-place.place in
    table_more path_header (path_row c.args.times.now c.args.path.now) 0 place place _ _ _
    c.loop-place.invariant c.in_ok-rows-2.ensures c.path_row.ensures (omega arith)
