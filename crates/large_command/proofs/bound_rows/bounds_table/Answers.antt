use Rattle.std.proofs.Common.{◌+◌, arith}
use Rattle.csv_table.proofs.Tables.{table_more}
use Rattle.large_command.specs.LargeReports.{bounds_header, bounds_row}
use Rattle.large_command.proofs.bound_rows.bounds_table.Goals as goal

pub loop-place-preserved : goal.loop-place-preserved
loop-place-preserved c =
    table_more bounds_header (bounds_row c.args.work c.args.span) 1 c.loop-place.place
    (c.loop-place.place + 1) _ _ _ c.loop-place.invariant c.in_ok-rows-2.ensures
    c.bounds_row.ensures (omega arith)
