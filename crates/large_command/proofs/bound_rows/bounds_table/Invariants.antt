use Rattle.std.proofs.Common.{◌≡◌}
use Rattle.csv_table.specs.Tables.{numbered_table}
use Rattle.large_command.specs.LargeReports.{bounds_header, bounds_row}
use Rattle.large_command.proofs.bound_rows.bounds_table.Given as goal

-- the rows of the numbers of threads so far
abbrev pub invariant-loop-place : goal.invariant-loop-place
invariant-loop-place l =
    l.rows ≡ numbered_table bounds_header (bounds_row l.work l.span) 1 l.place
