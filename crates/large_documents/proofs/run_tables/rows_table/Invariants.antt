use Rattle.std.proofs.Common.{◌≡◌}
use Rattle.large_documents.specs.Accounts.{rows_header, rows_row}
use Rattle.csv_table.specs.Tables.{numbered_table}
use Rattle.large_documents.proofs.run_tables.rows_table.Given as goal

-- the rows so far
abbrev pub invariant-loop-segment : goal.invariant-loop-segment
invariant-loop-segment l = l.rows ≡ numbered_table rows_header (rows_row l.first l.readies l.times) 0 l.segment
