use Rattle.std.proofs.Common.{◌≡◌}
use Rattle.large_documents.specs.Accounts.{path_header, path_row}
use Rattle.csv_table.specs.Tables.{numbered_table}
use Rattle.large_documents.proofs.run_tables.path_table.Given as goal

-- the rows so far
abbrev pub invariant-loop-place : goal.invariant-loop-place
invariant-loop-place l = l.rows ≡ numbered_table path_header (path_row l.times l.path) 0 l.place
