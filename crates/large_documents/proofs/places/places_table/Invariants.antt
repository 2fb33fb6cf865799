use Rattle.std.proofs.Common.{◌≡◌}
use Rattle.csv_table.specs.Tables.{numbered_table}
use Rattle.large_documents.specs.Places.{place_row, places_header}
use Rattle.large_documents.proofs.places.places_table.Given as goal

-- the rows so far
abbrev pub invariant-loop-place : goal.invariant-loop-place
invariant-loop-place l = l.rows ≡ numbered_table places_header (place_row l.sums) 0 l.place
