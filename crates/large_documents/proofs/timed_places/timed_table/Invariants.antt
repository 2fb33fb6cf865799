use Rattle.std.proofs.Common.{◌≡◌}
use Rattle.csv_table.specs.Tables.{numbered_table}
use Rattle.large_documents.specs.TimedPlaces.{timed_header, timed_line}
use Rattle.large_documents.proofs.timed_places.timed_table.Given as goal

-- the rows so far
abbrev pub invariant-loop-place : goal.invariant-loop-place
invariant-loop-place l =
    l.rows ≡ numbered_table timed_header (timed_line l.sums l.busy l.delayed l.starved) 0 l.place
