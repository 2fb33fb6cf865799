use Rattle.std.proofs.Common.{arith}
use Rattle.csv_table.proofs.Tables.{table_more}
use Rattle.large_documents.specs.Places.{place_row, places_header}
use Rattle.large_documents.proofs.places.places_table.Goals as goal

pub loop-place-preserved : goal.loop-place-preserved
loop-place-preserved c =
    let place = c.loop-place.place in
    table_more places_header (place_row c.args.sums.now) 0 place place _ _ _ c.loop-place.invariant
    c.in_ok-rows-2.ensures c.place_row.ensures (omega arith)
