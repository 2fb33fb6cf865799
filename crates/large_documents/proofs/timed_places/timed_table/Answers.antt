use Rattle.std.proofs.Common.{arith}
use Rattle.csv_table.proofs.Tables.{table_more}
use Rattle.large_documents.specs.TimedPlaces.{timed_header, timed_line}
use Rattle.large_documents.proofs.timed_places.timed_table.Goals as goal

pub loop-place-preserved : goal.loop-place-preserved
loop-place-preserved c =
    let place = c.loop-place.place in
    table_more timed_header
    (timed_line c.args.sums.now c.args.busy.now c.args.delayed.now c.args.starved.now) 0 place place
    _ _ _ c.loop-place.invariant c.in_ok-rows-2.ensures c.timed_line.ensures (omega arith)
