use Rattle.std.proofs.Common.{◌∙◌, ap, arith, length, sum, sym}
use Rattle.time_accounts.proofs.AllShares.{busy_sum}
use Rattle.time_accounts.proofs.TimedRuns.{each_duration}
use Rattle.large_documents.proofs.PlaceTimes.{share_room}
use Rattle.large_documents.proofs.timed_places.busy_by_place.Goals as goal

pub sum_by_place-requires-clause-each : goal.sum_by_place-requires-clause-each
sum_by_place-requires-clause-each c =
    ap length (c.as_slice.ensures.value ∙ c.in_ok-busy.ensures)
    ∙ each_duration c.requires.legal ∙ sym c.requires.each

pub sum_by_place-requires-clause-little : goal.sum_by_place-requires-clause-little
sum_by_place-requires-clause-little c =
    omega (
      arith,
      ap sum (c.as_slice.ensures.value ∙ c.in_ok-busy.ensures),
      busy_sum c.args.graph.now c.requires.legal,
      share_room c.args.graph.now (length c.args.graph.now.costs) c.args.region.threads
          c.args.region.first c.args.region.last c.args.times.now c.requires.legal
          c.requires.within,
    )
