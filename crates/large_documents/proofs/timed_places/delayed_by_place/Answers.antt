use Rattle.std.proofs.Common.{◌∙◌, ap, length, sym}
use Rattle.std.proofs.lemmas.List.FromFn.{length-map-range_with_len}
use Rattle.time_accounts.specs.BySegment.{delayed_by_segment}
use Rattle.time_accounts.specs.declared.region.Region.{Region}
use Rattle.large_documents.proofs.PlaceTimes.{delayed_fits}
use Rattle.large_documents.proofs.timed_places.delayed_by_place.Goals as goal

pub sum_by_place-requires-clause-each : goal.sum_by_place-requires-clause-each
sum_by_place-requires-clause-each c =
    ap length (c.as_slice.ensures.value ∙ c.in_ok-delayed.ensures)
    ∙ length-map-range_with_len _ 0 (length c.args.times.now.begins)
    ∙ c.requires.legal.each_begin ∙ sym c.requires.each

pub sum_by_place-requires-clause-little : goal.sum_by_place-requires-clause-little
sum_by_place-requires-clause-little c =
    let graph = c.args.graph.now in
    let run = c.args.times.now in
    delayed_fits graph c.args.region.threads c.args.region.first c.args.region.last run
    c.is_graph.ensures c.requires.legal c.requires.within c.as_slice.result.now
    (c.as_slice.ensures.value ∙ c.in_ok-delayed.ensures
    ∙ ap (λ (r : Region). delayed_by_segment graph r.threads r.first r.last run) c.region_of.ensures)
