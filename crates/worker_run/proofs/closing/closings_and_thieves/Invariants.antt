use Rattle.std.proofs.Common.{◌≡◌, ◌++◌, [], map}
use Rattle.std.specs.List.{flat_map}
use Rattle.std.specs.Vec.Iter.{into_iter_items}
use Rattle.worker_run.specs.Closed.{lane_with}
use Rattle.worker_run.proofs.closing.closings_and_thieves.Given as goal

abbrev pub invariant-loop-station : goal.invariant-loop-station
invariant-loop-station g l = record {
  lanes : map (λ c. lane_with c.number c.owner c.back.items) l.closings.items
      ≡ map (λ s. lane_with s.number s.own []) l.yielded;
  thieves : l.all.items ≡ flat_map (λ s. s.others.items) l.yielded;
  rest : l.yielded ++ into_iter_items l.station-iterator ≡ l.fn.stations.items;
}
