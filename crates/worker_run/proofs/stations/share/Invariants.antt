use Rattle.std.proofs.Common.{ℕ, ◌≡◌, ◌<◌, ◌++◌, length, map, All, get_or}
use Rattle.std.specs.List.{HoldsAt}
use Rattle.std.specs.Vec.Iter.{into_iter_items}
use Rattle.depend_table.specs.Lists.{Lists}
use Rattle.worker_run.specs.Sharing.{IsOtherLane}
use Rattle.worker_run.proofs.Sharing.{IsEnough}
use Rattle.worker_run.proofs.stations.share.Given as goal

abbrev pub invariant-loop-station : goal.invariant-loop-station
invariant-loop-station g l = record {
  lanes : length l.thieves ≡ length l.fn.stations.items;
  numbers : (lane : ℕ)
      → lane < length l.thieves
      → HoldsAt (λ its. All (λ t. t.number ≡ lane) its.items) l.thieves lane;
  enough : (lane : ℕ)
      → lane < length l.fn.stations.items
      → IsEnough (length l.fn.stations.items) (length l.yielded) lane
      (get_or (map (λ its. length its.items) l.thieves) lane 0);
  count : length l.all.items ≡ length l.yielded;
  places : (place : ℕ)
      → place < length l.all.items
      → HoldsAt (λ s. s.number ≡ place) l.all.items place;
  others : All (λ s. Lists (IsOtherLane (length l.fn.stations.items) s.number) (map (λ t. t.number) s.others.items))
      l.all.items;
  rest : l.yielded ++ into_iter_items l.station-iterator ≡ l.fn.stations.items;
}
