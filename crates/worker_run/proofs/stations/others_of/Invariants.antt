use Rattle.std.proofs.Common.{ℕ, ◌≡◌, ◌<◌, length, map, All, get_or}
use Rattle.std.specs.List.{HoldsAt}
use Rattle.depend_table.specs.Lists.{Lists}
use Rattle.worker_run.specs.Sharing.{IsOtherLane, GaveOne}
use Rattle.worker_run.proofs.stations.others_of.Given as goal

abbrev pub invariant-loop-lane : goal.invariant-loop-lane
invariant-loop-lane g l = record {
  numbers : (lane : ℕ)
      → lane < length l.thieves
      → HoldsAt (λ its. All (λ t. t.number ≡ lane) its.items) l.thieves lane;
  gave : (lane : ℕ)
      → GaveOne l.lane l.number lane (get_or (map (λ its. length its.items) l.initial.thieves) lane 0)
      (get_or (map (λ its. length its.items) l.thieves) lane 0);
  listed : Lists (IsOtherLane l.lane l.number) (map (λ t. t.number) l.others.items);
}
