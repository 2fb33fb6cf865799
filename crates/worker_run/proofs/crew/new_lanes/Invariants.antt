use Rattle.std.proofs.Common.{◌≡◌, ◌+◌, All, length}
use Rattle.worker_run.proofs.crew.new_lanes.Given as goal

abbrev pub invariant-loop : goal.invariant-loop
invariant-loop l = record {
  count : length l.lanes.items ≡ l.counter;
  room : All (λ lane. lane.capacity ≡ length l.fn.table.segments) l.lanes.items;
  thieves : All (λ lane. length lane.thieves.items + 1 ≡ l.fn.workers) l.lanes.items;
}
