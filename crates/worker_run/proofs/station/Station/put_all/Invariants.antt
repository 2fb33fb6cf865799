use Rattle.std.proofs.Common.{◌≡◌, ◌++◌, take}
use Rattle.worker_run.proofs.station.Station.put_all.Given as goal

abbrev pub invariant-loop-token : goal.invariant-loop-token
invariant-loop-token g l = record {
  number : l.self.number ≡ l.fn.self.number;
  capacity : l.self.capacity ≡ l.fn.self.capacity;
  others : l.self.others ≡ l.fn.self.others;
  put : l.self.own.put ≡ l.fn.self.own.put ++ take l.token-index l.tokens;
}
