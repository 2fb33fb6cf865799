use Rattle.std.proofs.Common.{◌≡◌, ◌≤◌, take, sum}
use Rattle.spanprof_c.proofs.graphs.total_of.Given as goal

abbrev pub invariant-loop-cost : goal.invariant-loop-cost
invariant-loop-cost l = record {
  so_far : l.total ≡ sum (take l.cost-index l.costs);
  few : l.total ≤ 1000000000000000;
}
