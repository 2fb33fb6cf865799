use Rattle.std.proofs.Common.{◌≡◌, ◌≤◌, ◌^◌, drop}
use Rattle.depend_table.specs.Generations.{ascend_from}
use Rattle.depend_table.proofs.table.names_ascend.Given as goal

abbrev pub invariant-loop-item : goal.invariant-loop-item
invariant-loop-item l = record {
  same : ascend_from l.from (drop l.item-index l.items) ≡ ascend_from 0 l.items;
  fits : l.from ≤ 2 ^ 32;
}
