use Rattle.depend_table.proofs.Merging.{AreMergedTo}
use Rattle.depend_table.proofs.merged.merged_in_order.Given as goal

abbrev pub invariant-loop-item : goal.invariant-loop-item
invariant-loop-item l = AreMergedTo l.item-index l.items l.merged.items l.last
