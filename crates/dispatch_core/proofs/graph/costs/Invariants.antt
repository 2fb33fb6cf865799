use Rattle.std.proofs.Common.{◌≡◌, take}
use Rattle.task_segments.specs.Table.{costs_of}
use Rattle.dispatch_core.proofs.graph.costs.Given as goal

abbrev pub invariant-loop-segment : goal.invariant-loop-segment
invariant-loop-segment g l = l.list.items ≡ take l.segment (costs_of l.table)
