use Rattle.std.proofs.Common.{◌≡◌, ◌++◌, map}
use Rattle.std.specs.Vec.Iter.{into_iter_items}
use Rattle.worker_run.specs.Closed.{AreToldOf, lane_with}
use Rattle.worker_run.proofs.closing.left_in.Given as goal

abbrev pub invariant-loop-closing : goal.invariant-loop-closing
invariant-loop-closing g l = record {
  told : AreToldOf (map (λ c. lane_with c.number c.owner c.back.items) l.yielded) l.left.items;
  rest : l.yielded ++ into_iter_items l.closing-iterator ≡ l.fn.closings.items;
}
