use Rattle.std.proofs.Common.{◌≡◌, ◌++◌, map}
use Rattle.std.specs.Vec.Iter.{into_iter_items}
use Rattle.worker_run.specs.Closed.{AreGiven, lane_with}
use Rattle.worker_run.proofs.closing.close_all.Given as goal

abbrev pub invariant-loop-thief : goal.invariant-loop-thief
invariant-loop-thief g l = record {
  given : AreGiven (map (λ c. lane_with c.number c.owner c.back.items) l.initial.closings.items)
      (map (λ t. (t.number, t.end)) l.yielded)
      (map (λ c. lane_with c.number c.owner c.back.items) l.closings.items);
  rest : l.yielded ++ into_iter_items l.thief-iterator ≡ into_iter_items l.initial.thief-iterator;
}
