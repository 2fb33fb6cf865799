use Rattle.std.proofs.Common.{ℕ, ◌<◌}
use Rattle.task_segments.specs.Precedence.{MustPrecede}
use Rattle.dispatch_core.specs.Run.{HasFinished}
use Rattle.dispatch_core.proofs.dispatch.BoundedCore.first_unfinished.Given as goal

abbrev pub invariant-loop-pred : goal.invariant-loop-pred
invariant-loop-pred g l =
    (pred : ℕ) → pred < l.pred → MustPrecede l.self.table pred l.segment
    → HasFinished l.self.history pred
