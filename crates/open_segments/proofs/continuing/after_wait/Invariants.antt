use Rattle.std.proofs.Common.{◌-◌}
use Rattle.open_segments.proofs.Joining.{IsWalked}
use Rattle.open_segments.proofs.continuing.after_wait.Given as goal

abbrev pub invariant-loop-segment : goal.invariant-loop-segment
invariant-loop-segment g l = IsWalked l.table l.before l.next l.segment l.preds.items

abbrev pub decreases-loop-segment : goal.decreases-loop-segment
decreases-loop-segment g l = l.before - l.segment
