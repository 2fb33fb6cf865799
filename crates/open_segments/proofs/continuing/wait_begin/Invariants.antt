use Rattle.open_segments.proofs.Since.{Unwaited}
use Rattle.open_segments.proofs.continuing.wait_begin.Given as goal

abbrev pub invariant-loop-earlier : goal.invariant-loop-earlier
invariant-loop-earlier g l = Unwaited l.table l.from l.before

abbrev pub decreases-loop-earlier : goal.decreases-loop-earlier
decreases-loop-earlier g l = l.from
