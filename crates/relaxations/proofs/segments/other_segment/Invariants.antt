use Rattle.relaxations.proofs.FirstOther.{SameBefore}
use Rattle.relaxations.proofs.segments.other_segment.Given as goal

-- the segments so far are the same
abbrev pub invariant-loop-s : goal.invariant-loop-s
invariant-loop-s g l = SameBefore l.old l.new l.s
