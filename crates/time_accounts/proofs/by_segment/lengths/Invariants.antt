use Rattle.std.proofs.Common.{◌≡◌, take}
use Rattle.time_accounts.specs.TimedRun.{differences}
use Rattle.time_accounts.proofs.by_segment.lengths.Given as goal

-- those of the segments so far
abbrev pub invariant-loop-segment : goal.invariant-loop-segment
invariant-loop-segment l = l.lengths.items ≡ take l.segment (differences l.ends l.begins)
