use Rattle.std.proofs.Common.{◌≡◌, Some, map, take}
use Rattle.time_text.proofs.reader.each_segment.Given as goal

-- the rows so far have these times
abbrev pub invariant-loop-segment : goal.invariant-loop-segment
invariant-loop-segment l = map Some l.segments.items ≡ take l.segment l.rows
