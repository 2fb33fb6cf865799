use Rattle.std.proofs.Common.{◌≡◌, map, take}
use Rattle.time_text.specs.declared.line.SegmentTimes.{SegmentTimes}
use Rattle.large_documents.proofs.accounts.times_of.Given as goal

-- the times of the segments so far
abbrev pub invariant-loop-times : goal.invariant-loop-times
invariant-loop-times l = record {
  threads : l.threads.items ≡ map (λ (t : SegmentTimes). t.thread) (take l.times-index l.segments);
  begins : l.begins.items ≡ map (λ (t : SegmentTimes). t.begin) (take l.times-index l.segments);
  ends : l.ends.items ≡ map (λ (t : SegmentTimes). t.end) (take l.times-index l.segments);
}
