use Rattle.std.proofs.Common.{take}
use Rattle.std.specs.Prelude.{Contains}
use Rattle.open_segments.specs.Counters.{AreLowered}
use Rattle.dispatch_core.proofs.waiting.lower.Given as goal

abbrev pub invariant-loop-segment : goal.invariant-loop-segment
invariant-loop-segment l =
    AreLowered l.initial.counts.items (Contains (take l.segment-index l.segments)) l.counts.items
