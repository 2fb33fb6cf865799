use Rattle.std.proofs.Common.{◌≡◌, take, Some}
use Rattle.std.specs.Prelude.{Contains, slice_get}
use Rattle.depend_table.specs.Lists.{Lists}
use Rattle.dispatch_core.proofs.waiting.freed.Given as goal

abbrev pub invariant-loop-segment : goal.invariant-loop-segment
invariant-loop-segment l =
    Lists (λ t. Contains (take l.segment-index l.segments) t × (slice_get l.counts t ≡ Some 1))
    l.ready.items
