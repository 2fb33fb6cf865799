-- The ends of segments one by one, and what has ended by a start.
use Rattle.std.proofs.Common.{ℕ, ◌<◌, ◌≤◌, ◌≡◌, List, length, min, arith}
use Rattle.task_segments.specs.Schedule.{at}
use Rattle.task_segments.specs.Table.{Table}
use Rattle.span_cert.specs.BrokenPairs.{AreEnds}
use Rattle.span_cert.specs.Tests.{IsBroken}

-- a segment does not start before the end of one that has ended by then
pub has_ended : (table : Table) (starts ends : List ℕ) (s t start : ℕ)
    → AreEnds table starts ends
    → s < length table.segments
    → start ≡ min (at starts t) 18446744073709551614
    → at ends s ≤ start
    → ¬ IsBroken table starts s t
has_ended table starts ends s t start are inside is late broken =
    let end = are.end s inside in omega (arith, late, end, is, broken.too_soon)
