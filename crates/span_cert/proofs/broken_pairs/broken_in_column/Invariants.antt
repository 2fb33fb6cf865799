use Rattle.std.proofs.Common.{◌-◌, length}
use Rattle.span_cert.specs.Claims.{moments_of_starts}
use Rattle.span_cert.specs.BrokenPairs.{InColumn}
use Rattle.span_cert.proofs.Columns.{NoneInColumn}
use Rattle.span_cert.proofs.broken_pairs.broken_in_column.Given as goal

-- t stands in the column, and no segment of the column before it is broken
abbrev pub invariant-loop-t : goal.invariant-loop-t
invariant-loop-t g l =
    InColumn l.column l.t × NoneInColumn l.table (moments_of_starts l.starts) l.column l.t

abbrev pub decreases-loop-t : goal.decreases-loop-t
decreases-loop-t g l = length l.table.segments - l.t
