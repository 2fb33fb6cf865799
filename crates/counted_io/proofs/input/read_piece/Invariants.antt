use Rattle.std.proofs.Common.{◌≡◌, ◌+◌, ◌≤◌, length}
use Rattle.std.specs.Io.KnownBytes.{Keeps}
use Rattle.counted_io.specs.Counted.{inner_of, faults_of, failures_of}
use Rattle.counted_io.proofs.input.read_piece.Given as goal

-- nothing was read so far, and each interruption was paid for
abbrev pub invariant-reads : goal.invariant-reads
invariant-reads g l =
    let left = g.R.Read.remaining in
    record {
      kept : Keeps (left (inner_of l.fn.reader)) (left (inner_of l.reader));
      room : length l.buffer ≡ length l.fn.buffer;
      fewer : l.retries ≤ l.fn.retries;
      paid : faults_of l.reader + l.retries ≡ faults_of l.fn.reader + l.fn.retries;
      interrupted : failures_of l.reader ≡ failures_of l.fn.reader;
    }

abbrev pub decreases-reads : goal.decreases-reads
decreases-reads g l = l.retries
