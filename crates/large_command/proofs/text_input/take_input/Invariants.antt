use Rattle.std.proofs.Common.{◌≡◌, ◌+◌, ◌≤◌}
use Rattle.counted_io.specs.Counted.{failures_of, faults_of, inner_of}
use Rattle.large_text.specs.Streamed.{KeepsText}
use Rattle.large_command.proofs.TextInput.{IsMetered, IsTaken}
use Rattle.large_command.proofs.text_input.take_input.Given as goal

-- what was read so far was taken, and each interruption was paid for
abbrev pub invariant-pieces : goal.invariant-pieces
invariant-pieces g l =
    let remaining = g.R.Read.remaining in
    record {
      taken : IsTaken (remaining (inner_of l.fn.reader)) (remaining (inner_of l.reader)) l.room
          (IsMetered l.text);
      text : KeepsText l.fn.text → KeepsText l.text;
      fewer : l.retries ≤ l.fn.retries;
      paid : faults_of l.reader + l.retries ≡ faults_of l.fn.reader + l.fn.retries;
      tried_again : failures_of l.reader ≡ failures_of l.fn.reader;
    }

abbrev pub decreases-pieces : goal.decreases-pieces
decreases-pieces g l = l.room.left
