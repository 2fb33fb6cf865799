use Rattle.std.proofs.Common.{length, ◌≡◌}
use Rattle.program_text.specs.Document.{lines_of}
use Rattle.time_text.specs.Reading.{IsSoFar}
use Rattle.time_text.proofs.reader.read_lines.Given as goal

-- the lines so far are read
abbrev pub invariant-loop-line : goal.invariant-loop-line
invariant-loop-line l = record {
  count : l.number ≡ length l.yielded;
  so_far : IsSoFar (length l.fn.rows) (lines_of l.text) l.number l.region l.rows;
}
