use Rattle.std.proofs.Common.{◌≡◌, ℕ, ◌<◌, [], false, length, take, get_or}
use Rattle.program_text.specs.Document.{is_divider, lines_of, text_of_lines}
use Rattle.program_text.proofs.document.split_document.Given as goal

-- no line so far is a divider, and the next line begins after them
abbrev pub invariant-loop-line : goal.invariant-loop-line
invariant-loop-line l = record {
  start : l.start ≡ length (text_of_lines (take (length l.yielded) (lines_of l.document)));
  undivided : (k : ℕ)
      → k < length l.yielded
      → is_divider (get_or (lines_of l.document) k []) ≡ false;
}
