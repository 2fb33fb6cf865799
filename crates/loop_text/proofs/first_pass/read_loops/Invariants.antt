use Rattle.std.proofs.Common.{◌≡◌, length}
use Rattle.loop_text.specs.FirstPass.{first_pass, after_header}
use Rattle.loop_text.specs.LoopReaderSeen.{loop_state_of}
use Rattle.program_text.specs.ScannerSeen.{tokens_left, end_line}
use Rattle.loop_text.proofs.first_pass.read_loops.Given as goal

abbrev pub invariant-tokens : goal.invariant-tokens
invariant-tokens l =
    first_pass (tokens_left l.scanner) (end_line l.scanner) (loop_state_of l.reader l.next)
    ≡ first_pass (tokens_left l.after_header) (end_line l.after_header) after_header

abbrev pub decreases-tokens : goal.decreases-tokens
decreases-tokens l = length l.scanner.rest.now
