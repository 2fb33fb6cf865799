use Rattle.std.proofs.Common.{◌≡◌, ◌≤◌, false, length}
use Rattle.program_text.specs.Tokens.{tokens_from, line_at_end}
use Rattle.program_text.proofs.scanner.Scanner.skip_gap.Given as goal

abbrev pub invariant-gap : goal.invariant-gap
invariant-gap l = record {
  same : tokens_from false l.self.line l.self.rest.now
      ≡ tokens_from false l.initial.self.line l.initial.self.rest.now;
  line : line_at_end l.self.line l.self.rest.now
      ≡ line_at_end l.initial.self.line l.initial.self.rest.now;
  shrinks : length l.self.rest.now ≤ length l.initial.self.rest.now;
}

abbrev pub decreases-gap : goal.decreases-gap
decreases-gap l = length l.self.rest.now
