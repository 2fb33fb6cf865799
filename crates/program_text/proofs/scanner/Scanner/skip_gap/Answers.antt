use Rattle.std.proofs.Common.{◌∙◌, sym, rules, arith}
use Rattle.program_text.proofs.Scanning.{blank_goes_on, line_goes_on, space_goes_on}
use Rattle.program_text.proofs.Scanning.{comment_goes_on}
use Rattle.program_text.proofs.scanner.Scanner.skip_gap.Goals as goal

pub gap-preserved : goal.gap-preserved
gap-preserved c =
    let blank = blank_goes_on c.gap.self.line c.gap.self.rest.now c.in-len1-up.len_at_least
    (sym c.is_blank.ensures ∙ c.if-is_blank.true) in
    let line = line_goes_on c.gap.self.line c.gap.self.rest.now c.in-len1-up.len_at_least in
    record {
      same = rw c.line_after-self.ensures (blank ∙ c.gap.invariant.same);
      line = rw c.line_after-self.ensures (line ∙ c.gap.invariant.line);
      shrinks = search rules;
    }

pub gap-preserved-then-byte-eq32 : goal.gap-preserved-then-byte-eq32
gap-preserved-then-byte-eq32 c =
    let on = space_goes_on c.gap.self.line c.gap.self.rest.now c.in-len1-up.len_at_least
    c.if-byte-eq32.true in
    record {
      same = on.0 ∙ c.gap.invariant.same;
      line = on.1 ∙ c.gap.invariant.line;
      shrinks = search rules;
    }

pub gap-preserved-then-byte-eq35 : goal.gap-preserved-then-byte-eq35
gap-preserved-then-byte-eq35 c =
    let on = comment_goes_on c.gap.self.line c.gap.self.rest.now _ c.in-len1-up.len_at_least
    c.if-byte-eq35.true c.comment_length.ensures.comment in
    record {
      same = on.0 ∙ c.gap.invariant.same;
      line = on.1 ∙ c.gap.invariant.line;
      shrinks = omega (arith, on.2, c.gap.invariant.shrinks);
    }

pub returns-clause-same : goal.returns-clause-same
returns-clause-same c = c.gap.invariant.same
