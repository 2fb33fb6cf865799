use Rattle.std.proofs.Common.{arith, rules}
use Rattle.time_text.proofs.WholeTexts.{full_before}
use Rattle.time_text.proofs.reader.each_segment.Goals as goal

pub returns-in-None-clause-first : goal.returns-in-None-clause-first
returns-in-None-clause-first c = record {
  inside = omega (arith, c.loop-segment-test.true);
  empty = search rules;
  full = λ r less e. full_before c.args.rows.now c.loop-segment.segments.items
      c.loop-segment.segment r c.loop-segment.invariant less
      (omega (arith, c.loop-segment-test.true)) e;
}
