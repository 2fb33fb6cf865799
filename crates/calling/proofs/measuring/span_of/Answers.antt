use Rattle.large_text.proofs.ReadingTexts.{nested_of}
use Rattle.calling.proofs.measuring.span_of.Goals as goal

pub returns-clause-span : goal.returns-clause-span
returns-clause-span c =
    let m = c.in_ok-meter.ensures.measured in (
      m.program,
      m.stands,
      c.span.ensures.whole m.program.marks (nested_of c.args.text.now m.program m.stands) m.measures,
    )
