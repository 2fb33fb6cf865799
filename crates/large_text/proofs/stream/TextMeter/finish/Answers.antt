use Rattle.std.proofs.Common.{subst, sym}
use Rattle.large_text.specs.Measured.{MeasuresText}
use Rattle.large_text.proofs.Tallying.{of_tally}
use Rattle.large_text.proofs.stream.TextMeter.finish.Goals as goal

pub returns-clause-measured : goal.returns-clause-measured
returns-clause-measured c = λ text taken.
    subst (MeasuresText text) (sym c.into_meter.ensures)
    (of_tally text c.in_ok-whole.field-0 (c.in_ok-whole.ensures.measured text taken))
