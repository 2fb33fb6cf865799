use Rattle.std.proofs.Common.{subst, sym}
use Rattle.large_text.specs.Measured.{MeasuresText}
use Rattle.large_text.proofs.Tallying.{of_tally}
use Rattle.large_text.proofs.measure.measure_text.Goals as goal

pub returns-then-is_large_two-clause-measured : goal.returns-then-is_large_two-clause-measured
returns-then-is_large_two-clause-measured c =
    subst (MeasuresText c.args.text.now) (sym c.into_meter.ensures)
    (of_tally c.args.text.now c.in_ok-tally.tally c.in_ok-tally.ensures.measured)
