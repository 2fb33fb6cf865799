use Rattle.std.proofs.Common.{length, ◌≡◌}
use Rattle.large_text.specs.Tallied.{keeps_rows, keeps_text}
use Rattle.large_text.proofs.Measuring.{GoesThrough}
use Rattle.large_text.proofs.measure.take_tokens.Given as goal

abbrev pub invariant-tokens : goal.invariant-tokens
invariant-tokens l =
    GoesThrough l.text l.lines l.scanner l.fn.reader l.reader l.fn.meter l.meter
    × (keeps_rows l.meter ≡ keeps_rows l.fn.meter)
    × (keeps_text l.meter ≡ keeps_text l.fn.meter)

abbrev pub decreases-tokens : goal.decreases-tokens
decreases-tokens l = length l.scanner.rest.now
