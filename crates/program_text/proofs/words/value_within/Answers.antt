use Rattle.std.proofs.Common.{arith}
use Rattle.program_text.proofs.Numbers.{passes_with}
use Rattle.program_text.proofs.words.value_within.Goals as goal

pub returns-then-value-most : goal.returns-then-value-most
returns-then-value-most c =
    passes_with c.args.digits.now c.loop-digit.digit-index c.loop-digit.value c.args.most
    c.loop-digit-test.true c.loop-digit.invariant.so_far
    (omega (arith, c.if-value-most.true, c.from.ensures))
