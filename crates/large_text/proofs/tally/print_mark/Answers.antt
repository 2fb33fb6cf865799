use Rattle.std.specs.Prelude.{OnOk, Some}
use Rattle.std.proofs.Common.{subst, sym}
use Rattle.large_text.specs.LargeReading.{mark_seen}
use Rattle.large_text.specs.Printed.{PrintsMark}
use Rattle.large_text.proofs.tally.print_mark.Goals as goal

pub returns-in-Some-clause-prints : goal.returns-in-Some-clause-prints
returns-in-Some-clause-prints c =
    subst
    (λ before. OnOk c.put_mark.result (PrintsMark before (Some c.put_mark.new.self)
    (mark_seen c.args.mark.now)))
    (sym c.in-Some.is) c.put_mark.ensures
