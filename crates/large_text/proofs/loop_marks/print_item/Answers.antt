use Rattle.std.specs.Prelude.{OnOk, Some}
use Rattle.std.proofs.Common.{subst, sym}
use Rattle.large_text.specs.Printed.{PrintsNamed}
use Rattle.large_text.proofs.loop_marks.print_item.Goals as goal

pub returns-in-Some-clause-prints : goal.returns-in-Some-clause-prints
returns-in-Some-clause-prints c =
    subst
    (λ before. OnOk c.put_item.result (PrintsNamed c.args.kind c.args.name.now before
    (Some c.put_item.new.self)))
    (sym c.in-Some.is) c.put_item.ensures
