use Rattle.std.specs.Prelude.{OnOk, Some}
use Rattle.std.proofs.Common.{subst, sym}
use Rattle.large_text.specs.Printed.{PrintsItem}
use Rattle.large_text.proofs.measure.print_item.Goals as goal

pub returns-in-Some-clause-prints : goal.returns-in-Some-clause-prints
returns-in-Some-clause-prints c =
    subst
    (λ before. OnOk c.put_item.result (PrintsItem c.args.place c.args.token.text.now before
    (Some c.put_item.new.printer)))
    (sym c.in-Some.is) c.put_item.ensures
