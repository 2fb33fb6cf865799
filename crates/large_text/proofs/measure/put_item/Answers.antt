use Rattle.std.proofs.Common.{List, Some, subst, ℕ}
use Rattle.std.specs.Prelude.{OnOk}
use Rattle.task_program.specs.declared.place.Place.TheVariants.{DependName}
use Rattle.large_text.specs.Printed.{PrintsItem}
use Rattle.large_text.proofs.measure.put_item.Goals as goal

pub returns-in-DependName : goal.returns-in-DependName
returns-in-DependName c =
    rw c.in-DependName.is
    (subst
    (λ (text : List ℕ). OnOk c.put_item.result (PrintsItem (DependName c.in-DependName.kind) text
    (Some c.args.printer.now) (Some c.put_item.new.self)))
    c.text_of.ensures c.put_item.ensures)
