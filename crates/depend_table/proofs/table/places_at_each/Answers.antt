use Rattle.std.proofs.Common.{arith}
use Rattle.std.proofs.lemmas.Grind.{common_steps}
use Rattle.program_text.specs.declared.statement.Item.{Item}
use Rattle.program_text.specs.declared.statement.DependKind.TheVariants.{DependIn}
use Rattle.depend_table.proofs.Ascending.{sharing_alone}
use Rattle.depend_table.proofs.table.places_at_each.Goals as goal

abbrev no_item : Item
no_item = record { kind = DependIn; name = 0 }

pub loop-item-preserved : goal.loop-item-preserved
loop-item-preserved c =
    let shares = sharing_alone c.loop-item.item-index no_item c.args.items.now c.requires
    c.loop-item-test.true in
    grind (arith, common_steps, shares)
