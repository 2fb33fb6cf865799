use Rattle.std.proofs.Common.{sym, ◌∙◌, subst, ap, arith, get_or}
use Rattle.std.proofs.lemmas.Grind.{common_steps}
use Rattle.std.proofs.lemmas.Bool.{eq-eqb}
use Rattle.std.proofs.lemmas.List.Folds.{list_any_at}
use Rattle.std.proofs.Common.{refl, Option, ◌==◌}
use Rattle.program_text.specs.declared.statement.Item.{Item}
use Rattle.program_text.specs.declared.statement.DependKind.{DependKind}
use Rattle.program_text.specs.declared.statement.DependKind.TheVariants.{DependIn}
use Rattle.depend_table.specs.declared.table.Generations.{Generations}
use Rattle.depend_table.specs.Generations.{sharing_at}
use Rattle.depend_table.specs.Entries.{generations_at, HasRoom}
use Rattle.depend_table.proofs.Ascending.{not_repeated, sharing_alone}
use Rattle.depend_table.proofs.table.enter_all.Goals as goal

abbrev no_item : Item
no_item = record { kind = DependIn; name = 0 }

pub enter_at-requires : goal.enter_at-requires
enter_at-requires c =
    let items = c.args.items.now in
    let i = c.loop-item.item-index in
    let item = get_or items i no_item in
    let inside = c.loop-item-test.true in
    let up = c.requires.ascend in
    let fresh = not_repeated 0 i no_item items up inside in
    let mentioned = list_any_at (λ (a : Item). a.name == item.name) items i no_item inside
    (eq-eqb item.name item.name refl) in
    subst (λ (s : Option DependKind). HasRoom s (generations_at c.loop-item.names item.name))
    (sharing_alone i no_item items up inside ∙ sym c.alone.ensures)
    (subst (λ (g : Option Generations). HasRoom (sharing_at item.name items) g)
    (sym (c.loop-item.invariant.untouched item.name fresh)) (c.requires.room item.name mentioned))

pub loop-item-preserved : goal.loop-item-preserved
loop-item-preserved c =
    let items = c.args.items.now in
    let i = c.loop-item.item-index in
    let inside = c.loop-item-test.true in
    let up = c.requires.ascend in
    let fresh = not_repeated 0 i no_item items up inside in
    let shares = sharing_alone i no_item items up inside in
    grind (arith, common_steps, fresh, shares)
