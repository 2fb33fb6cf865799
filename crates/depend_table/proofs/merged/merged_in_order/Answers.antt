use Rattle.std.proofs.Common.{◌≡◌, List, Option, None, length, sym, subst}
use Rattle.std.proofs.Common.{arith}
use Rattle.std.proofs.lemmas.List.{take_all}
use Rattle.std.proofs.lemmas.Result.{IfOk-weaker}
use Rattle.program_text.specs.declared.statement.Item.{Item}
use Rattle.program_text.specs.declared.statement.DependKind.TheVariants.{DependIn}
use Rattle.depend_table.specs.Merged.{AreMerged, with_last}
use Rattle.depend_table.proofs.Merging.{AreMergedTo, none_merged, merged_more, merged_all}
use Rattle.depend_table.proofs.merged.merged_in_order.Goals as goal

abbrev no_item : Item
no_item = record { kind = DependIn; name = 0 }

pub loop-item-init : goal.loop-item-init
loop-item-init c =
    subst (λ (xs : List Item). AreMergedTo 0 c.args.items.now xs None)
    (sym c.in_ok-merged.ensures.items) (none_merged c.args.items.now)

pub loop-item-preserved : goal.loop-item-preserved
loop-item-preserved c =
    merged_more c.loop-item.item-index c.args.items.now c.loop-item.merged.items
    c.next_item.new.merged.items c.loop-item.last c.in_ok-next.next no_item c.requires
    c.loop-item-test.true c.loop-item.invariant c.in_ok-next.ensures.whole
    c.in_ok-next.ensures.name

pub returns : goal.returns
returns c =
    let items = c.args.items.now in
    let n = c.loop-item.item-index in
    let merged = c.loop-item.merged.items in
    let last = c.loop-item.last in
    IfOk-weaker c.complete.result (λ whole. whole.items ≡ with_last merged last)
    (λ whole. AreMerged items whole.items)
    (λ whole is. merged_all n items merged whole.items last c.loop-item.invariant
    (take_all n items (omega (arith, c.loop-item-test.false))) is)
    c.complete.ensures
