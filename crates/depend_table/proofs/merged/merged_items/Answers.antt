use Rattle.std.proofs.Common.{◌≡◌, List, ap, ◌∙◌, sym, subst, rules}
use Rattle.std.proofs.lemmas.List.Sorted.{IsNonDecreasingBy-from_sort_by_key}
use Rattle.std.proofs.lemmas.Result.{IfOk-weaker}
use Rattle.std.specs.List.Sorted.{IsNonDecreasingBy, IsPermutation}
use Rattle.program_text.specs.declared.statement.Item.{Item}
use Rattle.depend_table.specs.Merged.{AreMerged}
use Rattle.depend_table.proofs.Merging.{merged_moved}
use Rattle.depend_table.proofs.merged.merged_items.Goals as goal

pub merged_in_order-requires : goal.merged_in_order-requires
merged_in_order-requires c =
    subst (IsNonDecreasingBy (λ (item : Item). item.name)) (sym c.deref.ensures.value)
    (IsNonDecreasingBy-from_sort_by_key (λ (item : Item). item.name) _
    c.sort_unstable_by_key.ensures.sorted (λ a r q k. search rules))

pub returns : goal.returns
returns c =
    let items = c.args.items.now in
    let sorted = c.deref.result.now in
    let moved = subst (IsPermutation items) (sym c.deref.ensures.value)
    (subst (λ (xs : List Item). IsPermutation xs c.sort_unstable_by_key.new.self.items)
    c.in_ok-sorted.ensures.items c.sort_unstable_by_key.ensures.permutation) in
    IfOk-weaker c.merged_in_order.result (λ merged. AreMerged sorted merged.items)
    (λ merged. AreMerged items merged.items)
    (λ merged are. merged_moved items sorted merged.items moved are) c.merged_in_order.ensures
