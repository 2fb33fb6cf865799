use Rattle.std.proofs.Common.{ℕ, ◌≡◌, List, Some, refl, sym, ◌∙◌}
use Rattle.std.proofs.lemmas.Option.{none-some}
use Rattle.std.proofs.lemmas.Result.{IfOk-weaker}
use Rattle.task_segments.specs.Table.{Table, task}
use Rattle.program_text.specs.declared.statement.Item.{Item}
use Rattle.depend_table.specs.KeptEdges.{children_below}
use Rattle.depend_table.specs.Lists.{Lists}
use Rattle.depend_table.specs.Siblings.{IsKept}
use Rattle.open_segments.specs.Families.{family_at}
use Rattle.open_segments.specs.WaysToOpen.{AreKeptSiblings}
use Rattle.open_segments.proofs.Depending.{kept_depending}
use Rattle.open_segments.proofs.SiblingSteps.{are_kept}
use Rattle.open_segments.proofs.families.kept_children.Goals as goal

pub returns-clause-kept : goal.returns-clause-kept
returns-clause-kept g c =
    let table : Table = c.args.table.now in
    let child : ℕ = c.args.child in
    let parent : ℕ = c.in-Some.parent in
    let items : List Item = c.items.result.now in
    let is_parent : (task table child).parent ≡ Some parent = sym c.parent.ensures ∙ c.in-Some.is in
    IfOk-weaker c.kept_in_family.result
    (λ kept. Lists (IsKept (family_at c.args.families.now parent) items) kept.items)
    (λ kept. AreKeptSiblings table child kept.items)
    (λ kept lists. are_kept table child parent (children_below table parent child) items kept.items
    c.requires.known is_parent refl c.items.ensures
    (kept_depending (family_at c.args.families.now parent) (children_below table parent child) items
    kept.items (c.requires.so_far parent is_parent) lists))
    c.kept_in_family.ensures.kept

pub unreachable-requires : goal.unreachable-requires
unreachable-requires g c =
    let made = c.reads_in_place.ensures.below_root c.args.child c.requires.later c.requires.known in
    none-some made.parent (sym (sym c.parent.ensures ∙ c.in-None.is) ∙ made.is_parent)
