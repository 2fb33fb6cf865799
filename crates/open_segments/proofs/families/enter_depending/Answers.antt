use Rattle.std.proofs.Common.{ℕ, ◌≡◌, ◌<◌, ◌∷◌, All, List, Some, length, sym, ap, ◌∙◌, subst}
use Rattle.std.specs.Prelude.{OnOk, Result, Ok, Err, ◌==◌, true}
use Rattle.std.proofs.lemmas.Option.{none-some, same_Some}
use Rattle.program_text.specs.declared.statement.Item.{Item}
use Rattle.task_segments.specs.Table.{Table, task}
use Rattle.depend_table.specs.KeptEdges.{children_below}
use Rattle.depend_table.specs.Siblings.{Sibling}
use Rattle.open_segments.specs.Families.{family_at, depending, has_items}
use Rattle.open_segments.proofs.Children.{children_small}
use Rattle.open_segments.proofs.Depending.{depending_all, not_empty, one_depending}
use Rattle.open_segments.proofs.families.enter_depending.Goals as goal

on_ok_still : {A B : Type 0} (r : Result A B) {P Q : Type 0} → (P → Q) → OnOk r P → OnOk r Q
on_ok_still (Ok x) still holds = still holds
on_ok_still (Err e) still holds = holds

pub enter_in_family-requires : goal.enter_in_family-requires
enter_in_family-requires g c =
    let table : Table = c.args.table.now in
    let child : ℕ = c.args.child in
    let parent : ℕ = c.in-Some.parent in
    let is_parent : (task table child).parent ≡ Some parent = sym c.parent.ensures ∙ c.in-Some.is in
    subst (λ (l : List Sibling). All (λ (s : Sibling). s.task < child) l)
    (sym (c.requires.so_far parent is_parent))
    (depending_all (λ (s : Sibling). s.task < child) (children_below table parent child)
    (children_small table parent child))

pub unreachable-requires : goal.unreachable-requires
unreachable-requires g c =
    let made = c.reads_in_place.ensures.below_root c.args.child c.requires.later c.requires.known in
    none-some made.parent (sym (sym c.parent.ensures ∙ c.in-None.is) ∙ made.is_parent)

pub returns-clause-entered : goal.returns-clause-entered
returns-clause-entered g c =
    let table : Table = c.args.table.now in
    let child : ℕ = c.args.child in
    let parent : ℕ = c.in-Some.parent in
    let read : List Item = c.items-items.result.now in
    let items : List Item = (task table child).items in
    let is_parent : (task table child).parent ≡ Some parent = sym c.parent.ensures ∙ c.in-Some.is in
    let some : has_items items ≡ true =
    not_empty items (ap (λ (l : List Item). length l == 0) (sym c.items-items.ensures)
    ∙ sym c.is_empty.ensures ∙ c.if-is_empty.false) in
    on_ok_still c.enter_in_family.result
    (λ entered other of_other.
    let same : parent ≡ other = same_Some parent other (sym is_parent ∙ of_other) in
    subst
    (λ (p : ℕ). family_at c.enter_in_family.new.families p
    ≡ depending (record { task = child; items = items } ∷ children_below table p child)) same
    (entered
    ∙ ap (λ (l : List Item). record { task = child; items = l }
    ∷ family_at c.args.families.now parent) c.items-items.ensures
    ∙ ap (λ (l : List Sibling). record { task = child; items = items } ∷ l)
    (c.requires.so_far parent is_parent)
    ∙ sym (one_depending (record { task = child; items = items })
    (children_below table parent child) some)))
    c.enter_in_family.ensures.entered
