use Rattle.std.proofs.Common.{ℕ, ◌≡◌, ◌<◌, List, length, map, get_or, All, sym, ◌∙◌, ap, subst}
use Rattle.std.proofs.Common.{arith}
use Rattle.std.proofs.lemmas.Result.{IfOk-weaker}
use Rattle.program_text.specs.declared.statement.DependKind.TheVariants.{DependIn}
use Rattle.program_text.specs.declared.statement.Item.{Item}
use Rattle.depend_table.specs.Lists.{Lists}
use Rattle.depend_table.specs.Siblings.{IsKept}
use Rattle.depend_table.specs.Entries.{Names, entry_at, newest_first, tasks_of, predecessors_of}
use Rattle.depend_table.specs.Entries.{predecessors_for}
use Rattle.depend_table.specs.Merged.{alone}
use Rattle.depend_table.specs.Generations.{sharing_at}
use Rattle.depend_table.proofs.Ascending.{one_ascends, sharing_alone}
use Rattle.depend_table.proofs.Places.{kept_listed_at_one, predecessors_below}
use Rattle.depend_table.proofs.table.kept_at_one.Goals as goal

abbrev no_item : Item
no_item = record { kind = DependIn; name = 0 }

predecessors : (names : Names) (items : List Item) (places : List ℕ)
    → length items ≡ 1
    → places
    ≡ predecessors_of (entry_at names (get_or items 0 no_item).name)
    (alone (get_or items 0 no_item).kind)
    → places ≡ predecessors_for names items (get_or items 0 no_item)
predecessors names items places one is =
    is
    ∙ ap (predecessors_of (entry_at names (get_or items 0 no_item).name))
    (sym (sharing_alone 0 no_item items (one_ascends items one) (omega (arith, one))))

pub tasks_at-requires : goal.tasks_at-requires
tasks_at-requires c =
    let items = c.args.items.now in
    let item = get_or items 0 no_item in
    subst (λ (xs : List ℕ). All (λ place. place < length c.args.calls.now) xs)
    (sym (predecessors c.args.names.now items c.predecessors_at-places.result.now c.requires.one
    c.predecessors_at-places.ensures))
    (predecessors_below c.args.names.now c.args.calls.now item.name (sharing_at item.name items)
    c.requires.table)

pub returns : goal.returns
returns c =
    let calls = c.args.calls.now in
    let items = c.args.items.now in
    let task_at : ℕ → ℕ = λ n. get_or (tasks_of calls) n 0 in
    IfOk-weaker c.tasks_at.result
    (λ tasks. tasks.items ≡ map task_at c.predecessors_at-places.result.now)
    (λ kept. Lists (IsKept (newest_first calls) items) kept.items)
    (λ tasks is. kept_listed_at_one c.args.names.now calls items no_item tasks.items
    c.requires.table c.requires.one (is ∙ ap (map task_at) (predecessors c.args.names.now items
    c.predecessors_at-places.result.now c.requires.one c.predecessors_at-places.ensures)))
    c.tasks_at.ensures
