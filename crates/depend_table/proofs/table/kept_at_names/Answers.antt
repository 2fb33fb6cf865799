use Rattle.std.proofs.Common.{ℕ, ◌≡◌, ◌<◌, List, Bor, length, map, All, sym, ◌∙◌, ap, subst}
use Rattle.std.specs.List.{flat_map}
use Rattle.std.specs.List.Sorted.{IsStrictlyIncreasing}
use Rattle.std.proofs.lemmas.Result.{IfOk-weaker}
use Rattle.program_text.specs.declared.statement.Item.{Item}
use Rattle.depend_table.specs.declared.table.Call.{Call}
use Rattle.depend_table.specs.Lists.{Lists}
use Rattle.depend_table.specs.Siblings.{IsKept}
use Rattle.depend_table.specs.Generations.{sharing_at}
use Rattle.depend_table.specs.Entries.{Names, IsTableOf, newest_first, tasks_of, predecessors_for}
use Rattle.depend_table.specs.MarkedPlaces.{IsNumberAmong}
use Rattle.depend_table.proofs.Gathered.{gathered_each, gathered_together}
use Rattle.depend_table.proofs.Places.{kept_among, predecessors_in_order, predecessors_below}
use Rattle.depend_table.proofs.table.kept_at_names.Goals as goal

abbrev now_of : Bor (List ℕ) → List ℕ
now_of places = places.now

abbrev AreOf : Names → List Item → List (Bor (List ℕ)) → Type 0
AreOf names items lists = map now_of lists ≡ map (predecessors_for names items) items

ascending : (names : Names) (calls : List Call) (items : List Item) (lists now : List (Bor (List ℕ)))
    → IsTableOf names calls → AreOf names items lists → now ≡ lists
    → All (λ places. IsStrictlyIncreasing places.now) now
ascending names calls items lists now table are same =
    subst (λ (xs : List (Bor (List ℕ))). All (λ places. IsStrictlyIncreasing places.now) xs)
    (sym same)
    (gathered_each IsStrictlyIncreasing lists (predecessors_for names items) items are
    (λ item. predecessors_in_order names calls item.name (sharing_at item.name items) table))

below : (names : Names) (calls : List Call) (items : List Item) (lists now : List (Bor (List ℕ)))
    → IsTableOf names calls → AreOf names items lists → now ≡ lists
    → All (λ places. All (λ place. place < length calls) places.now) now
below names calls items lists now table are same =
    subst
    (λ (xs : List (Bor (List ℕ))). All (λ places. All (λ place. place < length calls) places.now) xs)
    (sym same)
    (gathered_each (λ (places : List ℕ). All (λ place. place < length calls) places) lists
    (predecessors_for names items) items are
    (λ item. predecessors_below names calls item.name (sharing_at item.name items) table))

kept : (names : Names) (calls : List Call) (items : List Item) (lists now : List (Bor (List ℕ)))
    (tasks : List ℕ)
    → IsTableOf names calls → AreOf names items lists → now ≡ lists
    → Lists (IsNumberAmong (flat_map now_of now) (tasks_of calls)) tasks
    → Lists (IsKept (newest_first calls) items) tasks
kept names calls items lists now tasks table are same among =
    kept_among names calls items tasks table
    (subst (λ (xs : List ℕ). Lists (IsNumberAmong xs (tasks_of calls)) tasks)
    (ap (flat_map now_of) same
    ∙ gathered_together lists (predecessors_for names items) items are)
    among)

pub is_sparse-requires-clause-ascending : goal.is_sparse-requires-clause-ascending
is_sparse-requires-clause-ascending c =
    ascending c.args.names.now c.args.calls.now c.args.items.now c.in_ok-lists.lists.items
    c.deref.result.now c.requires.table c.in_ok-lists.ensures c.deref.ensures.value

pub is_sparse-requires-clause-below : goal.is_sparse-requires-clause-below
is_sparse-requires-clause-below c =
    below c.args.names.now c.args.calls.now c.args.items.now c.in_ok-lists.lists.items
    c.deref.result.now c.requires.table c.in_ok-lists.ensures c.deref.ensures.value

pub kept_by_order-requires-clause-below : goal.kept_by_order-requires-clause-below
kept_by_order-requires-clause-below c =
    below c.args.names.now c.args.calls.now c.args.items.now c.in_ok-lists.lists.items
    c.deref-then-is_sparse.result.now c.requires.table c.in_ok-lists.ensures
    c.deref-then-is_sparse.ensures.value

pub returns-then-is_sparse : goal.returns-then-is_sparse
returns-then-is_sparse c =
    let names = c.args.names.now in
    let calls = c.args.calls.now in
    let items = c.args.items.now in
    let now = c.deref-then-is_sparse.result.now in
    IfOk-weaker c.kept_by_order.result
    (λ tasks. Lists (IsNumberAmong (flat_map now_of now) (tasks_of calls)) tasks.items)
    (λ tasks. Lists (IsKept (newest_first calls) items) tasks.items)
    (λ tasks. kept names calls items c.in_ok-lists.lists.items now tasks.items c.requires.table
    c.in_ok-lists.ensures c.deref-then-is_sparse.ensures.value)
    c.kept_by_order.ensures

pub kept_by_marks-requires-clause-ascending : goal.kept_by_marks-requires-clause-ascending
kept_by_marks-requires-clause-ascending c =
    ascending c.args.names.now c.args.calls.now c.args.items.now c.in_ok-lists.lists.items
    c.deref-else-is_sparse.result.now c.requires.table c.in_ok-lists.ensures
    c.deref-else-is_sparse.ensures.value

pub kept_by_marks-requires-clause-below : goal.kept_by_marks-requires-clause-below
kept_by_marks-requires-clause-below c =
    below c.args.names.now c.args.calls.now c.args.items.now c.in_ok-lists.lists.items
    c.deref-else-is_sparse.result.now c.requires.table c.in_ok-lists.ensures
    c.deref-else-is_sparse.ensures.value

pub returns : goal.returns
returns c =
    let names = c.args.names.now in
    let calls = c.args.calls.now in
    let items = c.args.items.now in
    let now = c.deref-else-is_sparse.result.now in
    IfOk-weaker c.kept_by_marks.result
    (λ tasks. Lists (IsNumberAmong (flat_map now_of now) (tasks_of calls)) tasks.items)
    (λ tasks. Lists (IsKept (newest_first calls) items) tasks.items)
    (λ tasks. kept names calls items c.in_ok-lists.lists.items now tasks.items c.requires.table
    c.in_ok-lists.ensures c.deref-else-is_sparse.ensures.value)
    c.kept_by_marks.ensures
