-- The children of a task.
use Rattle.std.proofs.Common.{ℕ, ◌+◌, ◌<◌, ◌≡◌, zero, suc, Bool, true, false, List, ◌∷◌, ap, arith}
use Rattle.std.specs.Prelude.{All, if◌then◌else◌}
use Rattle.std.proofs.lemmas.List.Elements.{All-nil, All-cons, All-weaker}
use Rattle.task_segments.specs.Table.{Table, Task, task}
use Rattle.depend_table.specs.Siblings.{Sibling}
use Rattle.depend_table.specs.KeptEdges.{children_below, is_some_of}

with_or_without : (b : Bool) (row : Task) (u : ℕ) (older : List Sibling)
    → All (λ (s : Sibling). s.task < u) older
    → All (λ (s : Sibling). s.task < suc u)
    (if b then record { task = u; items = row.items } ∷ older else older)
with_or_without true row u older below =
    All-cons (λ (s : Sibling). s.task < suc u) (record { task = u; items = row.items }) older
    (omega arith) (All-weaker (λ (s : Sibling). s.task < u) (λ (s : Sibling). s.task < suc u)
    (λ s h. omega arith) older below)
with_or_without false row u older below =
    All-weaker (λ (s : Sibling). s.task < u) (λ (s : Sibling). s.task < suc u) (λ s h. omega arith)
    older below

pub children_small : (table : Table) (parent n : ℕ)
    → All (λ (s : Sibling). s.task < n) (children_below table parent n)
children_small table parent zero = All-nil (λ (s : Sibling). s.task < 0)
children_small table parent (suc u) =
    with_or_without (is_some_of (task table u).parent parent) (task table u) u
    (children_below table parent u) (children_small table parent u)

pub children_more : (table : Table) (parent u : ℕ)
    → children_below table parent (u + 1)
    ≡ (if is_some_of (task table u).parent parent
    then record { task = u; items = (task table u).items } ∷ children_below table parent u
    else children_below table parent u)
children_more table parent u =
    ap (children_below table parent) (let same : u + 1 ≡ suc u = omega arith in same)
