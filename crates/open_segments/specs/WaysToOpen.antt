-- Carried out: which kept edges lead to a segment, by how it opens.
use Rattle.std.specs.Prelude.{ℕ, ◌≡◌, ◌⊎◌, Some, List}
use Rattle.task_segments.specs.Table.{Table, task}
use Rattle.task_segments.specs.Precedence.{IsTask}
use Rattle.depend_table.specs.Siblings.{IsKept}
use Rattle.depend_table.specs.KeptEdges.{children_below, KeptWait, KeptGroupEnd}
use Rattle.depend_table.specs.Lists.{Lists}

-- the kept earlier siblings of a child of a task
pub record AreKeptSiblings (table : Table) (child : ℕ) (kept : List ℕ) : Type 0 where
  pub is_task : IsTask table child
  pub parent : ℕ
  pub is_parent : (task table child).parent ≡ Some parent
  pub lists : Lists (IsKept (children_below table parent child) (task table child).items) kept

abbrev pub last_segment : Table → ℕ → ℕ
last_segment table u = (task table u).last

-- t opens after a wait or the end of a group, and s is one of the segments that it is recorded
-- after for that
abbrev pub Joins : Table → ℕ → ℕ → Type 0
Joins table s t = KeptWait table s t ⊎ KeptGroupEnd table s t
