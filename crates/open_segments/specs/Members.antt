-- Carried out: for each segment after the end of a group the last segments of the tasks whose
-- innermost group it is.
use Rattle.std.specs.Prelude.{ℕ, ◌<◌, ◌≡◌, List, [], length, slice_index_or}
use Rattle.task_segments.specs.InPlace.{EndsBefore}
use Rattle.task_segments.specs.Table.{Table}
use Rattle.depend_table.specs.KeptEdges.{KeptGroupEnd}
use Rattle.depend_table.specs.Lists.{Lists}
use Rattle.open_segments.specs.declared.waiting_groups.Members.{Members}
use Rattle.open_segments.specs.NumberLists.{lists_of}

-- those below n
pub record AreMembersBelow (table : Table) (n : ℕ) (groups : List ℕ) (lists : List (List ℕ))
    : Type 0 where
  pub after_groups : Lists (EndsBefore table) groups
  pub each : length lists ≡ length groups
  pub kept : (k : ℕ)
      → k < length groups
      → Lists (λ s. (s < n) × KeptGroupEnd table s (slice_index_or groups k 0))
      (slice_index_or lists k [])

abbrev pub AreMembers : Table → Members → Type 0
AreMembers table members =
    AreMembersBelow table (length table.segments) members.groups.items
    (lists_of members.lists.items)
