-- Carried out: counts of unfinished predecessors, and created siblings.
use Rattle.std.specs.Prelude.{ℕ, ◌+◌, ◌<◌, ◌≡◌, ◌⊎◌, List, Option, Some, length}
use Rattle.std.specs.Prelude.{slice_get, count_by, is_none}
use Rattle.task_segments.specs.Table.{Table, task}
use Rattle.task_segments.specs.Precedence.{Continues, Creation, IsSegment, MustPrecede}
use Rattle.task_segments.specs.Schedule.{IsJoined}
use Rattle.depend_table.specs.Siblings.{Sibling}
use Rattle.depend_table.specs.KeptEdges.{IsKeptEdge, children_below}
use Rattle.open_segments.specs.Entry.{entry}

-- how many of these segments have no value yet
abbrev pub unfinished_count : List (Option ℕ) → List ℕ → ℕ
unfinished_count values list = count_by (λ p. is_none (entry values p)) list

-- what must precede what goes up, and reaches each segment but the first
pub record GoesUp (table : Table) : Type 0 where
  pub ascending : (s t : ℕ) → MustPrecede table s t → s < t
  pub within : (s t : ℕ) → MustPrecede table s t → IsSegment table t
  pub reached : (t : ℕ)
      → 0 < t
      → IsSegment table t
      → (s : ℕ) × (Continues table s t ⊎ Creation table s t)

-- the kept edges are pairs of the whole relation, with the same chains
pub record KeepsChains (table : Table) : Type 0 where
  pub within : (s t : ℕ) → IsKeptEdge table s t → MustPrecede table s t
  pub joined : (s t : ℕ) → MustPrecede table s t → IsJoined (IsKeptEdge table) s t

-- the segment has a value: it is finished
pub record HasValue (values : List (Option ℕ)) (s : ℕ) : Type 0 where
  pub value : ℕ
  pub is : entry values s ≡ Some value

-- for each segment the number of its recorded predecessors that are not finished
pub record AreCounts (values : List (Option ℕ)) (preds : List (List ℕ)) (counts : List ℕ) : Type
    0 where
  pub each : length counts ≡ length preds
  pub counted : (t : ℕ) (list : List ℕ)
      → slice_get preds t ≡ Some list
      → slice_get counts t ≡ Some (unfinished_count values list)

-- of the children of a task, those with a number below this one are created: their creators are
-- finished
pub record AreCreated (table : Table) (values : List (Option ℕ)) (parent below : ℕ) : Type 0 where
  pub begun : (child s : ℕ)
      → (task table child).parent ≡ Some parent
      → (task table child).creator ≡ Some s
      → child < below
      → HasValue values s
  pub finished : (child s : ℕ)
      → (task table child).parent ≡ Some parent
      → (task table child).creator ≡ Some s
      → HasValue values s
      → child < below

pub record AreSiblingsOf (table : Table) (values : List (Option ℕ)) (parent : ℕ)
    (list : List Sibling)
    : Type 0 where
  pub below : ℕ
  pub are : list ≡ children_below table parent below
  pub created : AreCreated table values parent below

-- for each task the children that it has created, with their items, the newest first
pub record AreSiblings (table : Table) (values : List (Option ℕ)) (siblings : List (List Sibling))
    : Type 0 where
  pub each : length siblings ≡ length table.tasks
  pub lists : (parent : ℕ) (list : List Sibling)
      → slice_get siblings parent ≡ Some list
      → AreSiblingsOf table values parent list

-- the segment's count is above 0
pub record IsCounted (counts : List ℕ) (t : ℕ) : Type 0 where
  pub fewer : ℕ
  pub is : slice_get counts t ≡ Some (fewer + 1)

-- the counts of these segments are one less, and the others are as they were
pub record AreLowered (before : List ℕ) (these : ℕ → Type 0) (after : List ℕ) : Type 0 where
  pub each : length after ≡ length before
  pub lowered : (t n : ℕ) → these t → slice_get before t ≡ Some (n + 1) → slice_get after t ≡ Some n
  pub others : (t : ℕ) → ¬ these t → slice_get after t ≡ slice_get before t
