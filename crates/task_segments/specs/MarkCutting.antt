-- Carried out: what a cutter holds of the marks that it has taken.
use Rattle.std.specs.Prelude.{ℕ, ◌<◌, ◌≤◌, ◌≡◌, List, [], ◌∷◌, length, map, reverse}
use Rattle.task_program.specs.Marks.{Mark}
use Rattle.task_segments.specs.declared.limits.TheConstants.{MOST_ROWS}
use Rattle.task_segments.specs.declared.mark_cutter.GroupRow.{GroupRow}
use Rattle.task_segments.specs.declared.mark_cutter.MarkCutter.{MarkCutter}
use Rattle.task_program.specs.Marks.Mark.{Begins, Ends, Works, Waits, GroupBegins, GroupEnds}
use Rattle.task_segments.specs.Cutting.{Cuts, HasRoom}
use Rattle.task_segments.specs.Moments.{OpenGroup, open_groups, open_tasks, last_moment, least_open_tasks}
use Rattle.task_segments.specs.MarksTable.{IsReading}

-- an open group by its number, and how many children its task had created before it
abbrev pub held_group : OpenGroup → GroupRow
held_group group = record { number = group.number; children_before = group.children_before }

-- the cutter has taken the marks of this moment
pub record Tables (c : MarkCutter) (moment : List Mark) : Type 0 where
  pub cuts : Cuts c.cutter moment
  pub tasks : open_tasks moment ≡ c.running ∷ reverse c.outer.items
  pub groups : map held_group (open_groups moment) ≡ reverse c.groups.items

-- how many groups have to be open for a mark to come
abbrev pub groups_ended : Mark → ℕ
groups_ended (Begins undeferred items) = 0
groups_ended Ends = 0
groups_ended (Works cost) = 0
groups_ended Waits = 0
groups_ended GroupBegins = 0
groups_ended GroupEnds = 1

-- there is room for one more row of each kind
pub record HasRoomForOne (c : MarkCutter) : Type 0 where
  pub segments : length c.cutter.segments.items < MOST_ROWS
  pub tasks : length c.cutter.tasks.items < MOST_ROWS
  pub groups : length c.cutter.groups.items < MOST_ROWS

-- the rows are within the limit of a table
pub record AreWithin (c : MarkCutter) : Type 0 where
  pub segments : length c.cutter.segments.items ≤ MOST_ROWS
  pub tasks : length c.cutter.tasks.items ≤ MOST_ROWS

-- the cutter can take this mark
pub record CanTake (c : MarkCutter) (mark : Mark) : Type 0 where
  pub moment : List Mark
  pub tables : Tables c moment
  pub some_open : least_open_tasks mark ≤ length (open_tasks moment)
  pub grouped : groups_ended mark ≤ length (open_groups moment)
  pub room : HasRoom c.cutter (mark ∷ [])

-- all marks of a program have been taken
pub record IsWhole (c : MarkCutter) : Type 0 where
  pub marks : List Mark
  pub reading : IsReading marks
  pub tables : Tables c (last_moment marks)
