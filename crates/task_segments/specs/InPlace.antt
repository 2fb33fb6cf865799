-- What follows for the segments of every table from each child being read in place: facts of two or
-- three numbers each, in the form in which steps through a table ask for them.
use Rattle.std.specs.Prelude.{ℕ, ◌+◌, ◌<◌, ◌≤◌, ◌≡◌, ◌⊎◌, Some, None}
use Rattle.task_segments.specs.Table.{Table, segment, task}
use Rattle.task_segments.specs.declared.table.Closing.TheVariants.{Creates, Waits, EndsGroup}
use Rattle.task_segments.specs.declared.table.Closing.TheVariants.{EndsTask}
use Rattle.task_segments.specs.Precedence.{IsSegment, IsTask, Continues, Creation, IsEarlierChild}
use Rattle.task_segments.specs.Precedence.{Encloses}
use Rattle.task_segments.specs.Schedule.{IsJoined}

-- the segment before t in its task ends a group
pub record EndsBefore (table : Table) (t : ℕ) : Type 0 where
  pub before : ℕ
  pub is_before : IsSegment table before
  pub ends_group : (segment table before).closing ≡ EndsGroup
  pub after : Continues table before t

-- s is a segment of the task u
pub record IsOf (table : Table) (u s : ℕ) : Type 0 where
  pub is_segment : IsSegment table s
  pub of_task : (segment table s).task ≡ u

-- the parent of u, which has a smaller number, and the segment of the parent that creates u
pub record IsCreated (table : Table) (u : ℕ) : Type 0 where
  pub parent : ℕ
  pub is_parent : (task table u).parent ≡ Some parent
  pub lower : parent < u
  pub creator : ℕ
  pub is_creator : (task table u).creator ≡ Some creator
  pub of_parent : IsOf table parent creator

-- t opens where s ends
abbrev pub Opens : Table → ℕ → ℕ → Type 0
Opens table s t = Continues table s t ⊎ Creation table s t

pub record IsReadInPlace (table : Table) : Type 0 where
  -- the root begins the table and ends it
  pub root : IsTask table 0
  pub root_parent : (task table 0).parent ≡ None
  pub root_creator : (task table 0).creator ≡ None
  pub root_first : (task table 0).first ≡ 0
  pub root_group : (task table 0).innermost_group ≡ None
  pub root_last : (s : ℕ) → IsSegment table s → s ≤ (task table 0).last
  pub some_segment : IsSegment table 0
  -- a number with a parent or a creator is a task's
  pub with_parent : (u p : ℕ) → (task table u).parent ≡ Some p → IsTask table u
  pub with_creator : (u s : ℕ) → (task table u).creator ≡ Some s → IsTask table u
  -- each segment has a task, and lies between the first and the last of it
  pub has_task : (s : ℕ) → IsSegment table s → IsTask table (segment table s).task
  pub from_first : (u s : ℕ) → IsOf table u s → (task table u).first ≤ s
  pub to_last : (u s : ℕ) → IsOf table u s → s ≤ (task table u).last
  pub first_of : (u : ℕ) → IsTask table u → IsOf table u (task table u).first
  pub last_of : (u : ℕ) → IsTask table u → IsOf table u (task table u).last
  pub last_ends : (u : ℕ) → IsTask table u → (segment table (task table u).last).closing ≡ EndsTask
  pub ends_last : (s : ℕ)
      → IsSegment table s
      → (segment table s).closing ≡ EndsTask
      → (task table (segment table s).task).last ≡ s
  -- tasks are numbered as their first segments are
  pub firsts_ascend : (u v : ℕ)
      → u < v
      → IsTask table v
      → (task table u).first < (task table v).first
  pub first_of_one : (u v : ℕ)
      → IsTask table u
      → IsTask table v
      → (task table u).first ≡ (task table v).first
      → u ≡ v
  pub last_of_one : (u v : ℕ)
      → IsTask table u
      → IsTask table v
      → (task table u).last ≡ (task table v).last
      → u ≡ v
  -- a segment follows at most one of its task, and the first of a task none; at most one follows
  -- it, and none the last
  pub follows_one : (a b t : ℕ) → Continues table a t → Continues table b t → a ≡ b
  pub one_follows : (s a b : ℕ) → Continues table s a → Continues table s b → a ≡ b
  pub first_follows : (u s : ℕ) → IsTask table u → Continues table s (task table u).first → ⊥
  pub last_followed : (u t : ℕ) → IsTask table u → Continues table (task table u).last t → ⊥
  pub follows_later : (s t : ℕ) → Continues table s t → s < t
  -- between a segment and the next of its task lies none of that task, and a chain leads along the
  -- task
  pub nearest : (s t other : ℕ)
      → Continues table s t
      → IsOf table (segment table s).task other
      → s < other
      → t ≤ other
  pub between : (u a b : ℕ)
      → IsOf table u a
      → IsOf table u b
      → a < b
      → IsJoined (Continues table) a b
  -- each segment but the last of its task is followed: by the next number after a wait and after
  -- the end of a group, and where it creates a task by the number after the last of that task
  pub followed : (s : ℕ)
      → IsSegment table s
      → s < (task table (segment table s).task).last
      → (t : ℕ) × Continues table s t
  pub after_wait : (s : ℕ)
      → IsSegment table s
      → (segment table s).closing ≡ Waits
      → Continues table s (s + 1)
  pub after_group : (s : ℕ)
      → IsSegment table s
      → (segment table s).closing ≡ EndsGroup
      → Continues table s (s + 1)
  pub after_task : (u s : ℕ)
      → IsTask table u
      → (task table u).creator ≡ Some s
      → Continues table s ((task table u).last + 1)
  -- each task but the root has a parent, and a segment of the parent that creates it just before
  -- its first segment
  pub below_root : (u : ℕ) → 0 < u → IsTask table u → IsCreated table u
  pub has_creator : (u p : ℕ)
      → IsTask table u
      → (task table u).parent ≡ Some p
      → (s : ℕ) × ((task table u).creator ≡ Some s)
  pub creator_of : (u p s : ℕ)
      → IsTask table u
      → (task table u).parent ≡ Some p
      → (task table u).creator ≡ Some s
      → IsOf table p s
  pub first_created : (u s : ℕ)
      → IsTask table u
      → (task table u).creator ≡ Some s
      → (task table u).first ≡ s + 1
  pub created_before : (u s : ℕ)
      → IsTask table u
      → (task table u).creator ≡ Some s
      → s < (task table u).last
  pub creates : (s child : ℕ)
      → IsSegment table s
      → (segment table s).closing ≡ Creates child
      → IsTask table child × ((task table child).creator ≡ Some s)
  pub created : (s child : ℕ)
      → IsTask table child
      → (task table child).creator ≡ Some s
      → IsSegment table s × ((segment table s).closing ≡ Creates child)
  -- each segment but the first opens at the end of one segment: of the one before it in its task,
  -- or of its task's creator
  pub opens : (t : ℕ) → 0 < t → IsSegment table t → (s : ℕ) × Opens table s t
  pub opens_once : (a b t : ℕ) → Opens table a t → Opens table b t → a ≡ b
  -- of two siblings the earlier one has ended where the later one is created, and a child where its
  -- parent goes on
  pub siblings : (u v p s : ℕ)
      → u < v
      → IsTask table v
      → (task table u).parent ≡ Some p
      → (task table v).parent ≡ Some p
      → (task table v).creator ≡ Some s
      → (task table u).last < s
  pub children : (u p s t : ℕ)
      → (task table u).parent ≡ Some p
      → (task table u).creator ≡ Some s
      → IsOf table p t
      → s < t
      → (task table u).last < t
  -- a child created before a wait, or inside a group, has ended before the segment that waits, or
  -- that ends the group
  pub waited : (child before t : ℕ)
      → IsEarlierChild table child t
      → Continues table before t
      → (segment table before).closing ≡ Waits
      → (task table child).last < before
  pub enclosed : (child t : ℕ)
      → (encloses : Encloses table t child)
      → (task table child).last < encloses.before
  -- and so has each task that the group holds, through enclosing tasks too
  pub group : (u t : ℕ)
      → IsTask table u
      → (task table u).innermost_group ≡ Some t
      → (ends : EndsBefore table t) × ((task table u).last < ends.before)
