-- A nested table with its groups is read in place.
use Rattle.std.proofs.Common.{◌≡◌, ◌⊎◌, ℕ, zero, suc, ◌+◌, ◌-◌, ◌<◌, ◌≤◌, Option, Some, None}
use Rattle.std.proofs.Common.{refl, sym, ap, subst, ◌∙◌, inl, inr, arith}
use Rattle.std.proofs.lemmas.Bool.{cases_lt}
use Rattle.std.proofs.lemmas.Option.{same_Some}
use Rattle.task_segments.specs.declared.table.Closing.{Closing}
use Rattle.task_segments.specs.declared.table.Closing.TheVariants.{Creates, Waits, EndsGroup}
use Rattle.task_segments.specs.declared.table.Closing.TheVariants.{EndsTask}
use Rattle.task_segments.specs.Table.{Table, segment, task}
use Rattle.task_segments.specs.Precedence.{IsSegment, IsTask, Continues, Creation, IsEarlierChild}
use Rattle.task_segments.specs.Precedence.{Encloses}
use Rattle.task_segments.specs.Schedule.{IsJoined}
use Rattle.task_segments.specs.Nesting.{IsChild, IsNestedTable, IsGroupedTable, HasInnermost}
use Rattle.task_segments.specs.InPlace.{EndsBefore, IsOf, IsCreated, Opens, IsReadInPlace}
use Rattle.task_segments.proofs.Reaches.{reached_is_joined}
use Rattle.task_segments.proofs.Along.{reaches_along_task, has_next, next_is_nearest, is_owner}
use Rattle.task_segments.proofs.Along.{is_last}
use Rattle.task_segments.proofs.Order.{after_child, after_created, continues_up, creator_within}
use Rattle.task_segments.proofs.Order.{last_of_all, next_is, none_next, not_root, not_root_made}
use Rattle.task_segments.proofs.Order.{one_next, continues_or_is_created, same_place}
use Rattle.task_segments.proofs.Order.{siblings_apart}
use Rattle.std.proofs.lemmas.List.{get_or_past}

-- a number with a parent is a task's
pub with_parent : (table : Table) (u p : ℕ) → (task table u).parent ≡ Some p → IsTask table u
with_parent table u p e = grind (arith, cases_lt, get_or_past)

-- and so is one with a creator
pub with_creator : (table : Table) (u s : ℕ) → (task table u).creator ≡ Some s → IsTask table u
with_creator table u s e = grind (arith, cases_lt, get_or_past)

-- there is a segment
pub some_segment : (table : Table) → IsNestedTable table → IsSegment table 0
some_segment table h = let last = (h.segments 0 h.root.is_task).is_last in omega arith

-- no segment comes after the root's last
pub root_last : (table : Table) → IsNestedTable table → (s : ℕ) → IsSegment table s
    → s ≤ (task table 0).last
root_last table h s i = grind (arith, last_of_all, suc)

-- no segment of a task comes before its first
pub from_first : (table : Table) → IsNestedTable table → (u s : ℕ) → IsOf table u s
    → (task table u).first ≤ s
from_first table h u s i =
    ((h.segments u (is_owner table h u s i)).between s i.is_segment i.of_task).0

-- and none after its last
pub to_last : (table : Table) → IsNestedTable table → (u s : ℕ) → IsOf table u s
    → s ≤ (task table u).last
to_last table h u s i = ((h.segments u (is_owner table h u s i)).between s i.is_segment i.of_task).1

-- the first segment of a task is of it
pub first_of : (table : Table)
    → IsNestedTable table
    → (u : ℕ)
    → IsTask table u
    → IsOf table u (task table u).first
first_of table h u i = grind (arith, is_last)

-- nothing follows the last segment of a task
pub last_followed : (table : Table) → IsNestedTable table → (u t : ℕ) → IsTask table u
    → Continues table (task table u).last t → ⊥
last_followed table h u t i next = grind (arith, continues_up, to_last)

-- a segment is followed by one of its task, or ends its task
pub followed_or_last : (table : Table) → IsNestedTable table → (s : ℕ) → IsSegment table s
    → ((t : ℕ) × Continues table s t) ⊎ ((segment table s).closing ≡ EndsTask)
followed_or_last table h s i = by_closing (segment table s).closing refl
  where
    by_closing : (closing : Closing) → (segment table s).closing ≡ closing
        → ((t : ℕ) × Continues table s t) ⊎ ((segment table s).closing ≡ EndsTask)
    by_closing (Creates u) e = inl ((task table u).last + 1, after_created table h s u i e)
    by_closing Waits e = inl (s + 1, h.after_wait s i e)
    by_closing EndsGroup e = inl (s + 1, h.after_group s i e)
    by_closing EndsTask e = inr e

-- the last segment of a task ends it
pub last_ends : (table : Table) → IsNestedTable table → (u : ℕ) → IsTask table u
    → (segment table (task table u).last).closing ≡ EndsTask
last_ends table h u i =
    elim (followed_or_last table h (task table u).last (h.segments u i).is_last) [
      | inl next ↦ absurd (last_followed table h u next.0 i next.1)
      | inr ends ↦ ends
    ]

-- a segment is the first of at most one task
pub first_of_one : (table : Table)
    → IsNestedTable table
    → (u v : ℕ)
    → IsTask table u
    → IsTask table v
    → (task table u).first ≡ (task table v).first
    → u ≡ v
first_of_one table h u v i j same =
    sym (first_of table h u i).of_task
    ∙ ap (λ (s : ℕ). (segment table s).task) same
    ∙ (first_of table h v j).of_task

-- and the last of at most one
pub last_of_one : (table : Table)
    → IsNestedTable table
    → (u v : ℕ)
    → IsTask table u
    → IsTask table v
    → (task table u).last ≡ (task table v).last
    → u ≡ v
last_of_one table h u v i j same =
    sym (is_last table h u i).of_task
    ∙ ap (λ (s : ℕ). (segment table s).task) same
    ∙ (is_last table h v j).of_task

-- a segment follows at most one of its task
pub follows_one : (table : Table) → IsNestedTable table → (a b t : ℕ) → Continues table a t
    → Continues table b t
    → a ≡ b
follows_one table h a b t x y =
    let same = x.next in
    let other = y.next in
    same_place table h a b x.is_from y.is_from (sym x.same_task ∙ y.same_task) (omega arith)

-- the first of a task follows none
pub first_follows : (table : Table) → IsNestedTable table → (u s : ℕ) → IsTask table u
    → Continues table s (task table u).first → ⊥
first_follows table h u s i x = grind (arith, continues_up, from_first, first_of)

-- the next segment of a task is the first of its later ones
pub next_is_least : (table : Table) → IsNestedTable table → (s t other : ℕ) → Continues table s t
    → IsOf table (segment table s).task other → s < other → t ≤ other
next_is_least table h s t other x o l = next_is_nearest table h s t other x o.is_segment o.of_task l

-- two segments of a task are joined by a chain along it
pub is_joined_within_task : (table : Table)
    → IsNestedTable table
    → (u a b : ℕ)
    → IsOf table u a
    → IsOf table u b
    → a < b
    → IsJoined (Continues table) a b
is_joined_within_task table h u a b i j l =
    reached_is_joined (reaches_along_task (b - a) table h a b u i j (omega arith) (omega arith))

-- what a creator says of a task
record Made (table : Table) (u s : ℕ) : Type 0 where
  child : IsChild table u
  creator : child.creator ≡ s

-- a task with a creator is the child that this segment creates
creator_makes : (table : Table)
    → IsNestedTable table
    → (u s : ℕ)
    → IsTask table u
    → (task table u).creator ≡ Some s
    → Made table u s
creator_makes table h u s i e =
    let as_child = h.children u (not_root_made table h u s e) i in
    record { child = as_child; creator = same_Some _ _ (sym as_child.is_creator ∙ e) }

-- the creator of a task goes on after its last segment
pub after_task : (table : Table)
    → IsNestedTable table
    → (u s : ℕ)
    → IsTask table u
    → (task table u).creator ≡ Some s
    → Continues table s ((task table u).last + 1)
after_task table h u s i e =
    let made = creator_makes table h u s i e in
    subst (λ n. Continues table n ((task table u).last + 1)) made.creator made.child.resumes

-- the first segment of a task comes right after its creator
pub first_created : (table : Table) → IsNestedTable table → (u s : ℕ) → IsTask table u
    → (task table u).creator ≡ Some s → (task table u).first ≡ s + 1
first_created table h u s i e =
    let made = creator_makes table h u s i e in
    made.child.first ∙ ap (λ (n : ℕ). n + 1) made.creator

-- a task's last segment comes after its creator
pub created_before : (table : Table) → IsNestedTable table → (u s : ℕ) → IsTask table u
    → (task table u).creator ≡ Some s → s < (task table u).last
created_before table h u s i e =
    let first = first_created table h u s i e in
    let order = (h.segments u i).in_order in
    omega arith

-- each task but the root has a parent that creates it
pub below_root : (table : Table) → IsNestedTable table → (u : ℕ) → 0 < u → IsTask table u
    → IsCreated table u
below_root table h u l i =
    let as_child = h.children u l i in
    record {
      parent = as_child.parent;
      is_parent = as_child.is_parent;
      lower = as_child.lower;
      creator = as_child.creator;
      is_creator = as_child.is_creator;
      of_parent = record {
        is_segment = creator_within table h u as_child.creator i as_child.is_creator;
        of_task = as_child.of_creator;
      };
    }

-- a task with a parent has a creator
pub has_creator : (table : Table)
    → IsNestedTable table
    → (u p : ℕ)
    → IsTask table u
    → (task table u).parent ≡ Some p
    → (s : ℕ) × ((task table u).creator ≡ Some s)
has_creator table h u p i e =
    let as_child = h.children u (not_root table h u p e) i in
    (as_child.creator, as_child.is_creator)

-- the creator is a segment of the parent
pub creator_of : (table : Table)
    → IsNestedTable table
    → (u p s : ℕ)
    → IsTask table u
    → (task table u).parent ≡ Some p
    → (task table u).creator ≡ Some s
    → IsOf table p s
creator_of table h u p s i e f =
    let made = creator_makes table h u s i f in
    let same : made.child.parent ≡ p = same_Some _ _ (sym made.child.is_parent ∙ e) in
    record {
      is_segment = creator_within table h u s i f;
      of_task =
          ap (λ (n : ℕ). (segment table n).task) (sym made.creator) ∙ made.child.of_creator ∙ same;
    }

first_follows_none : (table : Table) → IsNestedTable table → (a b t : ℕ) → Continues table a t
    → Creation table b t
    → ⊥
first_follows_none table h a b t next creation =
    first_follows table h creation.child a creation.is_child
    (subst (Continues table a) (sym creation.first) next)

creation_once : (table : Table) → IsNestedTable table → (a b t : ℕ) → Creation table a t
    → Creation table b t → a ≡ b
creation_once table h a b t x y =
    let same = first_of_one table h x.child y.child x.is_child y.is_child (x.first ∙ sym y.first) in
    same_Some _ _ (sym x.creator ∙ ap (λ (u : ℕ). (task table u).creator) same ∙ y.creator)

-- a segment opens at the end of at most one
pub opens_once : (table : Table) → IsNestedTable table → (a b t : ℕ) → Opens table a t
    → Opens table b t → a ≡ b
opens_once table h a b t (inl x) (inl y) = follows_one table h a b t x y
opens_once table h a b t (inl x) (inr y) = absurd (first_follows_none table h a b t x y)
opens_once table h a b t (inr x) (inl y) = absurd (first_follows_none table h b a t y x)
opens_once table h a b t (inr x) (inr y) = creation_once table h a b t x y

-- the segment after the creator is the child's first: so the creator does not go on with that
-- number
next_other : (table : Table)
    → IsNestedTable table
    → (u s : ℕ)
    → IsTask table u
    → (task table u).creator ≡ Some s
    → Continues table s (s + 1)
    → ⊥
next_other table h u s i e next = grind (arith, one_next, after_task, created_before)

-- the creator of a task closes by creating it
pub closing_creates : (table : Table) → IsNestedTable table → (s child : ℕ) → IsTask table child
    → (task table child).creator ≡ Some s → (segment table s).closing ≡ Creates child
closing_creates table h s child i e = by_closing (segment table s).closing refl
  where
    is_s : IsSegment table s
    is_s = creator_within table h child s i e

    by_closing : (closing : Closing)
        → (segment table s).closing ≡ closing
        → (segment table s).closing ≡ Creates child
    by_closing (Creates other) c =
        let created = h.creates s other is_s c in
        let first = first_created table h other s created.0 created.1 in
        let same =
        first_of_one table h other child created.0 i
        (first ∙ sym (first_created table h child s i e)) in
        c ∙ ap Creates same
    by_closing Waits c = absurd (next_other table h child s i e (h.after_wait s is_s c))
    by_closing EndsGroup c = absurd (next_other table h child s i e (h.after_group s is_s c))
    by_closing EndsTask c =
        absurd
        (none_next table h s ((task table child).last + 1) c (after_task table h child s i e))

-- a child created before a segment of its parent has ended before it
pub children : (table : Table)
    → IsNestedTable table
    → (u p s t : ℕ)
    → (task table u).parent ≡ Some p
    → (task table u).creator ≡ Some s
    → IsOf table p t
    → s < t
    → (task table u).last < t
children table h u p s t e f o l =
    let made = creator_makes table h u s (with_parent table u p e) f in
    let same : made.child.parent ≡ p = same_Some _ _ (sym made.child.is_parent ∙ e) in
    let creator_is = made.creator in
    after_child table h u made.child t (o.of_task ∙ sym same) (omega arith)

-- a child created before t has ended before the segment that t follows by one, where that one
-- does not create it
ended_before : (table : Table)
    → IsNestedTable table
    → (child before : ℕ)
    → IsEarlierChild table child (before + 1)
    → Continues table before (before + 1)
    → (task table child).last < before
ended_before table h child before created next =
    let earlier = created.earlier in
    let parent : (task table child).parent ≡ Some (segment table before).task =
    created.parent ∙ ap Some next.same_task in
    elim (cases_lt created.creator before) [
      | inl less ↦ children table h child (segment table before).task created.creator before
          parent created.is_creator (record { is_segment = next.is_from; of_task = refl }) less
      | inr same ↦
          let same_creator : created.creator ≡ before = omega arith in
          absurd (next_other table h child before created.is_child
          (created.is_creator ∙ ap Some same_creator) next)
    ]

-- the same of a t that follows, where the next number follows: so t is that number
next_ended : (table : Table)
    → IsNestedTable table
    → (child before t : ℕ)
    → IsEarlierChild table child t
    → Continues table before t
    → Continues table before (before + 1)
    → (task table child).last < before
next_ended table h child before t created after next =
    ended_before table h child before
    (subst (λ n. IsEarlierChild table child n) (next_is table h before t after next) created) next

-- a child created before a wait has ended before the segment that waits
pub child_ends_before_wait : (table : Table)
    → IsNestedTable table
    → (child before t : ℕ)
    → IsEarlierChild table child t
    → Continues table before t
    → (segment table before).closing ≡ Waits
    → (task table child).last < before
child_ends_before_wait table h child before t created after waits =
    next_ended table h child before t created after (h.after_wait before after.is_from waits)

-- a child inside a group has ended before the segment that ends the group
pub child_ends_before_group : (table : Table)
    → IsNestedTable table
    → (child t : ℕ)
    → (encloses : Encloses table t child)
    → (task table child).last < encloses.before
child_ends_before_group table h child t e =
    next_ended table h child e.before t e.created e.opens
    (h.after_group e.before e.opens.is_from e.ends_group)

-- the end of a task's innermost group, which comes after the task
pub record EndsAfter (table : Table) (u t : ℕ) : Type 0 where
  pub ends : EndsBefore table t
  pub later : (task table u).last < ends.before

-- a child ends before its parent
last_lower : (table : Table)
    → IsNestedTable table
    → (u : ℕ)
    → (c : IsChild table u)
    → IsTask table u
    → (task table u).last < (task table c.parent).last
last_lower table h u c i =
    let within = to_last table h c.parent ((task table u).last + 1)
    (record { is_segment = c.resumes.is_to; of_task = c.resumes.same_task ∙ c.of_creator }) in
    omega arith

-- the group that a task is created in ends after it
own_group : (table : Table) → IsNestedTable table → (u t : ℕ) → HasInnermost table u
    → (task table u).innermost_group ≡ Some t → EndsAfter table u t
own_group table h u t g e =
    let same : g.group ≡ t = same_Some _ _ (sym g.is_group ∙ e) in
    let encloses = g.encloses in
    subst (λ n. EndsAfter table u n) same (record {
      ends = record {
        before = encloses.before;
        is_before = encloses.opens.is_from;
        ends_group = encloses.ends_group;
        after = encloses.opens;
      };
      later = child_ends_before_group table h u g.group encloses;
    })

-- the innermost group ends after the task, be it the parent's group or an outer one
group_from : (fuel : ℕ) (table : Table)
    → IsNestedTable table
    → IsGroupedTable table
    → (u t : ℕ)
    → u < fuel
    → IsTask table u
    → (task table u).innermost_group ≡ Some t
    → EndsAfter table u t
group_from zero table h g u t below i e = absurd (omega arith)
group_from (suc fuel) table h g u t below i e =
    elim (cases_lt 0 u) [
      | inl above ↦ elim (g.tasks u above i) [
        | inl own ↦ own_group table h u t own e
        | inr inherits ↦
            let as_child = h.children u above i in
            let parent_lower = as_child.lower in
            let same : inherits.parent ≡ as_child.parent =
            same_Some _ _ (sym inherits.is_parent ∙ as_child.is_parent) in
            let parents : (task table as_child.parent).innermost_group ≡ Some t =
            ap (λ (n : ℕ). (task table n).innermost_group) (sym same)
            ∙ sym inherits.inherited
            ∙ e in
            let up =
            group_from fuel table h g as_child.parent t (omega arith) (omega arith) parents in
            let later = up.later in
            let lower = last_lower table h u as_child i in
            record { ends = up.ends; later = omega arith }
      ]
      | inr none ↦
          let zero_is : u ≡ 0 = omega arith in
          let none_is_some : ◌≡◌ {A = Option ℕ} None (Some t) =
          sym g.root ∙ ap (λ (n : ℕ). (task table n).innermost_group) (sym zero_is) ∙ e in
          cc
    ]

-- of a task's innermost group the end is known, and comes after the task
pub group : (table : Table)
    → IsNestedTable table
    → IsGroupedTable table
    → (u t : ℕ)
    → IsTask table u
    → (task table u).innermost_group ≡ Some t
    → (ends : EndsBefore table t) × ((task table u).last < ends.before)
group table h g u t i e =
    let ends_after = group_from (suc u) table h g u t (omega arith) i e in
    (ends_after.ends, ends_after.later)

-- a nested table with its groups is read in place
pub read_in_place : (table : Table) → IsNestedTable table → IsGroupedTable table
    → IsReadInPlace table
read_in_place table h g = record {
  root = h.root.is_task;
  root_parent = h.root.parent;
  root_creator = h.root.creator;
  root_first = h.root.first;
  root_group = g.root;
  root_last = root_last table h;
  some_segment = some_segment table h;
  with_parent = with_parent table;
  with_creator = with_creator table;
  has_task = h.tasks;
  from_first = from_first table h;
  to_last = to_last table h;
  first_of = first_of table h;
  last_of = is_last table h;
  last_ends = last_ends table h;
  ends_last = h.ends;
  firsts_ascend = h.created_in_order;
  first_of_one = first_of_one table h;
  last_of_one = last_of_one table h;
  follows_one = follows_one table h;
  one_follows = one_next table h;
  first_follows = first_follows table h;
  last_followed = last_followed table h;
  follows_later = continues_up table h;
  nearest = next_is_least table h;
  between = is_joined_within_task table h;
  followed = has_next table h;
  after_wait = h.after_wait;
  after_group = h.after_group;
  after_task = after_task table h;
  below_root = below_root table h;
  has_creator = has_creator table h;
  creator_of = creator_of table h;
  first_created = first_created table h;
  created_before = created_before table h;
  creates = h.creates;
  created = λ s child i e.
      (creator_within table h child s i e, closing_creates table h s child i e);
  opens = continues_or_is_created table h;
  opens_once = opens_once table h;
  siblings = siblings_apart table h;
  children = children table h;
  waited = child_ends_before_wait table h;
  enclosed = child_ends_before_group table h;
  group = group table h g;
}
