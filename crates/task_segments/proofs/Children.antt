-- The children of a task, numbered from 0 in the order of their creation: each number below a count
-- is a child's.
use Rattle.std.proofs.Common.{◌≡◌, ℕ, ◌+◌, ◌-◌, ◌<◌, true, cond, eqb, ◌&&◌, List, [], ◌∷◌, Some}
use Rattle.std.proofs.Common.{length, get_or, drop, refl, sym, ap, subst, ◌∙◌, inl, inr, arith}
use Rattle.std.proofs.lemmas.Bool.Decides.{nat_tests}
use Rattle.std.proofs.lemmas.Bool.{cases_lt, cases_Bool}
use Rattle.std.proofs.lemmas.Option.{same_Some}
use Rattle.task_program.specs.Marks.{Mark}
use Rattle.task_program.specs.Marks.Mark.{Begins, Ends, Works, Waits, GroupBegins, GroupEnds}
use Rattle.task_segments.specs.declared.table.Closing.TheVariants as closings
use Rattle.task_segments.specs.Moments.{begins_task, opens, OpenGroup, segments_so_far}
use Rattle.task_segments.specs.Moments.{tasks_so_far, open_tasks, open_groups, running_task, runs}
use Rattle.task_segments.specs.Moments.{is_innermost, opening_of, beginning_of, children_of}
use Rattle.task_segments.specs.Moments.{closing_of, before_group, innermost_children_before}
use Rattle.task_segments.specs.Moments.{last_moment, IsProper}
use Rattle.task_segments.specs.Table.{Table, segment, task, table_at}
use Rattle.task_segments.specs.Precedence.{IsSegment, IsTask, Continues, IsEarlierChild}
use Rattle.task_segments.specs.MarksTable.{IsMarksTable}
use Rattle.task_segments.proofs.Steps.{count-cons, task_has_begun, running_below, tasks_begins}
use Rattle.task_segments.proofs.Steps.{beginning_of-old, beginning_of-new}
use Rattle.task_segments.proofs.Places.{after_end}
use Rattle.task_segments.proofs.Grouping.{IsGrouped, before_task, innermost_of, no_group}
use Rattle.task_segments.proofs.Grouping.{children_are_counted, closes_with, groups_at_later_moment}
use Rattle.task_segments.proofs.Facts.{IsLast, nested, row, segment-at, segments-at, tasks-at}
use Rattle.task_segments.proofs.Facts.{owner-at, continues, nothing_before, beginning_within}
use Rattle.task_segments.proofs.Order.{OpensAfter, not_root}
use Rattle.task_segments.proofs.Groups.{child}
use Rattle.task_segments.proofs.LastMoment.{last_of_nested}

-- which task runs, by the test
innermost_is : (p : ℕ) (stack : List ℕ)
    → is_innermost p stack ≡ true
    → (0 < length stack) × (get_or stack 0 0 ≡ p)
innermost_is p [] h = absurd cc
innermost_is p (x ∷ stack) h = (omega arith, grind (arith, nat_tests))

-- u is a child of p that has begun, and p had created k before it
record IsChildAt (e : List Mark) (p k u : ℕ) : Type 0 where
  above : 0 < u
  has_begun : u < tasks_so_far e
  parent : running_task (before_task u e) ≡ p
  count : children_of p (before_task u e) ≡ k

-- the child seen from another moment
child_from : (x e : List Mark) (p k u : ℕ) → before_task u e ≡ before_task u x → u < tasks_so_far e
    → IsChildAt x p k u → IsChildAt e p k u
child_from x e p k u same l c = grind arith

-- the task that a mark begins is a child of the task that runs
newest_child : (m : Mark) (e : List Mark) (p : ℕ) → begins_task m ≡ true → runs p e ≡ true
    → IsChildAt (m ∷ e) p (children_of p e) (tasks_so_far e)
newest_child m e p b now =
    let runs_now = innermost_is p (open_tasks e) now in
    let is : before_task (tasks_so_far e) (m ∷ e) ≡ e = ap (drop 1) (beginning_of-new m e b) in
    let one : ◌≡◌ {A = ℕ} (cond (begins_task m) 1 0) 1 = rw b refl in
    record {
      above = omega (arith, running_below e runs_now.0);
      has_begun = omega (arith, count-cons begins_task m e);
      parent = ap running_task is ∙ runs_now.1;
      count = ap (children_of p) is;
    }

-- each number below a task's count of children is that of one of them
nth_child : (e : List Mark) (p k : ℕ) → k < children_of p e → (u : ℕ) × IsChildAt e p k u
nth_child [] p k l = absurd (omega arith)
nth_child (Begins d i ∷ e) p k l = elim (cases_lt k (children_of p e)) [
  | inl older ↦ (
      let child = nth_child e p k older in
      let same : before_task child.0 (Begins d i ∷ e) ≡ before_task child.0 e =
      ap (drop 1) (beginning_of-old (Begins d i) e child.0 child.1.has_begun) in (
        child.0,
        child_from e (Begins d i ∷ e) p k child.0 same
            (omega (arith, child.1.has_begun, tasks_begins d i e)) child.1,
      ))
  | inr newest ↦ elim (cases_Bool (runs p e)) [
    | inl now ↦ (
        let one : ◌≡◌ {A = ℕ} (cond (runs p e) 1 0) 1 = rw now refl in
        let count : children_of p e ≡ k = omega arith in (
          tasks_so_far e,
          subst (λ n. IsChildAt (Begins d i ∷ e) p n (tasks_so_far e)) count
              (newest_child (Begins d i) e p refl now),
        ))
    | inr other ↦
        absurd (let none : ◌≡◌ {A = ℕ} (cond (runs p e) 1 0) 0 = rw other refl in omega arith)
  ]
]
nth_child (Ends ∷ e) p k l =
    let child = nth_child e p k l in
    (child.0, child_from e (Ends ∷ e) p k child.0 refl child.1.has_begun child.1)
nth_child (Works cost ∷ e) p k l =
    let child = nth_child e p k l in
    (child.0, child_from e (Works cost ∷ e) p k child.0 refl child.1.has_begun child.1)
nth_child (Waits ∷ e) p k l =
    let child = nth_child e p k l in
    (child.0, child_from e (Waits ∷ e) p k child.0 refl child.1.has_begun child.1)
nth_child (GroupBegins ∷ e) p k l =
    let child = nth_child e p k l in
    (child.0, child_from e (GroupBegins ∷ e) p k child.0 refl child.1.has_begun child.1)
nth_child (GroupEnds ∷ e) p k l =
    let child = nth_child e p k l in
    (child.0, child_from e (GroupEnds ∷ e) p k child.0 refl child.1.has_begun child.1)

-- a child's row has its parent and its number among its siblings
row_of_child : (e : List Mark) → IsLast e → (p k u : ℕ) → IsChildAt e p k u
    → ((task (table_at e) u).parent ≡ Some p) × ((task (table_at e) u).siblings_before ≡ k)
row_of_child e h p k u c =
    let facts = child e h u c.above c.has_begun in
    let at = sym facts.is_before in (
      facts.parent ∙ ap (λ (xs : List Mark). Some (running_task xs)) at ∙ ap Some c.parent,
      facts.siblings ∙ ap (λ (xs : List Mark). children_of (running_task xs) xs) at
          ∙ ap (λ (q : ℕ). children_of q (before_task u e)) c.parent ∙ c.count,
    )

-- an earlier sibling of u, with k siblings before it
pub record HasSiblingAt (table : Table) (u k : ℕ) : Type 0 where
  pub sibling : ℕ
  pub earlier : sibling < u
  pub of_parent : (task table sibling).parent ≡ (task table u).parent
  pub count : (task table sibling).siblings_before ≡ k

-- t opens after the end of a group, and k is the number of a child that its task created before t
pub record HasChildAt (table : Table) (t k : ℕ) : Type 0 where
  pub opens_after : OpensAfter table closings.EndsGroup t
  pub child : ℕ
  pub created : IsEarlierChild table child t
  pub count : (task table child).siblings_before ≡ k

-- how a table numbers the children of its tasks, and counts them where groups end
pub record IsNumbered (table : Table) : Type 0 where
  -- siblings are numbered from 0 in the order of their creation
  pub siblings : (u k : ℕ)
      → IsTask table u
      → k < (task table u).siblings_before
      → HasSiblingAt table u k
  pub ascend : (u v : ℕ) → u < v → IsTask table v → (task table u).parent ≡ (task table v).parent
      → (task table u).siblings_before < (task table v).siblings_before
  -- only a segment after the end of a group counts children, and no more than its task has
  -- created
  pub children : (t k : ℕ)
      → IsSegment table t
      → k < (segment table t).children_before
      → HasChildAt table t k

-- where a task began, seen from where a later one did
before_within : (e : List Mark) (u v : ℕ) (before : List Mark)
    → u < v
    → v < tasks_so_far e
    → before_task v e ≡ before
    → before_task u e ≡ before_task u before
before_within e u v before a l is = ap (drop 1) (beginning_within e u v a l) ∙ ap (before_task u) is

-- the root has no siblings
root_siblings : (e : List Mark)
    → IsProper e
    → 0 < tasks_so_far e
    → (task (table_at e) 0).siblings_before ≡ 0
root_siblings e p l =
    let beginning = task_has_begun e p 0 l in
    let none : beginning.earlier ≡ [] =
    nothing_before beginning.earlier beginning.proper (sym beginning.number) in
    ap (λ r. r.siblings_before) (row e 0 l beginning)
    ∙ ap (λ (xs : List Mark). children_of (running_task xs) xs) none

-- each number below the number of siblings before a task is that of an earlier one
siblings_at : (e : List Mark)
    → IsLast e
    → (u k : ℕ)
    → u < tasks_so_far e
    → k < (task (table_at e) u).siblings_before
    → HasSiblingAt (table_at e) u k
siblings_at e h u k l less = elim (cases_lt 0 u) [
  | inl above ↦ (
      let of_child = child e h u above l in
      let parent = running_task of_child.before in
      let found = nth_child of_child.before parent k (omega (arith, of_child.siblings)) in
      let sibling = found.0 in
      let earlier : sibling < u = omega (arith, found.1.has_begun, of_child.number) in
      let here =
      child_from of_child.before e parent k sibling
      (before_within e sibling u of_child.before earlier l of_child.is_before) (omega arith)
      found.1 in
      let is = row_of_child e h parent k sibling here in
      record {
        sibling = sibling;
        earlier = earlier;
        of_parent = is.0 ∙ sym of_child.parent;
        count = is.1;
      })
  | inr root ↦ absurd (
      let is : u ≡ 0 = omega arith in
      let none = ap (λ (n : ℕ). (task (table_at e) n).siblings_before) is in
      omega (arith, root_siblings e h.proper (omega arith)))
]

-- a later sibling has more siblings before it
siblings_ascend : (e : List Mark) → IsLast e → (u v : ℕ) → u < v → v < tasks_so_far e
    → (task (table_at e) u).parent ≡ (task (table_at e) v).parent
    → (task (table_at e) u).siblings_before < (task (table_at e) v).siblings_before
siblings_ascend e h u v a l same =
    let later = child e h v (omega arith) l in
    let above =
    not_root (table_at e) (nested e h) u (running_task later.before) (same ∙ later.parent) in
    let earlier = child e h u above (omega arith) in
    let parent : running_task earlier.before ≡ running_task later.before =
    same_Some _ _ (sym earlier.parent ∙ same ∙ later.parent) in
    let since = groups_at_later_moment later.before later.proper later.grouped u above
    (omega (arith, later.number)) in
    let at : before_task u later.before ≡ earlier.before =
    sym (before_within e u v later.before a l later.is_before) ∙ earlier.is_before in
    let more = subst
    (λ (xs : List Mark).
    children_of (running_task xs) xs < children_of (running_task xs) later.before)
    at since.more in
    omega (
      arith,
      more,
      ap (λ (p : ℕ). children_of p later.before) parent,
      earlier.siblings,
      later.siblings,
    )

-- what holds at a moment and at those before it holds where a segment opened
at_opening : (P : List Mark → Type 0)
    → ((m : Mark) (e : List Mark) → P (m ∷ e) → P e)
    → (e : List Mark) (t : ℕ)
    → P e
    → P (opening_of t e)
at_opening P back [] t h = h
at_opening P back (m ∷ e) t h = elim (cases_Bool (opens m && eqb (segments_so_far e) t)) [
  | inl here ↦ rw here h
  | inr before ↦ rw before (at_opening P back e t (back m e h))
]

-- a segment's number is how many had opened before it
opening_number : (e : List Mark) (t : ℕ) (m : Mark) (before : List Mark)
    → opening_of t e ≡ m ∷ before
    → segments_so_far before ≡ t
opening_number [] t m before o = absurd cc
opening_number (n ∷ e) t m before o = elim (cases_Bool (opens n && eqb (segments_so_far e) t)) [
  | inl here ↦ (
      let same : n ∷ e ≡ m ∷ before = rw here at o in
      let number : segments_so_far e ≡ t = grind (arith, nat_tests) in
      ap (λ (xs : List Mark). segments_so_far (drop 1 xs)) (sym same) ∙ number)
  | inr earlier ↦ opening_number e t m before (rw earlier at o)
]

-- a task that had begun where a segment opened
begun_by_opening : (e : List Mark) (t u : ℕ) → u < tasks_so_far (opening_of t e)
    → (u < tasks_so_far e) × (beginning_of u e ≡ beginning_of u (opening_of t e))
begun_by_opening [] t u l = (l, refl)
begun_by_opening (m ∷ e) t u l = elim (cases_Bool (opens m && eqb (segments_so_far e) t)) [
  | inl here ↦ (rw here at l, rw here refl)
  | inr before ↦ (
      let earlier = begun_by_opening e t u (rw before at l) in (
        omega (arith, earlier.0, count-cons begins_task m e),
        beginning_of-old m e u earlier.0
            ∙ rw before earlier.1,
      ))
]

-- of the open groups the innermost counts
innermost_count : (groups : List OpenGroup)
    → innermost_children_before groups ≡ (innermost_of groups).children_before
innermost_count [] = refl
innermost_count (g ∷ groups) = refl

-- a segment that opens with the end of a group goes on after it
after_group_end : (e : List Mark)
    → IsLast e
    → (t : ℕ) (before : List Mark)
    → 0 < t
    → t < segments_so_far e
    → opening_of t e ≡ GroupEnds ∷ before
    → OpensAfter (table_at e) closings.EndsGroup t
after_group_end e h t before above l o =
    let closing : closing_of (t - 1) e ≡ closings.EndsGroup = closes_with e t before above l o in
    let same : t - 1 + 1 ≡ t = omega arith in (
      t - 1,
      ap (λ r. r.closing) (segment-at e (t - 1) (omega arith)) ∙ closing,
      subst (λ (n : ℕ). Continues (table_at e) (t - 1) n) same
          (continues e (t - 1) (after_end e h.proper (t - 1) closing)),
    )

proper_opening : (e : List Mark) (t : ℕ) (xs : List Mark) → IsProper e → opening_of t e ≡ xs
    → IsProper xs
proper_opening e t xs p o =
    subst (λ (xs : List Mark). IsProper xs) o (at_opening (λ xs. IsProper xs) (λ m x p. p.1) e t p)

grouped_opening : (e : List Mark) (t : ℕ) (xs : List Mark) → IsGrouped e → opening_of t e ≡ xs
    → IsGrouped xs
grouped_opening e t xs g o =
    subst (λ (xs : List Mark). IsGrouped xs) o
    (at_opening (λ xs. IsGrouped xs) (λ m x p. p.2) e t g)

-- a child that its task had created before the end of a group
child_before_end : (e : List Mark)
    → IsLast e
    → (t k u : ℕ) (before : List Mark)
    → t < segments_so_far e
    → opening_of t e ≡ GroupEnds ∷ before
    → IsChildAt before (running_task before) k u
    → HasChildAt (table_at e) t k
child_before_end e h t k u before l o found =
    let proper = proper_opening e t (GroupEnds ∷ before) h.proper o in
    let whole = begun_by_opening e t u
    (subst (λ (xs : List Mark). u < tasks_so_far xs) (sym o) found.has_begun) in
    let at : before_task u e ≡ before_task u before = ap (drop 1) whole.1 ∙ ap (before_task u) o in
    let here = child_from before e (running_task before) k u at whole.0 found in
    let is = row_of_child e h (running_task before) k u here in
    let of_child = child e h u here.above here.has_begun in
    let beginning = task_has_begun before proper.1 u found.has_begun in
    let first : segments_so_far of_child.before ≡ segments_so_far beginning.earlier =
    ap segments_so_far (sym of_child.is_before) ∙ ap segments_so_far at
    ∙ ap (λ (xs : List Mark). segments_so_far (drop 1 xs)) beginning.begins in
    let number = opening_number e t GroupEnds before o in
    record {
      opens_after = after_group_end e h t before (omega (arith, beginning.before)) l o;
      child = u;
      created = record {
        is_child = omega (arith, whole.0, tasks-at e);
        parent = is.0 ∙ ap Some (sym (owner-at e t l ∙ ap running_task o));
        creator = segments_so_far of_child.before - 1;
        is_creator = of_child.creator;
        earlier = omega (arith, beginning.before, of_child.opened);
      };
      count = is.1;
    }

-- a group begins where its task had created no more children than where it ends
group_children : (e : List Mark) (t k : ℕ) (before : List Mark)
    → IsGrouped e
    → opening_of t e ≡ GroupEnds ∷ before
    → k < before_group (GroupEnds ∷ before)
    → k < children_of (running_task before) before
group_children e t k before g o less =
    let grouped = grouped_opening e t (GroupEnds ∷ before) g o in
    let own = ap (λ (q : ℕ). children_of q before) grouped.1.1 in
    omega (
      arith,
      children_are_counted before 0 no_group grouped.1.0,
      innermost_count (open_groups before),
    )

-- each number that a segment counts is that of a child created before it
children_at : (e : List Mark) → IsLast e → (t k : ℕ) → t < segments_so_far e
    → k < (segment (table_at e) t).children_before → HasChildAt (table_at e) t k
children_at e h t k l less =
    by_mark (opening_of t e) refl (omega (arith, ap (λ r. r.children_before) (segment-at e t l)))
  where
    by_mark : (moment : List Mark)
        → opening_of t e ≡ moment
        → k < before_group moment
        → HasChildAt (table_at e) t k
    by_mark [] o few = absurd (omega arith)
    by_mark (Begins d i ∷ before) o few = absurd (omega arith)
    by_mark (Ends ∷ before) o few = absurd (omega arith)
    by_mark (Works cost ∷ before) o few = absurd (omega arith)
    by_mark (Waits ∷ before) o few = absurd (omega arith)
    by_mark (GroupBegins ∷ before) o few = absurd (omega arith)
    by_mark (GroupEnds ∷ before) o few =
        let found =
        nth_child before (running_task before) k (group_children e t k before h.grouped o few) in
        child_before_end e h t k found.0 before l o found.1

is_numbered : (e : List Mark) → IsLast e → IsNumbered (table_at e)
is_numbered e h = grind (arith, siblings_at, tasks-at, siblings_ascend, children_at, segments-at)

-- the table of a program numbers them so
pub numbered_program : (table : Table) → IsMarksTable table → IsNumbered table
numbered_program table h =
    let last = last_of_nested h.marks h.reading.nested in
    subst (λ (t : Table). IsNumbered t) (sym h.is) (is_numbered (last_moment h.marks) last)
