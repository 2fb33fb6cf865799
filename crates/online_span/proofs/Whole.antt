-- At the last moment of a program a segment awaits exactly those that must precede it.
use Rattle.std.proofs.Common.{◌≡◌, ◌≢◌, ℕ, ◌+◌, ◌-◌, ◌<◌, Bool, true, false}
use Rattle.std.proofs.Common.{List, [], ◌∷◌, length, length-drop, refl, sym, ap, subst}
use Rattle.std.proofs.Common.{◌∙◌, inl, inr, arith, Some, slice_get}
use Rattle.std.specs.List.{All}
use Rattle.std.proofs.lemmas.Bool.Decides.{nat_tests}
use Rattle.std.proofs.lemmas.Bool.{cases_lt}
use Rattle.std.proofs.lemmas.Option.{slice_get-get_or, get_or_from_slice_get}
use Rattle.program_text.specs.declared.statement.Item.{Item}
use Rattle.task_program.specs.Conflict.{items_conflict}
use Rattle.task_program.specs.Marks.{Mark}
use Rattle.task_program.specs.Marks.Mark.{Begins, Ends, Works, Waits, GroupBegins, GroupEnds}
use Rattle.task_segments.specs.declared.table.Closing.{Closing}
use Rattle.task_segments.specs.declared.table.Closing.TheVariants as closings
use Rattle.task_segments.specs.Moments.{OpenGroup, opens, segments_so_far}
use Rattle.task_segments.specs.Moments.{tasks_so_far, open_tasks, open_groups}
use Rattle.task_segments.specs.Moments.{running_task, runs, opening_of, last_of}
use Rattle.task_segments.specs.Moments.{closing_of, is_latest, before_group}
use Rattle.task_segments.specs.Moments.{innermost_children_before, IsProper}
use Rattle.task_segments.specs.Table.{segment, task, task_row, table_at}
use Rattle.task_segments.specs.Precedence.{IsSegment, IsTask, Continues, Creation, Resumption}
use Rattle.task_segments.specs.Precedence.{Dependence, IsEarlierChild, Wait}
use Rattle.task_segments.specs.Precedence.{GroupEnd, MustPrecede}
use Rattle.task_segments.specs.Nesting.{IsNestedTable}
use Rattle.task_segments.specs.InPlace.{IsReadInPlace}
use Rattle.task_segments.proofs.Steps.{owner, running_below, beginning_of-new, opening_of-old}
use Rattle.task_segments.proofs.Steps.{opening_of-new, tasks_begins, latest_owner}
use Rattle.task_segments.proofs.Steps.{task_has_begun}
use Rattle.task_segments.proofs.Places.{open_tasks_descend}
use Rattle.task_segments.proofs.Rows.{closing_stays}
use Rattle.task_segments.proofs.Facts.{IsLast, nested, segment-at, segments-at, task-at, tasks-at}
use Rattle.task_segments.proofs.Facts.{owner-at, some_creator, row, first-at}
use Rattle.task_segments.proofs.Grouping.{IsGrouped, Among, innermost_of, before_task}
use Rattle.task_segments.proofs.Grouping.{among_head}
use Rattle.task_segments.proofs.Grouping.{begun_open}
use Rattle.task_segments.proofs.Groups.{grouped_table}
use Rattle.task_segments.proofs.Order.{ancestor_lower, child_up, descendant_last}
use Rattle.task_segments.proofs.Order.{parent_lower}
use Rattle.task_segments.proofs.InPlace.{read_in_place}
use Rattle.online_span.specs.Awaiting.{Ended, IsLastOf, IsLatest, AwaitsNow, Awaits, any_items, items_of}
use Rattle.online_span.specs.Awaiting.{is_undeferred, ended_of, ended_in, ended_in_first, end_of}
use Rattle.online_span.proofs.Held.{outer_below}
use Rattle.online_span.proofs.Stays.{some_segment}
use Rattle.online_span.proofs.Last.{last_running}
use Rattle.online_span.proofs.Earliest.{Opened, has_opened, opening_of-none}
use Rattle.online_span.proofs.Later.{opens_now, Later, opening_later, beginnings_stay, continues_last}
use Rattle.online_span.proofs.Later.{ended_stays, tasks_grow, openings_stay, idle}
use Rattle.online_span.proofs.Later.Later.{Now}
use Rattle.online_span.proofs.Children.{listed_is_child, child_is_listed}
use Rattle.online_span.proofs.Began.{Row, row_of, above_top, later_rest, later_grouped}
use Rattle.online_span.proofs.Began.{begun_before, beginning_later, first_opened}
use Rattle.online_span.proofs.InGroups.{Has, listed_is_ended, ended_is_listed}
use Rattle.online_span.proofs.InGroups.{counted_since, since_counted, since_later, since_above}
use Rattle.online_span.proofs.InGroups.{branch_of}

-- segment t of the last moment e opened with mark m, after the marks b
record At (e : List Mark) (t : ℕ) (m : Mark) (b : List Mark) : Type 0 where
  last : IsLast e
  inside : t < segments_so_far e
  opened : opening_of t e ≡ m ∷ b
  opens_one : opens m ≡ true
  number : segments_so_far b ≡ t
  proper : IsProper (m ∷ b)
  ends : (s : ℕ) → s < t → end_of e s ≡ end_of b s
  grouped : IsGrouped (m ∷ b)
  after : Later (m ∷ b) e
  later : Later b e
  place : IsReadInPlace (table_at e)
  nests : IsNestedTable (table_at e)

at_opening : (e : List Mark) → IsLast e → (t : ℕ) → t < segments_so_far e → (h : Opened e t)
    → At e t h.mark h.before
at_opening e last t l h =
    let after : Later (h.mark ∷ h.before) e =
    subst (λ (xs : List Mark). Later xs e) h.opened (opening_later e t l) in
    let nests = nested e last in
    record {
      last = last;
      inside = l;
      opened = h.opened;
      opens_one = h.opens_one;
      number = h.number;
      proper = h.proper;
      ends = h.ends;
      grouped = later_grouped (h.mark ∷ h.before) e after last.grouped;
      after = after;
      later = later_rest h.mark h.before e after;
      place = read_in_place (table_at e) nests (grouped_table e last);
      nests = nests;
    }

-- how the latest segment closes, where this mark opens another
abbrev closing_by : Mark → List Mark → Closing
closing_by (Begins d i) b = closings.Creates (tasks_so_far b)
closing_by Ends b = closings.EndsTask
closing_by (Works cost) b = closings.EndsTask
closing_by Waits b = closings.Waits
closing_by GroupBegins b = closings.EndsTask
closing_by GroupEnds b = closings.EndsGroup

abbrev closing_from : List Mark → Closing
closing_from [] = closings.EndsTask
closing_from (m ∷ b) = closing_by m b

closes_now : (m : Mark) (e : List Mark) (s : ℕ) → opens m ≡ true → is_latest s e ≡ true
    → closing_of s (m ∷ e) ≡ closing_by m e
closes_now (Works cost) e s o r = absurd (grind arith)
closes_now GroupBegins e s o r = absurd (grind arith)
closes_now _ e s o r = rw r refl

closes_so : (e : List Mark) (t : ℕ) (m : Mark) (b : List Mark) → 0 < t → t < segments_so_far e
    → opening_of t e ≡ m ∷ b
    → closing_of (t - 1) e ≡ closing_by m b
closes_so [] t m b a l o = absurd (omega arith)
closes_so (k ∷ e) t m b a l o = elim (cases_lt t (segments_so_far e)) [
  | inl y ↦ (
      let not_latest : is_latest (t - 1) e ≡ false = grind (arith, nat_tests) in
      closing_stays k e (t - 1) not_latest
      ∙ closes_so e t m b a y (sym (opening_of-old k e t y) ∙ o))
  | inr y ↦
      let (r, is) = opens_now k e t l y in
      let same : k ∷ e ≡ m ∷ b =
      sym (opening_of-new k e r) ∙ ap (λ t. opening_of t (k ∷ e)) is ∙ o in
      let now : is_latest (t - 1) e ≡ true = grind (arith, nat_tests) in
      closes_now k e (t - 1) r now ∙ ap closing_from same
]

-- and so it is in the table
closing_at : (e : List Mark) (t : ℕ) (m : Mark) (b : List Mark) → At e t m b → 0 < t
    → (segment (table_at e) (t - 1)).closing ≡ closing_by m b
closing_at e t m b h a =
    ap (λ r. r.closing) (segment-at e (t - 1) (omega (arith, h.inside)))
    ∙ closes_so e t m b a h.inside h.opened

-- the task whose segment opens
task_is : (e : List Mark) (t : ℕ) (m : Mark) (b : List Mark) → At e t m b
    → (segment (table_at e) t).task ≡ running_task (m ∷ b)
task_is e t m b h = owner-at e t h.inside ∙ ap running_task h.opened

-- a segment of a task that had one continues the last that it had
continues_at : (e : List Mark) (t : ℕ) (m : Mark) (b : List Mark) → At e t m b
    → running_task (m ∷ b) < tasks_so_far b
    → Continues (table_at e) (last_of (running_task (m ∷ b)) b) t
continues_at e t m b h begun =
    continues_last e h.last.proper t h.inside (record {
      mark = m;
      before = b;
      opened = h.opened;
      opens_one = h.opens_one;
      number = h.number;
      proper = h.proper;
      ends = h.ends;
    }) (running_task (m ∷ b)) refl begun

-- which has the number before its own, where its task ran before the mark
continues_latest : (e : List Mark) (t : ℕ) (m : Mark) (b : List Mark) → At e t m b
    → running_task (m ∷ b) ≡ running_task b
    → 0 < length (open_tasks b)
    → (0 < t) × Continues (table_at e) (t - 1) t
continues_latest e t m b h same some =
    let proper = h.proper.1 in
    let below = running_below b some in
    let one = some_segment b proper some in
    let last : last_of (running_task (m ∷ b)) b ≡ t - 1 =
    omega (arith, ap (λ (u : ℕ). last_of u b) same, last_running b proper some, h.number) in (
      omega (arith, h.number),
      subst (λ (n : ℕ). Continues (table_at e) n t) last (continues_at e t m b h (omega arith)),
    )

-- the row of the task that begins where a segment opens
record New (e : List Mark) (d : Bool) (i : List Item) (b : List Mark) : Type 0 where
  is_task : IsTask (table_at e) (tasks_so_far b)
  is : task (table_at e) (tasks_so_far b) ≡ task_row e (Begins d i ∷ b)

new_task : (e : List Mark) (t : ℕ) (d : Bool) (i : List Item) (b : List Mark)
    → At e t (Begins d i) b
    → New e d i b
new_task e t d i b h =
    let u = tasks_so_far b in
    let one_more = tasks_begins d i b in
    let l : u < tasks_so_far e = omega (arith, tasks_grow (Begins d i ∷ b) e h.after) in
    record {
      is_task = omega (arith, tasks-at e);
      is = task-at e u l ∙ ap (task_row e)
          (beginnings_stay (Begins d i ∷ b) e h.after u (omega arith)
          ∙ beginning_of-new (Begins d i) b refl);
    }

created : (e : List Mark) (s t : ℕ) (d : Bool) (i : List Item) (b : List Mark)
    → At e t (Begins d i) b
    → IsLatest b s
    → Creation (table_at e) s t
created e s t d i b h l =
    let new = new_task e t d i b h in
    let before : segments_so_far b - 1 ≡ s = omega arith in
    record {
      child = tasks_so_far b;
      is_child = new.is_task;
      creator =
          ap (λ r. r.creator) new.is ∙ some_creator (segments_so_far b) (omega arith)
          ∙ ap Some before;
      first = ap (λ r. r.first) new.is ∙ h.number;
    }

-- the last segment of a task that has ended
last_row : (b e : List Mark) (u : ℕ) → Later b e → Row b e u → u < tasks_so_far b
    → All (λ x. x ≢ u) (open_tasks b)
    → (task (table_at e) u).last ≡ last_of u b
last_row b e u later r l gone = r.last ∙ (ended_stays b e later u l gone).last

depends : (e : List Mark) (s t : ℕ) (d : Bool) (i : List Item) (b : List Mark)
    → At e t (Begins d i) b
    → IsLastOf (λ other. items_conflict other i) (ended_of (running_task b) b) s
    → Dependence (table_at e) s t
depends e s t d i b h k =
    let new = new_task e t d i b h in
    let c = listed_is_child (λ other. items_conflict other i) (running_task b) b h.proper.1 s k in
    let r = row_of b e h.later h.last.proper c.child c.begun in
    let some = begun_open b h.proper.1 (omega (arith, c.begun)) in
    let T = table_at e in
    record {
      earlier = c.child;
      later = tasks_so_far b;
      is_later = new.is_task;
      depends = record {
        in_order = c.begun;
        siblings = r.parent ∙ c.parent
            ∙ sym (ap (λ r. r.parent) new.is ∙ slice_get-get_or (open_tasks b) 0 0 some);
        conflict = ap (λ (xs : List Item). items_conflict xs (task T (tasks_so_far b)).items)
            r.items
            ∙ ap (λ (xs : List Item). items_conflict (items_of c.child b) xs)
            (ap (λ r. r.items) new.is)
            ∙ c.items;
      };
      last = last_row b e c.child h.later r c.begun c.gone ∙ c.last;
      first = ap (λ r. r.first) new.is ∙ h.number;
    }

resumes : (e : List Mark) (s t : ℕ) (b : List Mark) → At e t Ends b
    → is_undeferred (running_task b) b ≡ true
    → IsLatest b s
    → Resumption (table_at e) s t
resumes e s t b h undeferred l =
    let u = running_task b in
    let two = h.proper.0 in
    let some : 0 < length (open_tasks b) = omega arith in
    let begun = running_below b some in
    let r = row_of b e h.later h.last.proper u begun in
    let is_child : IsTask (table_at e) u =
    omega (arith, tasks-at e, tasks_grow b e h.later) in
    let below = outer_below (open_tasks b) (open_tasks_descend b) 0 0
    (omega (arith, length-drop 1 (open_tasks b))) in
    let gone = above_top u (open_tasks (Ends ∷ b)) (open_tasks_descend (Ends ∷ b)) below in
    let rests : runs u (Ends ∷ b) ≡ false = idle u (open_tasks (Ends ∷ b)) gone in
    let same : last_of u (Ends ∷ b) ≡ last_of u b = rw rests refl in
    let last : (task (table_at e) u).last ≡ s =
    omega (
      arith,
      r.last,
      (ended_stays (Ends ∷ b) e h.after u begun gone).last,
      same,
      last_running b h.proper.1 some,
    ) in
    let made = h.place.below_root u (omega arith) is_child in
    let is : (task (table_at e) u).last + 1 ≡ t = omega (arith, h.number) in
    record {
      child = u;
      is_child = is_child;
      undeferred = r.undeferred ∙ undeferred;
      last = last;
      creator = made.creator;
      is_creator = made.is_creator;
      resumes = subst (λ (n : ℕ). Continues (table_at e) made.creator n) is
          (h.place.after_task u made.creator is_child made.is_creator);
    }

-- a child that had begun before the segment opened
earlier_child : (e : List Mark) (t : ℕ) (m : Mark) (b : List Mark) → At e t m b
    → (u : ℕ)
    → u < tasks_so_far b
    → slice_get (open_tasks (before_task u b)) 0 ≡ Some (running_task (m ∷ b))
    → IsEarlierChild (table_at e) u t
earlier_child e t m b h u l parent =
    let r = row_of b e h.later h.last.proper u l in
    let is_child : IsTask (table_at e) u = omega (arith, tasks-at e, tasks_grow b e h.later) in
    let made = h.place.has_creator u (running_task (m ∷ b)) is_child (r.parent ∙ parent) in
    let first = h.place.first_created u made.0 is_child made.1 in
    record {
      is_child = is_child;
      parent = r.parent ∙ parent ∙ ap Some (sym (task_is e t m b h));
      creator = made.0;
      is_creator = made.1;
      earlier = omega (arith, first, r.first, r.fewer, h.number);
    }

waits : (e : List Mark) (s t : ℕ) (b : List Mark) → At e t Waits b
    → IsLastOf any_items (ended_of (running_task b) b) s
    → Wait (table_at e) s t
waits e s t b h k =
    let c = listed_is_child any_items (running_task b) b h.proper.1 s k in
    let r = row_of b e h.later h.last.proper c.child c.begun in
    let runs_on = continues_latest e t Waits b h refl h.proper.0 in
    record {
      before = t - 1;
      waits = closing_at e t Waits b h runs_on.0;
      opens = runs_on.1;
      child = c.child;
      created = earlier_child e t Waits b h c.child c.begun c.parent;
      last = last_row b e c.child h.later r c.begun c.gone ∙ c.last;
    }

-- the innermost open group, where one ends
record Innermost (b : List Mark) : Type 0 where
  group : OpenGroup
  held : Has group (open_groups b)
  own : group.task ≡ running_task b
  counted : before_group (GroupEnds ∷ b) ≡ group.children_before
  listed : ended_in_first (open_groups b) b ≡ ended_in group.number b

innermost : (b : List Mark) → IsGrouped (GroupEnds ∷ b) → Innermost b
innermost b h = first (open_groups b) refl h.1.0
  where
    first : (groups : List OpenGroup) → open_groups b ≡ groups → 0 < length (open_groups b)
        → Innermost b
    first [] is some =
        absurd (omega (arith, ap (λ (xs : List OpenGroup). length xs) is))
    first (g ∷ outer) is some = record {
      group = g;
      held = subst (Has g) (sym is) (inl refl);
      own = ap (λ (xs : List OpenGroup). (innermost_of xs).task) (sym is) ∙ h.1.1;
      counted = ap innermost_children_before is;
      listed = ap (λ (xs : List OpenGroup). ended_in_first xs b) is;
    }

ends_group : (e : List Mark) (s t : ℕ) (b : List Mark) → At e t GroupEnds b
    → IsLastOf any_items (ended_in_first (open_groups b) b) s
    → GroupEnd (table_at e) s t
ends_group e s t b h k =
    let T = table_at e in
    let p = h.proper.1 in
    let grouped = h.grouped.2 in
    let some = h.proper.0 in
    let first = innermost b h.grouped in
    let g = first.group in
    let P : List Ended → Type 0 = λ xs. IsLastOf any_items xs s in
    let x = listed_is_ended g b p grouped first.held s (subst P first.listed k) in
    let open_now : Among g.task (open_tasks b) =
    subst (λ (u : ℕ). Among u (open_tasks b)) (sym first.own) (among_head (open_tasks b) some) in
    let below : g.task < tasks_so_far b = omega (arith, running_below b some, first.own) in
    let above = since_above b p grouped g first.held open_now below s x in
    let branch = branch_of b e h.later h.last.proper grouped g first.held open_now x.ended above
    x.begun x.since in
    let c = branch.child in
    let r = row_of b e h.later h.last.proper x.ended x.begun in
    let of_child = row_of b e h.later h.last.proper c branch.begun in
    let begun_some = begun_open (before_task c b) of_child.proper
    (omega (arith, branch.above, of_child.number)) in
    let parent : slice_get (open_tasks (before_task c b)) 0 ≡ Some (running_task b) =
    slice_get-get_or (open_tasks (before_task c b)) 0 0 begun_some
    ∙ ap Some (branch.own ∙ first.own) in
    let runs_on = continues_latest e t GroupEnds b h refl some in
    let count : (segment T t).children_before ≡ g.children_before =
    ap (λ r. r.children_before) (segment-at e t h.inside) ∙ ap before_group h.opened
    ∙ first.counted in
    record {
      child = c;
      encloses = record {
        before = t - 1;
        ends_group = closing_at e t GroupEnds b h runs_on.0;
        opens = runs_on.1;
        created = earlier_child e t GroupEnds b h c branch.begun parent;
        inside = omega (
          arith,
          count,
          of_child.siblings,
          since_counted b p grouped c branch.above branch.begun g first.held (sym branch.own)
              branch.since,
        );
      };
      descendant = x.ended;
      is_descendant = omega (arith, tasks-at e, tasks_grow b e h.later, x.begun);
      descends = branch.descends;
      last = last_row b e x.ended h.later r x.begun x.gone ∙ x.last;
    }

-- what a segment awaits must precede it
precedes : (e : List Mark) (s t : ℕ) (m : Mark) (b : List Mark) → At e t m b → AwaitsNow (m ∷ b) s
    → MustPrecede (table_at e) s t
precedes e s t (Begins d i) b h (inl l) = inr (inl (created e s t d i b h l))
precedes e s t (Begins d i) b h (inr k) = inr (inr (inr (inl (depends e s t d i b h k))))
precedes e s t Ends b h (inl last) =
    let two = h.proper.0 in
    let begun = running_below (Ends ∷ b) (omega (arith, length-drop 1 (open_tasks b))) in
    inl (subst (λ (n : ℕ). Continues (table_at e) n t) last
    (continues_at e t Ends b h (omega arith)))
precedes e s t Ends b h (inr k) = inr (inr (inl (resumes e s t b h k.0 k.1)))
precedes e s t (Works cost) b h k = absurd k
precedes e s t Waits b h (inr k) = inr (inr (inr (inr (inl (waits e s t b h k)))))
precedes e s t GroupBegins b h k = absurd k
precedes e s t GroupEnds b h (inr k) = inr (inr (inr (inr (inr (ends_group e s t b h k)))))
precedes e s t m b h (inl l) =
    let runs_on = continues_latest e t m b h refl h.proper.0 in
    let is : t - 1 ≡ s = omega (arith, h.number) in
    inl (subst (λ (n : ℕ). Continues (table_at e) n t) is runs_on.1)

-- the first segment of a task continues none
first_alone : (e : List Mark) (s t : ℕ) (d : Bool) (i : List Item) (b : List Mark)
    → At e t (Begins d i) b
    → Continues (table_at e) s t
    → ⊥
first_alone e s t d i b h k =
    let new = new_task e t d i b h in
    let is : t ≡ (task (table_at e) (tasks_so_far b)).first =
    sym (ap (λ r. r.first) new.is ∙ h.number) in
    h.place.first_follows (tasks_so_far b) s new.is_task
    (subst (λ (n : ℕ). Continues (table_at e) s n) is k)

latest_alone : (e : List Mark) (s t : ℕ) (m : Mark) (b : List Mark) → At e t m b
    → running_task (m ∷ b) ≡ running_task b
    → 0 < length (open_tasks b)
    → Continues (table_at e) s t
    → (s ≡ t - 1) × IsLatest b s
latest_alone e s t m b h same some k =
    let runs_on = continues_latest e t m b h same some in
    let is = h.place.follows_one s (t - 1) t k runs_on.1 in
    (is, omega (arith, runs_on.0, h.number))

awaits_continued : (e : List Mark) (s t : ℕ) (m : Mark) (b : List Mark) → At e t m b
    → Continues (table_at e) s t
    → AwaitsNow (m ∷ b) s
awaits_continued e s t (Begins d i) b h k = absurd (first_alone e s t d i b h k)
awaits_continued e s t Ends b h k =
    let two = h.proper.0 in
    let begun = running_below (Ends ∷ b) (omega (arith, length-drop 1 (open_tasks b))) in
    inl (sym (h.place.follows_one s _ t k (continues_at e t Ends b h (omega arith))))
awaits_continued e s t Waits b h k = inl (latest_alone e s t Waits b h refl h.proper.0 k).1
awaits_continued e s t GroupEnds b h k =
    inl (latest_alone e s t GroupEnds b h refl h.proper.0 k).1
awaits_continued e s t _ b h k =
    absurd (let opens_one : false ≡ true = h.opens_one in grind arith)

-- where a task's first segment opened
record First (e : List Mark) (u t : ℕ) : Type 0 where
  undeferred : Bool
  items : List Item
  before : List Mark
  opened : opening_of t e ≡ Begins undeferred items ∷ before
  first : segments_so_far before ≡ t
  number : u ≡ tasks_so_far before
  proper : IsProper before
  later : Later before e
  is : task (table_at e) u ≡ task_row e (Begins undeferred items ∷ before)

first_of : (e : List Mark) → IsProper e → (u t : ℕ) → u < tasks_so_far e
    → (task (table_at e) u).first ≡ t
    → First e u t
first_of e p u t l f =
    let begun = task_has_begun e p u l in
    let first : segments_so_far begun.earlier ≡ t = sym (first-at e u l begun) ∙ f in
    record {
      undeferred = begun.undeferred;
      items = begun.items;
      before = begun.earlier;
      opened = ap (λ (n : ℕ). opening_of n e) (sym first)
          ∙ first_opened e u l begun.undeferred begun.items begun.earlier begun.begins;
      first = first;
      number = begun.number;
      proper = begun.proper;
      later = later_rest (Begins begun.undeferred begun.items) begun.earlier e
          (subst (λ (xs : List Mark). Later xs e) begun.begins (beginning_later e u l));
      is = row e u l begun;
    }

awaits_creation : (e : List Mark) → IsLast e → (s t : ℕ) → Creation (table_at e) s t → Awaits e s t
awaits_creation e last s t k =
    let nests = nested e last in
    let place = read_in_place (table_at e) nests (grouped_table e last) in
    let l : k.child < tasks_so_far e = omega (arith, k.is_child, tasks-at e) in
    let x = first_of e last.proper k.child t l k.first in
    let made = place.first_created k.child s k.is_child k.creator in
    subst (λ (xs : List Mark). AwaitsNow xs s) (sym x.opened)
    (inl (omega (arith, x.first, made, k.first)))

awaits_dependence : (e : List Mark) → IsLast e → (s t : ℕ) → Dependence (table_at e) s t
    → Awaits e s t
awaits_dependence e last s t k =
    let T = table_at e in
    let nests = nested e last in
    let l : k.later < tasks_so_far e = omega (arith, k.is_later, tasks-at e) in
    let x = first_of e last.proper k.later t l k.first in
    let b = x.before in
    let c = k.earlier in
    let begun : c < tasks_so_far b = omega (arith, k.depends.in_order, x.number) in
    let r = row_of b e x.later last.proper c begun in
    let some = begun_open b x.proper (omega arith) in
    let parent : (task T c).parent ≡ Some (running_task b) =
    k.depends.siblings ∙ ap (λ r. r.parent) x.is ∙ slice_get-get_or (open_tasks b) 0 0 some in
    let is_child : IsTask T c = omega (arith, tasks-at e, k.depends.in_order, k.is_later) in
    let gone = above_top c (open_tasks b) (open_tasks_descend b)
    (parent_lower T nests c (running_task b) is_child parent) in
    let conflict : items_conflict (items_of c b) x.items ≡ true =
    ap (λ (xs : List Item). items_conflict xs x.items) (sym r.items)
    ∙ ap (λ (xs : List Item). items_conflict (task T c).items xs)
    (sym (ap (λ r. r.items) x.is))
    ∙ k.depends.conflict in
    let listed = child_is_listed (λ other. items_conflict other x.items) (running_task b) b x.proper
    s (record {
      child = c;
      begun = begun;
      gone = gone;
      parent = sym r.parent ∙ parent;
      items = conflict;
      last = sym (last_row b e c x.later r begun gone) ∙ k.last;
    }) in
    subst (λ (xs : List Mark). AwaitsNow xs s) (sym x.opened) (inr listed)

created_sooner : (e : List Mark) (s t : ℕ) (m : Mark) (b : List Mark) → At e t m b
    → running_task (m ∷ b) ≡ running_task b
    → 0 < length (open_tasks b)
    → Resumption (table_at e) s t
    → ⊥
created_sooner e s t m b h same some k =
    let next = h.place.one_follows k.creator t ((task (table_at e) k.child).last + 1) k.resumes
    (h.place.after_task k.child k.creator k.is_child k.is_creator) in
    let before = latest_alone e k.creator t m b h same some k.resumes in
    let sooner = h.place.created_before k.child k.creator k.is_child k.is_creator in
    omega (arith, before.0)

awaits_resumption : (e : List Mark) (s t : ℕ) (m : Mark) (b : List Mark) → At e t m b
    → Resumption (table_at e) s t
    → AwaitsNow (m ∷ b) s
awaits_resumption e s t (Begins d i) b h k = absurd (first_alone e k.creator t d i b h k.resumes)
awaits_resumption e s t Ends b h k =
    let T = table_at e in
    let two = h.proper.0 in
    let next = h.place.one_follows k.creator t ((task T k.child).last + 1) k.resumes
    (h.place.after_task k.child k.creator k.is_child k.is_creator) in
    let is : segments_so_far b - 1 ≡ s = omega (arith, h.number, k.last) in
    let inside : s < segments_so_far b = omega (arith, h.number, k.last) in
    let of_child : (segment T s).task ≡ k.child =
    ap (λ (n : ℕ). (segment T n).task) (sym k.last) ∙ (h.place.last_of k.child k.is_child).of_task in
    let ran : running_task b ≡ k.child =
    sym (latest_owner b) ∙ ap (owner b) is
    ∙ ap running_task (sym (openings_stay b e h.later s inside))
    ∙ sym (owner-at e s (omega (arith, h.inside, h.number)))
    ∙ of_child in
    let begun = running_below b (omega arith) in
    let r = row_of b e h.later h.last.proper (running_task b) begun in
    let undeferred : is_undeferred (running_task b) b ≡ true =
    sym r.undeferred ∙ ap (λ (u : ℕ). (task T u).undeferred) ran ∙ k.undeferred in
    inr (undeferred, omega arith)
awaits_resumption e s t Waits b h k = absurd (created_sooner e s t Waits b h refl h.proper.0 k)
awaits_resumption e s t GroupEnds b h k =
    absurd (created_sooner e s t GroupEnds b h refl h.proper.0 k)
awaits_resumption e s t _ b h k =
    absurd (let opens_one : false ≡ true = h.opens_one in grind arith)

-- a task whose last segment is before t had begun where t opened
begun_by : (e : List Mark) (t : ℕ) (m : Mark) (b : List Mark) → At e t m b
    → (u : ℕ)
    → IsTask (table_at e) u
    → (task (table_at e) u).last < t
    → u < tasks_so_far b
begun_by e t m b h u is_task before =
    let l : u < tasks_so_far e = omega (arith, tasks-at e) in
    let r = row_of e e Now h.last.proper u l in
    let segments = h.nests.segments u is_task in
    begun_before b e h.later u l (omega (arith, r.first, segments.in_order, h.number))

-- how a segment closes that the next number continues
closes_by : (e : List Mark) (s t : ℕ) (m : Mark) (b : List Mark) → At e t m b
    → Continues (table_at e) s t
    → Continues (table_at e) s (s + 1)
    → (segment (table_at e) s).closing ≡ closing_by m b
closes_by e s t m b h k next =
    let is = h.place.one_follows s t (s + 1) k next in
    let before : t - 1 ≡ s = omega arith in
    ap (λ (n : ℕ). (segment (table_at e) n).closing) (sym before)
    ∙ closing_at e t m b h (omega arith)

-- a child of the running task that ended before the segment opened
record EndedChild (e : List Mark) (t : ℕ) (b : List Mark) (c : ℕ) : Type 0 where
  begun : c < tasks_so_far b
  above : running_task b < c
  gone : All (λ x. x ≢ c) (open_tasks b)
  parent : slice_get (open_tasks (before_task c b)) 0 ≡ Some (running_task b)

ended_child : (e : List Mark) (t : ℕ) (m : Mark) (b : List Mark) → At e t m b
    → running_task (m ∷ b) ≡ running_task b
    → (c : ℕ)
    → IsEarlierChild (table_at e) c t
    → EndedChild e t b c
ended_child e t m b h same c k =
    let begun = begun_by e t m b h c k.is_child (child_up (table_at e) h.nests c t k) in
    let r = row_of b e h.later h.last.proper c begun in
    let parent : (task (table_at e) c).parent ≡ Some (running_task b) =
    k.parent ∙ ap Some (task_is e t m b h ∙ same) in
    let above = parent_lower (table_at e) h.nests c (running_task b) k.is_child parent in
    record {
      begun = begun;
      above = above;
      gone = above_top c (open_tasks b) (open_tasks_descend b) above;
      parent = sym r.parent ∙ parent;
    }

awaits_wait : (e : List Mark) (s t : ℕ) (m : Mark) (b : List Mark) → At e t m b
    → Wait (table_at e) s t
    → AwaitsNow (m ∷ b) s
awaits_wait e s t m b h k =
    by_mark m h (sym (closes_by e k.before t m b h k.opens
    (h.place.after_wait k.before k.opens.is_from k.waits)) ∙ k.waits)
  where
    by_mark : (m : Mark) → At e t m b → closing_by m b ≡ closings.Waits → AwaitsNow (m ∷ b) s
    by_mark (Begins d i) h is = absurd cc
    by_mark Ends h is = absurd cc
    by_mark (Works cost) h is = absurd cc
    by_mark GroupBegins h is = absurd cc
    by_mark GroupEnds h is = absurd cc
    by_mark Waits h is =
        let c = ended_child e t Waits b h refl k.child k.created in
        let r = row_of b e h.later h.last.proper k.child c.begun in
        inr (child_is_listed any_items (running_task b) b h.proper.1 s (record {
          child = k.child;
          begun = c.begun;
          gone = c.gone;
          parent = c.parent;
          items = refl;
          last = sym (last_row b e k.child h.later r c.begun c.gone) ∙ k.last;
        }))

-- a descendant of a child that was created in a group is listed where the group ends
listed_in_group : (e : List Mark) (s t : ℕ) (b : List Mark) → At e t GroupEnds b
    → GroupEnd (table_at e) s t
    → IsLastOf any_items (ended_in_first (open_groups b) b) s
listed_in_group e s t b h k =
    let T = table_at e in
    let p = h.proper.1 in
    let grouped = h.grouped.2 in
    let first = innermost b h.grouped in
    let g = first.group in
    let d = k.descendant in
    let created = k.encloses.created in
    let c = ended_child e t GroupEnds b h refl k.child created in
    let of_child = row_of b e h.later h.last.proper k.child c.begun in
    let inner = descendant_last T h.nests d k.child created.is_child k.descends in
    let before = child_up T h.nests k.child t created in
    let begun = begun_by e t GroupEnds b h d k.is_descendant (omega arith) in
    let later = ancestor_lower T h.nests d k.child k.descends in
    let child_above = c.above in
    let gone = above_top d (open_tasks b) (open_tasks_descend b) (omega arith) in
    let r = row_of b e h.later h.last.proper d begun in
    let parent : running_task (before_task k.child b) ≡ running_task b =
    get_or_from_slice_get (open_tasks (before_task k.child b)) 0 (running_task b) 0 c.parent in
    let count : (segment T t).children_before ≡ g.children_before =
    ap (λ r. r.children_before) (segment-at e t h.inside) ∙ ap before_group h.opened
    ∙ first.counted in
    let since = counted_since b p grouped k.child (omega arith) c.begun g first.held
    (first.own ∙ sym parent) (omega (arith, count, k.encloses.inside, of_child.siblings)) in
    let listed = ended_is_listed g.number b p s (record {
      ended = d;
      begun = begun;
      gone = gone;
      since = omega (arith, since, since_later b k.child d later begun);
      last = sym (last_row b e d h.later r begun gone) ∙ k.last;
    }) in
    subst (λ (xs : List Ended). IsLastOf any_items xs s) (sym first.listed) listed

awaits_group : (e : List Mark) (s t : ℕ) (m : Mark) (b : List Mark) → At e t m b
    → GroupEnd (table_at e) s t
    → AwaitsNow (m ∷ b) s
awaits_group e s t m b h k =
    by_mark m h (sym (closes_by e k.encloses.before t m b h k.encloses.opens
    (h.place.after_group k.encloses.before k.encloses.opens.is_from k.encloses.ends_group))
    ∙ k.encloses.ends_group)
  where
    by_mark : (m : Mark) → At e t m b → closing_by m b ≡ closings.EndsGroup → AwaitsNow (m ∷ b) s
    by_mark (Begins d i) h is = absurd cc
    by_mark Ends h is = absurd cc
    by_mark (Works cost) h is = absurd cc
    by_mark Waits h is = absurd cc
    by_mark GroupBegins h is = absurd cc
    by_mark GroupEnds h is = inr (listed_in_group e s t b h k)

-- what is awaited at the last moment must precede
pub awaited_precedes : (e : List Mark) → IsLast e → (s t : ℕ) → Awaits e s t
    → MustPrecede (table_at e) s t
awaited_precedes e last s t k = elim (cases_lt t (segments_so_far e)) [
  | inl l ↦ (
      let h = has_opened e last.proper t l in
      precedes e s t h.mark h.before (at_opening e last t l h)
      (subst (λ (xs : List Mark). AwaitsNow xs s) h.opened k))
  | inr l ↦ absurd (subst (λ (xs : List Mark). AwaitsNow xs s) (opening_of-none e t l) k)
]

-- it is enough to look at the mark with which a segment opened
awaits_at : (e : List Mark) → IsLast e → (s t : ℕ) → IsSegment (table_at e) t
    → ((m : Mark) (b : List Mark) → At e t m b → AwaitsNow (m ∷ b) s)
    → Awaits e s t
awaits_at e last s t is_segment f =
    let l : t < segments_so_far e = omega (arith, segments-at e) in
    let h = has_opened e last.proper t l in
    subst (λ (xs : List Mark). AwaitsNow xs s) (sym h.opened)
    (f h.mark h.before (at_opening e last t l h))

-- and what must precede is awaited
pub preceding_is_awaited : (e : List Mark) → IsLast e → (s t : ℕ) → MustPrecede (table_at e) s t
    → Awaits e s t
preceding_is_awaited e last s t (inl k) =
    awaits_at e last s t k.is_to (λ m b h. awaits_continued e s t m b h k)
preceding_is_awaited e last s t (inr (inl k)) = awaits_creation e last s t k
preceding_is_awaited e last s t (inr (inr (inl k))) =
    awaits_at e last s t k.resumes.is_to (λ m b h. awaits_resumption e s t m b h k)
preceding_is_awaited e last s t (inr (inr (inr (inl k)))) = awaits_dependence e last s t k
preceding_is_awaited e last s t (inr (inr (inr (inr (inl k))))) =
    awaits_at e last s t k.opens.is_to (λ m b h. awaits_wait e s t m b h k)
preceding_is_awaited e last s t (inr (inr (inr (inr (inr k))))) =
    awaits_at e last s t k.encloses.opens.is_to (λ m b h. awaits_group e s t m b h k)
