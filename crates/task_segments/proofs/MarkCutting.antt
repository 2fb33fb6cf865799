-- What a cutter that takes marks holds after one more of them.
use Rattle.std.proofs.Common.{ℕ, ◌+◌, ◌-◌, ◌<◌, ◌≤◌, ◌≡◌, ◌∙◌, List, [], ◌∷◌, Some, length}
use Rattle.std.proofs.Common.{get_or, map, reverse, drop, take, ◌++◌, refl, sym, ap, arith, Bool, false}
use Rattle.std.specs.Prelude.{Vec}
use Rattle.std.specs.Global.{Global}
use Rattle.std.specs.List.{slice_get, count_by}
use Rattle.std.specs.Option.{option_map}
use Rattle.std.proofs.lemmas.Grind.{take_at_read}
use Rattle.std.proofs.lemmas.List.{get_or-reverse, length-map, length-reverse, reverse-append}
use Rattle.std.proofs.lemmas.List.{take_all}
use Rattle.std.proofs.lemmas.List.Sums.{sum_by-cons}
use Rattle.std.proofs.lemmas.Option.{get_or_from_slice_get, slice_get-get_or, slice_get_within}
use Rattle.program_text.specs.declared.statement.Item.{Item}
use Rattle.program_text.specs.declared.limits.TheConstants.{MOST_WORK}
use Rattle.task_program.specs.Limits.{work_of, work_done}
use Rattle.task_program.specs.Marks.{Mark}
use Rattle.task_program.specs.Marks.Mark.{Begins, Ends, GroupBegins, GroupEnds}
use Rattle.task_segments.specs.declared.mark_cutter.GroupRow.{GroupRow}
use Rattle.task_segments.specs.declared.mark_cutter.MarkCutter.{MarkCutter}
use Rattle.task_segments.specs.declared.table.Segment.{Segment}
use Rattle.task_segments.specs.Cutting.{Cuts, HasRoom, innermost_open, group_rows}
use Rattle.task_segments.specs.MarkCutting.{Tables, HasRoomForOne, AreWithin, held_group}
use Rattle.task_segments.specs.MarksTable.{IsReading}
use Rattle.task_program.specs.Nested.{IsNested}
use Rattle.task_segments.proofs.LastMoment.{count_read}
use Rattle.task_segments.specs.Moments.{OpenGroup, open_groups, open_tasks, running_task}
use Rattle.task_segments.specs.Moments.{opens, begins_task, begins_group, before_group}
use Rattle.task_segments.specs.Moments.{tasks_so_far, groups_so_far, children_of}
use Rattle.task_segments.specs.Moments.{innermost_children_before, last_moment}
use Rattle.task_segments.proofs.Cuts.{tasks-count, group_rows-length}
use Rattle.task_segments.proofs.Rows.{open_group_below, rows-length}
use Rattle.task_segments.proofs.Steps.{count-cons, open_below}
use Rattle.task_segments.proofs.Walks.{task_within}

-- the task that runs
pub runs_now : (c : MarkCutter) (e : List Mark) → Tables c e → running_task e ≡ c.running
runs_now c e h = ap (λ (tasks : List ℕ). get_or tasks 0 0) h.tasks

pub running_has_row : (c : MarkCutter) (e : List Mark)
    → Tables c e
    → c.running < length c.cutter.tasks.items
running_has_row c e h = task_within c.cutter e c.running h.cuts (runs_now c e h)

first_number : (groups : List OpenGroup)
    → option_map (λ (group : OpenGroup). group.number) (slice_get groups 0)
    ≡ option_map (λ (group : GroupRow). group.number) (slice_get (map held_group groups) 0)
first_number [] = refl
first_number (group ∷ groups) = refl

-- the innermost group
pub inside_now : (c : MarkCutter) (e : List Mark)
    → Tables c e
    → innermost_open e
    ≡ option_map (λ (group : GroupRow). group.number) (slice_get (reverse c.groups.items) 0)
inside_now c e h =
    first_number (open_groups e)
    ∙ ap
    (λ (groups : List GroupRow).
    option_map (λ (group : GroupRow). group.number) (slice_get groups 0))
    h.groups

-- what was put last is the first of the list turned round
pub last_first : (groups : List GroupRow) (group : GroupRow)
    → slice_get groups (length groups - 1) ≡ Some group
    → slice_get (reverse groups) 0 ≡ Some group
last_first groups group is =
    let inside = slice_get_within groups (length groups - 1) group is in
    let at_end : length groups - 1 - 0 ≡ length groups - 1 = omega arith in
    slice_get-get_or (reverse groups) 0 group (omega (arith, inside, length-reverse groups))
    ∙ ap Some
    (get_or-reverse groups 0 group (omega (arith, inside))
    ∙ ap (λ (place : ℕ). get_or groups place group) at_end
    ∙ get_or_from_slice_get groups (length groups - 1) group group is)

-- what was put last, and what stands before it
pub last_leaves : {X : Type 0} (items : List X) (x : X)
    → x ≡ get_or items (length items - 1) x
    → 0 < length items
    → reverse items ≡ x ∷ reverse (take (length items - 1) items)
last_leaves items x is some =
    let i = length items - 1 in
    let next : length items ≡ i + 1 = omega (arith, some) in
    let whole : items ≡ take i items ++ x ∷ [] =
    sym (take_all (length items) items (omega arith))
    ∙ ap (λ (n : ℕ). take n items) next
    ∙ (take_at_read items i x (omega (arith, some))).1
    ∙ ap (λ y. take i items ++ y ∷ []) (sym is) in
    ap (λ xs. reverse xs) whole ∙ reverse-append (take i items) (x ∷ [])

-- a group is open
pub some_group : (c : MarkCutter) (e : List Mark)
    → Tables c e
    → 1 ≤ length (open_groups e)
    → 0 < length c.groups.items
some_group c e h some =
    omega (
      arith,
      some,
      ap (λ (groups : List GroupRow). length groups) h.groups,
      length-map (open_groups e) held_group,
      length-reverse c.groups.items,
    )

-- the running task has a parent
pub some_outer : (c : MarkCutter) (e : List Mark)
    → Tables c e
    → 2 ≤ length (open_tasks e)
    → 0 < length c.outer.items
some_outer c e h some =
    omega (
      arith,
      some,
      ap (λ (tasks : List ℕ). length tasks) h.tasks,
      length-reverse c.outer.items,
    )

abbrev first_before : List GroupRow → ℕ
first_before [] = 0
first_before (group ∷ groups) = group.children_before

same_before : (groups : List OpenGroup)
    → innermost_children_before groups ≡ first_before (map held_group groups)
same_before [] = refl
same_before (group ∷ groups) = refl

-- the innermost group is the one that was put last
pub record IsInnermost (c : MarkCutter) (e : List Mark) (group : GroupRow) : Type 0 where
  pub number : innermost_open e ≡ Some group.number
  pub before : before_group (GroupEnds ∷ e) ≡ group.children_before
  pub has_row : group.number < length c.cutter.groups.items

pub last_group : (c : MarkCutter) (e : List Mark) (group : GroupRow) (rest : List GroupRow)
    → Tables c e
    → reverse c.groups.items ≡ group ∷ rest
    → IsInnermost c e group
last_group c e group rest h was =
    let innermost : innermost_open e ≡ Some group.number =
    inside_now c e h
    ∙ ap
    (λ (groups : List GroupRow).
    option_map (λ (group : GroupRow). group.number) (slice_get groups 0))
    was in
    let len : length c.cutter.groups.items ≡ length (group_rows e) =
    ap (λ (rows : List ℕ). length rows) h.cuts.groups in
    record {
      number = innermost;
      before = same_before (open_groups e) ∙ ap first_before (h.groups ∙ was);
      has_row = omega (arith, len, open_group_below e group.number innermost);
    }

-- after the beginning of a task
pub takes_begins : (c n : MarkCutter) (e : List Mark) (undeferred : Bool) (items : List Item)
    → Tables c e
    → Cuts n.cutter (Begins undeferred items ∷ e)
    → n.running ≡ tasks_so_far e
    → reverse n.outer.items ≡ c.running ∷ reverse c.outer.items
    → n.groups ≡ c.groups
    → Tables n (Begins undeferred items ∷ e)
takes_begins c n e undeferred items h cuts runs outer groups = record {
  cuts = cuts;
  tasks = ap (λ (tasks : List ℕ). tasks_so_far e ∷ tasks) (h.tasks ∙ sym outer)
      ∙ ap (λ (task : ℕ). task ∷ reverse n.outer.items) (sym runs);
  groups = h.groups ∙ ap (λ (v : Vec GroupRow Global). reverse v.items) (sym groups);
}

-- after the end of a task
pub takes_ends : (c n : MarkCutter) (e : List Mark) (parent : ℕ) (rest : List ℕ)
    → Tables c e
    → reverse c.outer.items ≡ parent ∷ rest
    → Cuts n.cutter (Ends ∷ e)
    → n.running ≡ parent
    → reverse n.outer.items ≡ rest
    → n.groups ≡ c.groups
    → Tables n (Ends ∷ e)
takes_ends c n e parent rest h was cuts runs outer groups = record {
  cuts = cuts;
  tasks = ap (drop 1) h.tasks ∙ was ∙ ap (λ (task : ℕ). task ∷ rest) (sym runs)
      ∙ ap (λ (tasks : List ℕ). n.running ∷ tasks) (sym outer);
  groups = h.groups ∙ ap (λ (v : Vec GroupRow Global). reverse v.items) (sym groups);
}

-- the parent of the running task, which is put last
pub parent_runs : (c : MarkCutter) (e : List Mark) (parent : ℕ) (rest : List ℕ)
    → Tables c e
    → reverse c.outer.items ≡ parent ∷ rest
    → running_task (Ends ∷ e) ≡ parent
parent_runs c e parent rest h was =
    ap (λ (tasks : List ℕ). get_or (drop 1 tasks) 0 0) h.tasks
    ∙ ap (λ (tasks : List ℕ). get_or tasks 0 0) was

-- it has a row
pub parent_has_row : (c : MarkCutter) (e : List Mark) (parent : ℕ) (rest : List ℕ)
    → Tables c e
    → reverse c.outer.items ≡ parent ∷ rest
    → parent < length c.cutter.tasks.items
parent_has_row c e parent rest h was =
    let open_are : open_tasks e ≡ c.running ∷ (parent ∷ rest) =
    h.tasks ∙ ap (λ (tasks : List ℕ). c.running ∷ tasks) was in
    let second : get_or (open_tasks e) 1 0 ≡ parent =
    ap (λ (tasks : List ℕ). get_or tasks 1 0) open_are in
    let long = ap (λ (tasks : List ℕ). length tasks) open_are in
    omega (arith, open_below e 1 0 (omega (arith, long)), second, tasks-count c.cutter e h.cuts)

-- after the beginning of a group
pub takes_group_begins : (c n : MarkCutter) (e : List Mark) (group : GroupRow)
    → Tables c e
    → Cuts n.cutter (GroupBegins ∷ e)
    → n.running ≡ c.running
    → n.outer ≡ c.outer
    → reverse n.groups.items ≡ group ∷ reverse c.groups.items
    → group.number ≡ groups_so_far e
    → group.children_before ≡ children_of (running_task e) e
    → Tables n (GroupBegins ∷ e)
takes_group_begins c n e group h cuts runs outer groups number before = record {
  cuts = cuts;
  tasks = h.tasks ∙ ap (λ (task : ℕ). task ∷ reverse c.outer.items) (sym runs)
      ∙ ap (λ (v : Vec ℕ Global). n.running ∷ reverse v.items) (sym outer);
  groups = ap
      (λ (number : ℕ). record {
        number = number;
        children_before = children_of (running_task e) e;
      }
      ∷ map held_group (open_groups e))
      (sym number)
      ∙ ap
      (λ (before : ℕ). record { number = group.number; children_before = before }
      ∷ map held_group (open_groups e))
      (sym before)
      ∙ ap (λ (held : List GroupRow). group ∷ held) h.groups ∙ sym groups;
}

rest_held : (groups : List OpenGroup) → map held_group (drop 1 groups) ≡ drop 1 (map held_group groups)
rest_held [] = refl
rest_held (group ∷ groups) = refl

-- after the end of a group
pub takes_group_ends : (c n : MarkCutter) (e : List Mark) (group : GroupRow) (rest : List GroupRow)
    → Tables c e
    → reverse c.groups.items ≡ group ∷ rest
    → Cuts n.cutter (GroupEnds ∷ e)
    → n.running ≡ c.running
    → n.outer ≡ c.outer
    → reverse n.groups.items ≡ rest
    → Tables n (GroupEnds ∷ e)
takes_group_ends c n e group rest h was cuts runs outer groups = record {
  cuts = cuts;
  tasks = h.tasks ∙ ap (λ (task : ℕ). task ∷ reverse c.outer.items) (sym runs)
      ∙ ap (λ (v : Vec ℕ Global). n.running ∷ reverse v.items) (sym outer);
  groups = rest_held (open_groups e) ∙ ap (drop 1) (h.groups ∙ was) ∙ sym groups;
}

one_at_most : (p : Mark → Bool) (mark : Mark) → count_by p (mark ∷ []) ≤ 1
one_at_most p mark = grind (arith, count-cons)

-- where there is room for one more row of each kind, and for the work, the next mark can be read
pub room_for_one : (c : MarkCutter) (e : List Mark) (mark : Mark)
    → Tables c e
    → HasRoomForOne c
    → work_of e + work_done mark ≤ MOST_WORK
    → HasRoom c.cutter (mark ∷ [])
room_for_one c e mark h room work =
    let segments = ap (λ (rows : List Segment). length rows) h.cuts.segments ∙ rows-length e in
    let groups = ap (λ (rows : List ℕ). length rows) h.cuts.groups ∙ group_rows-length e in
    record {
      moment = e;
      cuts = h.cuts;
      segments = omega (arith, room.segments, segments, one_at_most opens mark);
      tasks = omega (arith, room.tasks, tasks-count c.cutter e h.cuts, one_at_most begins_task mark);
      groups = omega (arith, room.groups, groups, one_at_most begins_group mark);
      work = omega (arith, work, sum_by-cons work_done mark []);
    }

-- marks that were taken can be cut, where the rows and the work are within the limits
pub is_whole : (c : MarkCutter) (marks : List Mark)
    → IsNested marks
    → Tables c (last_moment marks)
    → AreWithin c
    → work_of marks ≤ MOST_WORK
    → IsReading marks
is_whole c marks nested h within work =
    let e = last_moment marks in
    let segments = ap (λ (rows : List Segment). length rows) h.cuts.segments ∙ rows-length e in
    let start : List Mark = Begins false [] ∷ [] in
    record {
      nested = nested;
      tasks = omega (
        arith,
        within.tasks,
        tasks-count c.cutter e h.cuts,
        count_read begins_task start marks,
      );
      segments = omega (arith, within.segments, segments, count_read opens start marks);
      work = work;
    }
