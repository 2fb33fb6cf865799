-- The tasks that are listed as ended in a group are those that began since the group did and have
-- ended: the descendants of the children that the group's task created in it.
use Rattle.std.proofs.Common.{◌≡◌, ◌≢◌, ◌⊎◌, ℕ, ◌+◌, ◌<◌, ◌≤◌, true, false, eqb, ◌&&◌}
use Rattle.std.proofs.Common.{List, [], ◌∷◌, ◌++◌, length, length-drop, drop, refl, sym, ap}
use Rattle.std.proofs.Common.{subst, ◌∙◌, inl, inr, arith, zero, suc}
use Rattle.std.specs.List.{All}
use Rattle.std.proofs.lemmas.Bool.Decides.{nat_tests}
use Rattle.std.proofs.lemmas.Bool.{cases_lt, cases_Bool, cases_eq}
use Rattle.std.proofs.lemmas.Option.{slice_get-get_or}
use Rattle.std.proofs.lemmas.List.Elements.{All-tail}
use Rattle.task_program.specs.Marks.{Mark}
use Rattle.task_program.specs.Marks.Mark.{Begins, Ends, Works, Waits, GroupBegins, GroupEnds}
use Rattle.task_segments.specs.Moments.{OpenGroup, begins_task, begins_group}
use Rattle.task_segments.specs.Moments.{tasks_so_far, groups_so_far, open_tasks, open_groups}
use Rattle.task_segments.specs.Moments.{running_task, runs, children_of, last_of}
use Rattle.task_segments.specs.Moments.{IsProper}
use Rattle.task_segments.specs.Table.{table_at}
use Rattle.task_segments.specs.Precedence.{Descends}
use Rattle.task_segments.specs.Precedence.Descends.{Itself, Below}
use Rattle.task_segments.proofs.Steps.{count-cons, running_below, beginning_of-old, tasks_begins}
use Rattle.task_segments.proofs.Places.{open_tasks_descend}
use Rattle.task_segments.proofs.Rows.{groups_below}
use Rattle.task_segments.proofs.Facts.{tasks-at}
use Rattle.task_segments.proofs.Grouping.{IsGrouped, fits, Among, among_head, before_task}
use Rattle.task_segments.proofs.Grouping.{groups_stay_open, begun_open}
use Rattle.task_segments.proofs.Grouping.{groups_at_later_moment, children_are_counted, tasks_below}
use Rattle.task_segments.proofs.Grouping.{among_top}
use Rattle.online_span.specs.Awaiting.{Ended, IsLastOf, any_items, ended_in, latest}
use Rattle.online_span.proofs.Last.{last_running}
use Rattle.online_span.proofs.Held.{outer_below}
use Rattle.online_span.proofs.Later.{Later, ended_stays, idle, tasks_grow}
use Rattle.online_span.proofs.Later.Later.{Now, More}
use Rattle.online_span.proofs.Children.{tasks_more, not_top}
use Rattle.online_span.proofs.Began.{row_of, among_gone, was_open, before_within}
use Rattle.online_span.proofs.Began.{later_proper, later_grouped}

-- one of these groups
abbrev pub Has : OpenGroup → List OpenGroup → Type 0
Has g [] = ⊥
Has g (x ∷ groups) = (x ≡ g) ⊎ Has g groups

has_all : (P : OpenGroup → Type 0) (g : OpenGroup) (groups : List OpenGroup) → All P groups
    → Has g groups
    → P g
has_all P g [] all h = absurd h
has_all P g (x ∷ groups) all (inl is) = subst P is (all 0 x (omega arith))
has_all P g (x ∷ groups) all (inr h) = has_all P g groups (All-tail P x groups all) h

has_part : (g : OpenGroup) (some more : List OpenGroup) → Has g (some ++ more)
    → Has g some ⊎ Has g more
has_part g [] more h = inr h
has_part g (x ∷ some) more (inl is) = inl (inl is)
has_part g (x ∷ some) more (inr h) =
    elim (has_part g some more h) [ inl k ↦ inl (inr k) | inr k ↦ inr k ]

has_later : (g : OpenGroup) (some more : List OpenGroup) → Has g more → Has g (some ++ more)
has_later g [] more h = h
has_later g (x ∷ some) more h = inr (has_later g some more h)

has_rest : (g : OpenGroup) (groups : List OpenGroup) → Has g (drop 1 groups) → Has g groups
has_rest g [] h = h
has_rest g (x ∷ groups) h = inr h

groups_before : (u : ℕ) (e : List Mark) → groups_so_far (before_task u e) ≤ groups_so_far e
groups_before u [] = omega arith
groups_before u (m ∷ e) = elim (cases_Bool (begins_task m && eqb (tasks_so_far e) u)) [
  | inl r ↦ rw r (omega (arith, count-cons begins_group m e))
  | inr r ↦ rw r (omega (arith, count-cons begins_group m e, groups_before u e))
]

-- an open task that is numbered above the task of an open group began since that group did
open_since : (e : List Mark) → IsProper e → IsGrouped e → (u : ℕ) → Among u (open_tasks e)
    → (g : OpenGroup)
    → Has g (open_groups e)
    → g.task < u
    → g.number < groups_so_far (before_task u e)
open_since e p h u a g k l =
    let held = groups_stay_open e p h u a in
    elim (has_part g held.mine (open_groups (before_task u e)) (subst (Has g) held.are k)) [
      | inl own ↦ (
          let high = has_all (λ (x : OpenGroup). u ≤ x.task) g held.mine held.own own in
          absurd (omega arith))
      | inr outer ↦
          has_all (λ (x : OpenGroup). x.number < groups_so_far (before_task u e)) g
          (open_groups (before_task u e)) (groups_below (before_task u e)) outer
    ]

-- a task that began since the group did, and has ended with segment s
pub record EndedSince (group : ℕ) (e : List Mark) (s : ℕ) : Type 0 where
  pub ended : ℕ
  pub begun : ended < tasks_so_far e
  pub gone : All (λ x. x ≢ ended) (open_tasks e)
  pub since : group < groups_so_far (before_task ended e)
  pub last : last_of ended e ≡ s

began_same : (m : Mark) (e : List Mark) (u : ℕ) → u < tasks_so_far e
    → groups_so_far (before_task u (m ∷ e)) ≡ groups_so_far (before_task u e)
began_same m e u l =
    ap (λ (xs : List Mark). groups_so_far (drop 1 xs)) (beginning_of-old m e u l)

since_more : (m : Mark) (group : ℕ) (e : List Mark) (s : ℕ) → EndedSince group e s
    → EndedSince group (m ∷ e) s
since_more m group e s h =
    let over = ended_stays e (m ∷ e) (More m e Now) h.ended h.begun h.gone in
    record {
      ended = h.ended;
      begun = omega (arith, h.begun, tasks_more m e);
      gone = over.gone;
      since = omega (arith, h.since, began_same m e h.ended h.begun);
      last = over.last ∙ h.last;
    }

since_less : (m : Mark) (group : ℕ) (e : List Mark) (s : ℕ) → (h : EndedSince group (m ∷ e) s)
    → h.ended < tasks_so_far e
    → All (λ x. x ≢ h.ended) (open_tasks e)
    → EndedSince group e s
since_less m group e s h l gone =
    let over = ended_stays e (m ∷ e) (More m e Now) h.ended l gone in
    record {
      ended = h.ended;
      begun = l;
      gone = gone;
      since = omega (arith, h.since, began_same m e h.ended l);
      last = sym over.last ∙ h.last;
    }

-- the running task, where it ends in an open group
since_now : (g : OpenGroup) (e : List Mark) → IsProper (Ends ∷ e) → IsGrouped (Ends ∷ e)
    → Has g (open_groups e)
    → EndedSince g.number (Ends ∷ e) (latest e)
since_now g e q h k =
    let u = running_task e in
    let some : 0 < length (open_tasks e) = omega (arith, q.0) in
    let low = outer_below (open_tasks e) (open_tasks_descend e) in
    let gone : All (λ x. x ≢ u) (open_tasks (Ends ∷ e)) = λ j d l x.
    let below = low j d l in omega arith in
    let rests : runs u (Ends ∷ e) ≡ false = idle u (open_tasks (Ends ∷ e)) gone in
    let parent_below = low 0 0 (omega (arith, q.0, length-drop 1 (open_tasks e))) in
    let fit = has_all (λ (x : OpenGroup). x.task ≤ running_task (Ends ∷ e)) g (open_groups e)
    (fits (Ends ∷ e) h) k in
    record {
      ended = u;
      begun = running_below e some;
      gone = gone;
      since = open_since e q.1 h.2 u (among_head (open_tasks e) some) g k (omega arith);
      last = rw rests (last_running e q.1 some);
    }

-- who is listed as ended in an open group began since the group did, and has ended
pub listed_is_ended : (g : OpenGroup) (e : List Mark) → IsProper e → IsGrouped e
    → Has g (open_groups e)
    → (s : ℕ)
    → IsLastOf any_items (ended_in g.number e) s
    → EndedSince g.number e s
listed_is_ended g [] q h k s l = absurd l
listed_is_ended g (Begins d i ∷ e) q h k s l =
    since_more (Begins d i) g.number e s (listed_is_ended g e q.1 h.2 k s l)
listed_is_ended g (Ends ∷ e) q h k s (inl now) =
    subst (EndedSince g.number (Ends ∷ e)) now.1 (since_now g e q h k)
listed_is_ended g (Ends ∷ e) q h k s (inr l) =
    since_more Ends g.number e s (listed_is_ended g e q.1 h.2 k s l)
listed_is_ended g (Works cost ∷ e) q h k s l =
    since_more (Works cost) g.number e s (listed_is_ended g e q.1 h.2 k s l)
listed_is_ended g (Waits ∷ e) q h k s l =
    since_more Waits g.number e s (listed_is_ended g e q.1 h.2 k s l)
listed_is_ended g (GroupBegins ∷ e) q h (inl new) s l =
    let own : groups_so_far e ≡ g.number = ap (λ (x : OpenGroup). x.number) new in
    let here : eqb (groups_so_far e) g.number ≡ true = grind (arith, nat_tests) in
    let P : List Ended → Type 0 = λ xs. IsLastOf any_items xs s in
    let none : ended_in g.number (GroupBegins ∷ e) ≡ [] = rw here refl in
    absurd (subst P none l)
listed_is_ended g (GroupBegins ∷ e) q h (inr k) s l =
    let older = has_all (λ (x : OpenGroup). x.number < groups_so_far e) g (open_groups e)
    (groups_below e) k in
    let other : eqb (groups_so_far e) g.number ≡ false = grind (arith, nat_tests) in
    let P : List Ended → Type 0 = λ xs. IsLastOf any_items xs s in
    let same : ended_in g.number (GroupBegins ∷ e) ≡ ended_in g.number e = rw other refl in
    since_more GroupBegins g.number e s (listed_is_ended g e q.1 h.2 k s (subst P same l))
listed_is_ended g (GroupEnds ∷ e) q h k s l =
    since_more GroupEnds g.number e s
    (listed_is_ended g e q.1 h.2 (has_rest g (open_groups e) k) s l)

-- and who began since the group did, and has ended, is listed
pub ended_is_listed : (group : ℕ) (e : List Mark) → IsProper e → (s : ℕ) → EndedSince group e s
    → IsLastOf any_items (ended_in group e) s
ended_is_listed group [] q s h = absurd (omega (arith, h.begun))
ended_is_listed group (Begins d i ∷ e) q s h =
    let other = h.gone 0 0 (omega arith) in
    ended_is_listed group e q.1 s (since_less (Begins d i) group e s h
    (omega (arith, h.begun, tasks_begins d i e, other))
    (All-tail (λ x. x ≢ h.ended) (tasks_so_far e) (open_tasks e) h.gone))
ended_is_listed group (Ends ∷ e) q s h =
    by_task (ended_is_listed group e q.1 s) (cases_eq (running_task e) h.ended)
  where
    by_task : (EndedSince group e s → IsLastOf any_items (ended_in group e) s)
        → (running_task e ≡ h.ended) ⊎ (running_task e ≢ h.ended)
        → IsLastOf any_items (ended_in group (Ends ∷ e)) s
    by_task f (inl is) =
        let some : 0 < length (open_tasks e) = omega (arith, q.0) in
        let rests : runs h.ended (Ends ∷ e) ≡ false = idle h.ended (open_tasks (Ends ∷ e)) h.gone in
        let last : last_of h.ended (Ends ∷ e) ≡ last_of h.ended e = rw rests refl in
        let now : latest e ≡ s =
        sym (last_running e q.1 some) ∙ ap (λ (u : ℕ). last_of u e) is ∙ sym last ∙ h.last in
        inl (refl, now)
    by_task f (inr other) =
        inr (f (since_less Ends group e s h h.begun (not_top (open_tasks e) h.ended other h.gone)))
ended_is_listed group (Works cost ∷ e) q s h =
    ended_is_listed group e q.1 s (since_less (Works cost) group e s h h.begun h.gone)
ended_is_listed group (Waits ∷ e) q s h =
    ended_is_listed group e q.1 s (since_less Waits group e s h h.begun h.gone)
ended_is_listed group (GroupBegins ∷ e) q s h =
    let began = groups_before h.ended e in
    let since : group < groups_so_far (before_task h.ended e) = h.since in
    let other : eqb (groups_so_far e) group ≡ false = grind (arith, nat_tests) in
    rw other (ended_is_listed group e q.1 s (since_less GroupBegins group e s h h.begun h.gone))
ended_is_listed group (GroupEnds ∷ e) q s h =
    ended_is_listed group e q.1 s (since_less GroupEnds group e s h h.begun h.gone)

-- an open group was open wherever a task has begun since
held_before : (b : List Mark) → IsProper b → IsGrouped b → (u : ℕ) → 0 < u → u < tasks_so_far b
    → (g : OpenGroup)
    → Has g (open_groups b)
    → g.number < groups_so_far (before_task u b)
    → Has g (open_groups (before_task u b))
held_before b p h u above l g k since =
    let past = groups_at_later_moment b p h u above l in
    elim (has_part g past.added past.left (subst (Has g) past.now k)) [
      | inl new ↦ (
          let later = (has_all
          (λ (x : OpenGroup). (groups_so_far (before_task u b) ≤ x.number)
          × (x.task ≡ running_task (before_task u b)
          → children_of (running_task (before_task u b)) (before_task u b) < x.children_before))
          g past.added past.newer new).0 in
          absurd (omega arith))
      | inr left ↦ subst (Has g) (sym past.parts) (has_later g past.gone past.left left)
    ]

-- A child of the task of an open group began since the group did where it has at least as many
-- earlier siblings as the task had children when the group began.
pub counted_since : (b : List Mark) → IsProper b → IsGrouped b → (u : ℕ) → 0 < u
    → u < tasks_so_far b
    → (g : OpenGroup)
    → Has g (open_groups b)
    → g.task ≡ running_task (before_task u b)
    → g.children_before ≤ children_of (running_task (before_task u b)) (before_task u b)
    → g.number < groups_so_far (before_task u b)
counted_since b p h u above l g k own counted =
    let past = groups_at_later_moment b p h u above l in
    elim (has_part g past.added past.left (subst (Has g) past.now k)) [
      | inl new ↦ (
          let more = (has_all
          (λ (x : OpenGroup). (groups_so_far (before_task u b) ≤ x.number)
          × (x.task ≡ running_task (before_task u b)
          → children_of (running_task (before_task u b)) (before_task u b) < x.children_before))
          g past.added past.newer new).1 own in
          absurd (omega arith))
      | inr left ↦ (
          let there : Has g (open_groups (before_task u b)) =
          subst (Has g) (sym past.parts) (has_later g past.gone past.left left) in
          has_all (λ (x : OpenGroup). x.number < groups_so_far (before_task u b)) g
          (open_groups (before_task u b)) (groups_below (before_task u b)) there)
    ]

-- and only there
pub since_counted : (b : List Mark) → IsProper b → IsGrouped b → (u : ℕ) → 0 < u
    → u < tasks_so_far b
    → (g : OpenGroup)
    → Has g (open_groups b)
    → g.task ≡ running_task (before_task u b)
    → g.number < groups_so_far (before_task u b)
    → g.children_before ≤ children_of (running_task (before_task u b)) (before_task u b)
since_counted b p h u above l g k own since =
    let there = held_before b p h u above l g k since in
    let x = before_task u b in
    let counted = has_all (λ (y : OpenGroup). y.children_before ≤ children_of y.task x) g
    (open_groups x) (children_are_counted x) there in
    let same : children_of g.task x ≡ children_of (running_task x) x =
    ap (λ (p : ℕ). children_of p x) own in
    omega arith

-- a later task began since each group since which an earlier one did
pub since_later : (b : List Mark) (u v : ℕ) → u ≤ v → v < tasks_so_far b
    → groups_so_far (before_task u b) ≤ groups_so_far (before_task v b)
since_later b u v less l = elim (cases_eq u v) [
  | inl is ↦ (
      let same : groups_so_far (before_task u b) ≡ groups_so_far (before_task v b) =
      ap (λ (n : ℕ). groups_so_far (before_task n b)) is in
      omega arith)
  | inr other ↦ (
      let same : groups_so_far (before_task u b)
      ≡ groups_so_far (before_task u (before_task v b)) =
      ap groups_so_far (before_within b u v (omega arith) l) in
      omega (arith, groups_before u (before_task v b)))
]

-- the child, created in an open group by the group's task, from which a task descends
pub record Branch (b e : List Mark) (g : OpenGroup) (d : ℕ) : Type 0 where
  pub child : ℕ
  pub above : 0 < child
  pub begun : child < tasks_so_far b
  pub own : running_task (before_task child b) ≡ g.task
  pub since : g.number < groups_so_far (before_task child b)
  pub descends : Descends (table_at e) d child

-- a task that began since the innermost open group did descends from a child that did too
branch_within : (fuel : ℕ) (b e : List Mark) → Later b e → IsProper e → IsGrouped b
    → (g : OpenGroup)
    → Has g (open_groups b)
    → Among g.task (open_tasks b)
    → (d : ℕ)
    → d < fuel
    → g.task < d
    → d < tasks_so_far b
    → g.number < groups_so_far (before_task d b)
    → Branch b e g d
branch_within zero b e later p h g k a d f above l since = absurd (omega arith)
branch_within (suc fuel) b e later p h g k a d f above l since =
    let is = row_of b e later p d l in
    let x = before_task d b in
    let parent = running_task x in
    let proper_b = later_proper b e later p in
    let grouped_x = later_grouped x b is.older h in
    let some = begun_open x is.proper (omega (arith, is.number)) in
    let held = held_before b proper_b h d (omega arith) l g k since in
    let opened = was_open x b is.older g.task (omega (arith, is.number)) a in
    let top = among_top g.task (open_tasks x) (open_tasks_descend x) opened in
    let below = running_below x some in
    elim (cases_eq parent g.task) [
      | inl own ↦ record {
        child = d;
        above = omega arith;
        begun = l;
        own = own;
        since = since;
        descends = Itself d;
      }
      | inr other ↦ (
          let less : parent < d = omega (arith, is.number) in
          let same : before_task parent b ≡ before_task parent x = before_within b parent d less l in
          let parent_since : g.number < groups_so_far (before_task parent b) =
          omega (
            arith,
            open_since x is.proper grouped_x parent (among_head (open_tasks x) some) g held
                (omega arith),
            ap groups_so_far same,
          ) in
          let rest = branch_within fuel b e later p h g k a parent (omega arith) (omega arith)
          (omega arith) parent_since in
          record {
            child = rest.child;
            above = rest.above;
            begun = rest.begun;
            own = rest.own;
            since = rest.since;
            descends = Below d parent rest.child (omega (arith, tasks-at e, tasks_grow b e later))
                (is.parent ∙ slice_get-get_or (open_tasks x) 0 0 some) rest.descends;
          })
    ]

pub branch_of : (b e : List Mark) → Later b e → IsProper e → IsGrouped b
    → (g : OpenGroup)
    → Has g (open_groups b)
    → Among g.task (open_tasks b)
    → (d : ℕ)
    → g.task < d
    → d < tasks_so_far b
    → g.number < groups_so_far (before_task d b)
    → Branch b e g d
branch_of b e later p h g k a d above l since =
    branch_within (d + 1) b e later p h g k a d (omega arith) above l since

-- a task that began since an open group did, and has ended, is numbered above the group's task
pub since_above : (b : List Mark) → IsProper b → IsGrouped b → (g : OpenGroup)
    → Has g (open_groups b)
    → Among g.task (open_tasks b)
    → g.task < tasks_so_far b
    → (s : ℕ)
    → (x : EndedSince g.number b s)
    → g.task < x.ended
since_above b p h g k a l s x = elim (cases_lt g.task x.ended) [
  | inl above ↦ above
  | inr low ↦ elim (cases_eq g.task x.ended) [
    | inl is ↦ absurd (among_gone x.ended (open_tasks b)
        (subst (λ (u : ℕ). Among u (open_tasks b)) is a) x.gone)
    | inr other ↦ (
        let above : 0 < g.task = omega arith in
        let before = since_later b x.ended g.task low l in
        let since = x.since in
        let held = held_before b p h g.task above l g k (omega arith) in
        let began = row_number b p g.task l in
        let below = has_all (λ (y : OpenGroup). y.task < tasks_so_far (before_task g.task b)) g
        (open_groups (before_task g.task b)) (tasks_below (before_task g.task b) began.1) held in
        absurd (omega (arith, began.0)))
  ]
]
  where
    row_number : (b : List Mark) → IsProper b → (u : ℕ) → u < tasks_so_far b
        → (u ≡ tasks_so_far (before_task u b)) × IsProper (before_task u b)
    row_number b p u l = let r = row_of b b Now p u l in (r.number, r.proper)
