-- What decides the ends of all later segments, apart from the numbers of segments and tasks. For each
-- open task this is where its current segment ends and where its children ended, and for each open
-- group the greatest end in it.
use Rattle.std.proofs.Common.{◌≡◌, ◌≢◌, ℕ, ◌+◌, ◌<◌, ◌≤◌, Bool, true, false, cond, eqb, List, []}
use Rattle.std.proofs.Common.{◌∷◌, length, get_or, drop, refl, sym, ap, subst, ◌∙◌, arith, max}
use Rattle.std.proofs.Common.{length-drop}
use Rattle.std.specs.List.{All}
use Rattle.std.proofs.lemmas.Bool.Decides.{nat_tests}
use Rattle.std.proofs.lemmas.List.Elements.{All-tail, All-drop}
use Rattle.program_text.specs.declared.statement.Item.{Item}
use Rattle.task_program.specs.Conflict.{items_conflict}
use Rattle.task_program.specs.Marks.{Mark}
use Rattle.task_program.specs.Marks.Mark.{Begins, Ends, Works, Waits, GroupBegins, GroupEnds}
use Rattle.task_segments.specs.Moments.{OpenGroup, segments_so_far, tasks_so_far, open_tasks}
use Rattle.task_segments.specs.Moments.{open_groups, groups_so_far, runs, running_task}
use Rattle.task_segments.specs.Moments.{last_of, is_latest, IsProper}
use Rattle.task_segments.proofs.Places.{head_runs, open_tasks_descend, down_rest}
use Rattle.task_segments.proofs.Steps.{tasks_begins, open_below}
use Rattle.task_segments.proofs.Rows.{runs_not, groups_below}
use Rattle.online_span.specs.Awaiting.{Ended, ended_of, ended_in, ended_in_first, ending}
use Rattle.online_span.specs.Awaiting.{greatest_of, end_of, latest, any_items, items_of}
use Rattle.online_span.specs.Awaiting.{is_undeferred}
use Rattle.online_span.specs.Measuring.{IsGreatestEnd}
use Rattle.online_span.proofs.Stays.{end_of-old, end_of-before, greatest-old, ended_below}
use Rattle.online_span.proofs.Stays.{some_segment, AllBelow, inside_below}
use Rattle.online_span.proofs.Last.{last_older, last_within, last_running}
use Rattle.online_span.proofs.Held.{Same, same-begins, same-ends, same-group_ends, same-waits}
use Rattle.online_span.proofs.Held.{same-works, same-group_begins}
use Rattle.online_span.proofs.Held.{outer_below, are_outer, IsOuter}
use Rattle.online_span.proofs.Taken.{greatest_end-opens, greatest_end-works, end_of-new}

-- a child that has ended: its items and its end
pub record Done : Type 0 where
  pub items : List Item
  pub end : ℕ

-- a task that is open
pub record Open : Type 0 where
  pub undeferred : Bool
  pub items : List Item
  pub end : ℕ
  pub ended : List Done

pub record State : Type 0 where
  pub running : Open
  pub outer : List Open
  pub groups : List ℕ
  pub span : ℕ

abbrev pub greatest : (List Item → Bool) → List Done → ℕ
greatest test [] = 0
greatest test (task ∷ tasks) =
    cond (test task.items) (max task.end (greatest test tasks)) (greatest test tasks)

abbrev pub child_start : List Item → ℕ → List Done → ℕ
child_start items end ended = max end (greatest (λ other. items_conflict other items) ended)

abbrev pub raise_all : ℕ → List ℕ → List ℕ
raise_all end [] = []
raise_all end (held ∷ groups) = max held end ∷ raise_all end groups

abbrev pub resumed : Open → Open → Open
resumed child parent = record {
  undeferred = parent.undeferred;
  items = parent.items;
  end = cond child.undeferred (max parent.end child.end) parent.end;
  ended = (record { items = child.items; end = child.end }) ∷ parent.ended;
}

abbrev pub parent_goes_on : State → List Open → State
parent_goes_on s [] = s
parent_goes_on s (parent ∷ rest) = record {
  running = resumed s.running parent;
  outer = rest;
  groups = raise_all s.running.end s.groups;
  span = s.span;
}

abbrev pub step : Mark → State → State
step (Begins d i) s = record {
  running = record {
    undeferred = d;
    items = i;
    end = child_start i s.running.end s.running.ended;
    ended = [];
  };
  outer = s.running ∷ s.outer;
  groups = s.groups;
  span = s.span;
}
step Ends s = parent_goes_on s s.outer
step (Works cost) s =
    record s {
      running = record (s.running) { end = s.running.end + cost };
      span = max s.span (s.running.end + cost);
    }
step Waits s =
    record s {
      running = record (s.running) {
        end = max s.running.end (greatest any_items s.running.ended);
      };
    }
step GroupBegins s = record s { groups = 0 ∷ s.groups }
step GroupEnds s =
    record s {
      running = record (s.running) { end = max s.running.end (get_or s.groups 0 0) };
      groups = drop 1 s.groups;
    }

abbrev pub done_of : (ℕ → ℕ) → List Ended → List Done
done_of ends [] = []
done_of ends (task ∷ tasks) =
    (record { items = task.items; end = ends task.last }) ∷ done_of ends tasks

pub greatest-done : (ends : ℕ → ℕ) (test : List Item → Bool) (tasks : List Ended)
    → greatest test (done_of ends tasks) ≡ greatest_of ends test tasks
greatest-done ends test [] = refl
greatest-done ends test (task ∷ tasks) =
    ap (λ x. cond (test task.items) (max (ends task.last) x) x) (greatest-done ends test tasks)

done-same : (f g : ℕ → ℕ) (n : ℕ)
    → ((s : ℕ) → s + 1 < n → f s ≡ g s)
    → (tasks : List Ended)
    → AllBelow n tasks
    → done_of f tasks ≡ done_of g tasks
done-same f g n same [] b = refl
done-same f g n same (task ∷ tasks) b =
    let one : ℕ → Done = λ end. record { items = task.items; end = end } in
    ap (λ (x : ℕ). one x ∷ done_of f tasks) (same task.last b.0)
    ∙ ap (λ (xs : List Done). one (g task.last) ∷ xs) (done-same f g n same tasks b.1)

-- one more mark leaves the ends of children
done-old : (m : Mark) (e : List Mark) (u : ℕ) → IsProper e
    → done_of (end_of (m ∷ e)) (ended_of u e) ≡ done_of (end_of e) (ended_of u e)
done-old m e u p =
    done-same (end_of (m ∷ e)) (end_of e) (segments_so_far e) (λ s l. end_of-old m e s l)
    (ended_of u e) (ended_below u e p)

-- what is said of task u, which is open
pub record IsOpen (held : Open) (u : ℕ) (e : List Mark) : Type 0 where
  pub undeferred : held.undeferred ≡ is_undeferred u e
  pub items : held.items ≡ items_of u e
  pub end : held.end ≡ end_of e (last_of u e)
  pub ended : held.ended ≡ done_of (end_of e) (ended_of u e)

abbrev pub AreOpen : List Open → List ℕ → List Mark → Type 0
AreOpen [] [] e = Unit {0}
AreOpen [] (u ∷ tasks) e = ⊥
AreOpen (held ∷ more) [] e = ⊥
AreOpen (held ∷ more) (u ∷ tasks) e = IsOpen held u e × AreOpen more tasks e

abbrev pub AreGroups : List ℕ → List OpenGroup → List Mark → Type 0
AreGroups [] [] e = Unit {0}
AreGroups [] (group ∷ groups) e = ⊥
AreGroups (held ∷ more) [] e = ⊥
AreGroups (held ∷ more) (group ∷ groups) e =
    (held ≡ greatest_of (end_of e) any_items (ended_in group.number e)) × AreGroups more groups e

pub record IsState (s : State) (e : List Mark) : Type 0 where
  pub proper : IsProper e
  pub some_open : 0 < length (open_tasks e)
  pub running : IsOpen s.running (running_task e) e
  pub outer : AreOpen s.outer (drop 1 (open_tasks e)) e
  pub groups : AreGroups s.groups (open_groups e) e
  pub span : IsGreatestEnd e s.span

-- a mark leaves a task as it was
open-same : (m : Mark) (e : List Mark) (held : Open) (u : ℕ) → IsProper e → Same m e u
    → end_of (m ∷ e) (last_of u e) ≡ end_of e (last_of u e)
    → IsOpen held u e
    → IsOpen held u (m ∷ e)
open-same m e held u p same end h = record {
  undeferred = h.undeferred ∙ sym same.undeferred;
  items = h.items ∙ sym same.items;
  end = h.end ∙ sym end ∙ ap (λ s. end_of (m ∷ e) s) (sym same.last);
  ended = h.ended
      ∙ sym (ap (λ (xs : List Ended). done_of (end_of (m ∷ e)) xs) same.ended
      ∙ done-old m e u p);
}

open-all : (m : Mark) (e : List Mark) (P : ℕ → Type 0)
    → ((held : Open) (u : ℕ) → P u → IsOpen held u e → IsOpen held u (m ∷ e))
    → (all : List Open) (tasks : List ℕ)
    → All P tasks
    → AreOpen all tasks e
    → AreOpen all tasks (m ∷ e)
open-all m e P each [] [] ok h = tt
open-all m e P each [] (u ∷ tasks) ok h = h
open-all m e P each (held ∷ all) [] ok h = h
open-all m e P each (held ∷ all) (u ∷ tasks) ok h = (
  each held u (ok 0 0 (omega arith)) h.0,
  open-all m e P each all tasks (All-tail P u tasks ok) h.1,
)

-- a mark of the running task leaves the others
outer-same : (m : Mark) (e : List Mark) → IsProper e
    → ((u : ℕ) → running_task e ≢ u → Same m e u)
    → (all : List Open)
    → AreOpen all (drop 1 (open_tasks e)) e
    → AreOpen all (drop 1 (open_tasks e)) (m ∷ e)
outer-same m e p same all h =
    open-all m e (λ u. IsOuter e u) (λ held u o k.
    let below = o.below in
    let older = last_older e p u o.begun (λ x. omega arith) in
    open-same m e held u p (same u (λ x. omega arith)) (end_of-old m e (last_of u e) older) k)
    all (drop 1 (open_tasks e)) (are_outer e) h

-- the running task, where its latest segment ends now
running-raised : (m : Mark) (held : Open) (e : List Mark) (end : ℕ) → IsProper e
    → IsOpen held (running_task e) e
    → ended_of (running_task e) (m ∷ e) ≡ ended_of (running_task e) e
    → items_of (running_task e) (m ∷ e) ≡ items_of (running_task e) e
    → is_undeferred (running_task e) (m ∷ e) ≡ is_undeferred (running_task e) e
    → end_of (m ∷ e) (last_of (running_task e) (m ∷ e)) ≡ end
    → IsOpen (record held { end = end }) (running_task e) (m ∷ e)
running-raised m held e end p h ended items undeferred new =
    record {
      undeferred = h.undeferred ∙ sym undeferred;
      items = h.items ∙ sym items;
      end = sym new;
      ended = h.ended
          ∙ sym (ap (λ (xs : List Ended). done_of (end_of (m ∷ e)) xs) ended
          ∙ done-old m e (running_task e) p);
    }

-- the end of the running task's segment
pub running-end : (held : Open) (e : List Mark) → IsProper e → 0 < length (open_tasks e)
    → IsOpen held (running_task e) e → held.end ≡ end_of e (latest e)
running-end held e p l h = h.end ∙ ap (λ s. end_of e s) (last_running e p l)

-- the greatest ends in groups, where a mark adds no task to them
groups-left : (m : Mark) (e : List Mark) → IsProper e → (all : List ℕ) (groups : List OpenGroup)
    → All (λ (g : OpenGroup). ended_in g.number (m ∷ e) ≡ ended_in g.number e) groups
    → AreGroups all groups e
    → AreGroups all groups (m ∷ e)
groups-left m e p [] [] same h = tt
groups-left m e p [] (g ∷ groups) same h = h
groups-left m e p (held ∷ all) [] same h = h
groups-left m e p (held ∷ all) (g ∷ groups) same h = (
  h.0
      ∙ sym (ap (λ (xs : List Ended). greatest_of (end_of (m ∷ e)) any_items xs)
      (same 0 g (omega arith))
      ∙ greatest-old m e any_items (ended_in g.number e) (inside_below g.number e p)),
  groups-left m e p all groups
      (All-tail (λ (g : OpenGroup). ended_in g.number (m ∷ e) ≡ ended_in g.number e) g groups same)
      h.1,
)

-- where a task ends, it does so in each of them
groups-raised : (e : List Mark) → IsProper e → 0 < length (open_tasks e) → (end : ℕ)
    → end ≡ end_of e (latest e)
    → (all : List ℕ) (groups : List OpenGroup)
    → AreGroups all groups e
    → AreGroups (raise_all end all) groups (Ends ∷ e)
groups-raised e p l end is [] [] h = tt
groups-raised e p l end is [] (g ∷ groups) h = h
groups-raised e p l end is (held ∷ all) [] h = h
groups-raised e p l end is (held ∷ all) (g ∷ groups) h =
    let some = some_segment e p l in
    let own = end_of-before Ends e (latest e) refl (omega arith) in
    let rest = greatest-old Ends e any_items (ended_in g.number e) (inside_below g.number e p) in
    (omega (arith, h.0), groups-raised e p l end is all groups h.1)

groups-head : (e : List Mark) (all : List ℕ) (groups : List OpenGroup) → AreGroups all groups e
    → get_or all 0 0 ≡ greatest_of (end_of e) any_items (ended_in_first groups e)
groups-head e [] [] h = refl
groups-head e [] (g ∷ groups) h = absurd h
groups-head e (held ∷ all) [] h = absurd h
groups-head e (held ∷ all) (g ∷ groups) h = h.0

groups-rest : (e : List Mark) (all : List ℕ) (groups : List OpenGroup) → AreGroups all groups e
    → AreGroups (drop 1 all) (drop 1 groups) e
groups-rest e [] [] h = tt
groups-rest e [] (g ∷ groups) h = absurd h
groups-rest e (held ∷ all) [] h = absurd h
groups-rest e (held ∷ all) (g ∷ groups) h = h.1

pub state-works : (cost : ℕ) (s : State) (e : List Mark) → IsState s e
    → IsState (step (Works cost) s) (Works cost ∷ e)
state-works cost s e h =
    let p = h.proper in
    let l = h.some_open in
    let u = running_task e in
    let some = some_segment e p l in
    let last = last_running e p l in
    let now_latest : is_latest (last_of u e) e ≡ true =
    (let at_end : segments_so_far e ≡ last_of u e + 1 = omega arith in grind (arith, nat_tests)) in
    let new : end_of (Works cost ∷ e) (last_of u e) ≡ cost + end_of e (last_of u e) =
    rw now_latest refl in
    record {
      proper = (l, p);
      some_open = l;
      running = running-raised (Works cost) s.running e (s.running.end + cost) p h.running refl refl
          refl (omega (arith, h.running.end));
      outer = outer-same (Works cost) e p (λ u x. same-works cost e u) s.outer h.outer;
      groups = groups-left (Works cost) e p s.groups (open_groups e) (λ k d l. refl) h.groups;
      span = greatest_end-works cost s.running.end e s.span p l (running-end s.running e p l h.running)
          h.span;
    }

pub state-waits : (s : State) (e : List Mark) → IsState s e → IsState (step Waits s) (Waits ∷ e)
state-waits s e h =
    let p = h.proper in
    let l = h.some_open in
    let u = running_task e in
    let run : runs u e ≡ true = head_runs (open_tasks e) l in
    let last : last_of u (Waits ∷ e) ≡ segments_so_far e = rw run refl in
    let before = running-end s.running e p l h.running in
    let children : greatest any_items s.running.ended
    ≡ greatest_of (end_of e) any_items (ended_of u e) =
    ap (λ (xs : List Done). greatest any_items xs) h.running.ended
    ∙ greatest-done (end_of e) any_items (ended_of u e) in
    let new : end_of (Waits ∷ e) (last_of u (Waits ∷ e))
    ≡ max s.running.end (greatest any_items s.running.ended) =
    ap (λ s. end_of (Waits ∷ e) s) last ∙ end_of-new Waits e refl
    ∙ ap (λ x. max x (greatest_of (end_of e) any_items (ended_of u e))) (sym before)
    ∙ ap (λ x. max s.running.end x) (sym children) in
    record {
      proper = (l, p);
      some_open = l;
      running = running-raised Waits s.running e
          (max s.running.end (greatest any_items s.running.ended)) p h.running refl refl refl new;
      outer = outer-same Waits e p (λ u x. same-waits e u x) s.outer h.outer;
      groups = groups-left Waits e p s.groups (open_groups e) (λ k d l. refl) h.groups;
      span = greatest_end-opens Waits e s.span refl h.span;
    }

-- a group that begins holds no task yet
groups_begin : (e : List Mark)
    → All (λ (g : OpenGroup). ended_in g.number (GroupBegins ∷ e) ≡ ended_in g.number e)
    (open_groups e)
groups_begin e k d l =
    let below = groups_below e k d l in
    let other : eqb (groups_so_far e) (get_or (open_groups e) k d).number ≡ false =
    grind (arith, nat_tests) in
    rw other refl

begun_empty : (e : List Mark) → ended_in (groups_so_far e) (GroupBegins ∷ e) ≡ []
begun_empty e =
    let here : eqb (groups_so_far e) (groups_so_far e) ≡ true = grind (arith, nat_tests) in
    rw here refl

pub state-group_begins : (s : State) (e : List Mark) → IsState s e
    → IsState (step GroupBegins s) (GroupBegins ∷ e)
state-group_begins s e h =
    let p = h.proper in
    let l = h.some_open in
    let older = groups-left GroupBegins e p s.groups (open_groups e) (groups_begin e) h.groups in
    record {
      proper = (l, p);
      some_open = l;
      running = open-same GroupBegins e s.running (running_task e) p
          (same-group_begins e (running_task e)) refl h.running;
      outer = outer-same GroupBegins e p (λ u x. same-group_begins e u) s.outer h.outer;
      groups = (rw (begun_empty e) refl, older);
      span = record { covers = h.span.covers; reached = h.span.reached };
    }

pub state-group_ends : (s : State) (e : List Mark) → IsState s e
    → IsState (step GroupEnds s) (GroupEnds ∷ e)
state-group_ends s e h =
    let p = h.proper in
    let l = h.some_open in
    let u = running_task e in
    let run : runs u e ≡ true = head_runs (open_tasks e) l in
    let last : last_of u (GroupEnds ∷ e) ≡ segments_so_far e = rw run refl in
    let before = running-end s.running e p l h.running in
    let group = groups-head e s.groups (open_groups e) h.groups in
    let new : end_of (GroupEnds ∷ e) (last_of u (GroupEnds ∷ e))
    ≡ max s.running.end (get_or s.groups 0 0) =
    ap (λ s. end_of (GroupEnds ∷ e) s) last ∙ end_of-new GroupEnds e refl
    ∙ ap (λ x. max x (greatest_of (end_of e) any_items (ended_in_first (open_groups e) e)))
    (sym before)
    ∙ ap (λ x. max s.running.end x) (sym group) in
    record {
      proper = (l, p);
      some_open = l;
      running = running-raised GroupEnds s.running e (max s.running.end (get_or s.groups 0 0)) p
          h.running refl refl refl new;
      outer = outer-same GroupEnds e p (λ u x. same-group_ends e u x) s.outer h.outer;
      groups = groups-left GroupEnds e p (drop 1 s.groups) (drop 1 (open_groups e)) (λ k d l. refl)
          (groups-rest e s.groups (open_groups e) h.groups);
      span = greatest_end-opens GroupEnds e s.span refl h.span;
    }

-- a task that has not begun has no child
ended_none : (e : List Mark) (u : ℕ) → tasks_so_far e ≤ u → ended_of u e ≡ []
ended_none [] u l = refl
ended_none (Begins d i ∷ e) u l = ended_none e u (omega (arith, tasks_begins d i e))
ended_none (Ends ∷ e) u l =
    let idle : runs u (Ends ∷ e) ≡ false =
    runs_not u (tasks_so_far e) (open_tasks (Ends ∷ e)) (open_below (Ends ∷ e)) l in
    rw idle (ended_none e u l)
ended_none (Works cost ∷ e) u l = ended_none e u l
ended_none (Waits ∷ e) u l = ended_none e u l
ended_none (GroupBegins ∷ e) u l = ended_none e u l
ended_none (GroupEnds ∷ e) u l = ended_none e u l

split_open : (stack : List ℕ) → 0 < length stack → stack ≡ get_or stack 0 0 ∷ drop 1 stack
split_open [] l = absurd (omega arith)
split_open (x ∷ stack) l = refl

-- the child that begins
child-open : (d : Bool) (i : List Item) (e : List Mark) (held : Open) → IsProper e
    → 0 < length (open_tasks e)
    → IsOpen held (running_task e) e
    → IsOpen (record {
      undeferred = d;
      items = i;
      end = child_start i held.end held.ended;
      ended = [];
    }) (tasks_so_far e) (Begins d i ∷ e)
child-open d i e held p l h =
    let u = tasks_so_far e in
    let self : eqb u u ≡ true = grind (arith, nat_tests) in
    let none = ended_none e u (omega arith) in
    let last : last_of u (Begins d i ∷ e) ≡ segments_so_far e = rw self refl in
    let before = running-end held e p l h in
    let conflict : greatest (λ other. items_conflict other i) held.ended
    ≡ greatest_of (end_of e) (λ other. items_conflict other i) (ended_of (running_task e) e) =
    ap (λ (xs : List Done). greatest (λ other. items_conflict other i) xs) h.ended
    ∙ greatest-done (end_of e) (λ other. items_conflict other i) (ended_of (running_task e) e) in
    let new : end_of (Begins d i ∷ e) (last_of u (Begins d i ∷ e))
    ≡ child_start i held.end held.ended =
    ap (λ s. end_of (Begins d i ∷ e) s) last ∙ end_of-new (Begins d i) e refl
    ∙ ap (λ x. max x (greatest_of (end_of e) (λ other. items_conflict other i)
    (ended_of (running_task e) e))) (sym before)
    ∙ ap (λ x. max held.end x) (sym conflict) in
    record {
      undeferred = rw self refl;
      items = rw self refl;
      end = sym new;
      ended = sym (ap (λ (xs : List Ended). done_of (end_of (Begins d i ∷ e)) xs) none);
    }

pub state-begins : (d : Bool) (i : List Item) (s : State) (e : List Mark) → IsState s e
    → IsState (step (Begins d i) s) (Begins d i ∷ e)
state-begins d i s e h =
    let p = h.proper in
    let l = h.some_open in
    let P : List ℕ → Type 0 = λ stack. AreOpen (s.running ∷ s.outer) stack e in
    let all : AreOpen (s.running ∷ s.outer) (open_tasks e) e =
    subst P (sym (split_open (open_tasks e) l)) (h.running, h.outer) in
    record {
      proper = (omega arith, p);
      some_open = omega arith;
      running = child-open d i e s.running p l h.running;
      outer = open-all (Begins d i) e (λ u. u < tasks_so_far e)
          (λ held u k o. open-same (Begins d i) e held u p (same-begins d i e u k)
          (end_of-before (Begins d i) e (last_of u e) refl (last_within e p u k)) o)
          (s.running ∷ s.outer) (open_tasks e) (open_below e) all;
      groups = groups-left (Begins d i) e p s.groups (open_groups e) (λ k d l. refl) h.groups;
      span = greatest_end-opens (Begins d i) e s.span refl h.span;
    }

-- the parent that goes on
parent-open : (e : List Mark) (child parent : Open) → IsProper e
    → 1 < length (open_tasks e)
    → IsOpen child (running_task e) e
    → IsOpen parent (running_task (Ends ∷ e)) e
    → IsOpen (resumed child parent) (running_task (Ends ∷ e)) (Ends ∷ e)
parent-open e child parent p l c h =
    let u = running_task (Ends ∷ e) in
    let some = some_segment e p (omega arith) in
    let run : runs u (Ends ∷ e) ≡ true =
    head_runs (drop 1 (open_tasks e)) (omega (arith, length-drop 1 (open_tasks e))) in
    let last : last_of u (Ends ∷ e) ≡ segments_so_far e = rw run refl in
    let ended : ended_of u (Ends ∷ e) ≡ ending e ∷ ended_of u e = rw run refl in
    let child_end = running-end child e p (omega arith) c in
    let own : end_of (Ends ∷ e) (latest e) ≡ child.end =
    end_of-before Ends e (latest e) refl (omega arith) ∙ sym child_end in
    let one : List Item → ℕ → Done = λ items end. record { items = items; end = end } in
    let new : end_of (Ends ∷ e) (last_of u (Ends ∷ e))
    ≡ cond child.undeferred (max parent.end child.end) parent.end =
    ap (λ s. end_of (Ends ∷ e) s) last ∙ end_of-new Ends e refl
    ∙ ap (λ (t : Bool). cond t (max (end_of e (last_of u e)) (end_of e (latest e)))
    (end_of e (last_of u e))) (sym c.undeferred)
    ∙ ap (λ x. cond child.undeferred (max x (end_of e (latest e))) x) (sym h.end)
    ∙ ap (λ x. cond child.undeferred (max parent.end x) parent.end) (sym child_end) in
    record {
      undeferred = h.undeferred;
      items = h.items;
      end = sym new;
      ended = sym (ap (λ (xs : List Ended). done_of (end_of (Ends ∷ e)) xs) ended
          ∙ ap (λ (x : ℕ). one (items_of (running_task e) e) x
          ∷ done_of (end_of (Ends ∷ e)) (ended_of u e)) own
          ∙ ap (λ (x : List Item). one x child.end
          ∷ done_of (end_of (Ends ∷ e)) (ended_of u e)) (sym c.items)
          ∙ ap (λ (xs : List Done). one child.items child.end ∷ xs)
          (done-old Ends e u p ∙ sym h.ended));
    }

state_with-ends : (s : State) (parent : Open) (rest : List Open) (e : List Mark) → IsState s e
    → 1 < length (open_tasks e)
    → IsOpen parent (running_task (Ends ∷ e)) e
    → AreOpen rest (drop 1 (drop 1 (open_tasks e))) e
    → IsState (parent_goes_on s (parent ∷ rest)) (Ends ∷ e)
state_with-ends s parent rest e h two first others =
    let p = h.proper in
    let l = h.some_open in
    let low = outer_below (drop 1 (open_tasks e))
    (down_rest (open_tasks e) (open_tasks_descend e)) in
    let far = All-drop (λ u. IsOuter e u) 1 (drop 1 (open_tasks e)) (are_outer e) in
    let each : (held : Open) (u : ℕ)
    → IsOuter e u × (u < running_task (Ends ∷ e))
    → IsOpen held u e
    → IsOpen held u (Ends ∷ e) = λ held u o k.
    let below = o.0.below in
    let older = last_older e p u o.0.begun (λ x. omega arith) in
    let lower : u < running_task (Ends ∷ e) = o.1 in
    open-same Ends e held u p (same-ends e u (λ x. omega arith))
    (end_of-old Ends e (last_of u e) older) k in
    record {
      proper = (two, p);
      some_open = omega (arith, length-drop 1 (open_tasks e));
      running = parent-open e s.running parent p two h.running first;
      outer = open-all Ends e (λ u. IsOuter e u × (u < running_task (Ends ∷ e))) each rest
          (drop 1 (drop 1 (open_tasks e))) (λ k d l. (far k d l, low k d l)) others;
      groups = groups-raised e p l s.running.end (running-end s.running e p l h.running) s.groups
          (open_groups e) h.groups;
      span = greatest_end-opens Ends e s.span refl h.span;
    }

-- the parent is there, where another task than the root is open
record First (parent : Open) (rest : List Open) (tasks : List ℕ) (e : List Mark) : Type 0 where
  pub holds : IsOpen parent (get_or tasks 0 0) e
  pub others : AreOpen rest (drop 1 tasks) e

first_of_all : (parent : Open) (rest : List Open) (tasks : List ℕ) (e : List Mark)
    → AreOpen (parent ∷ rest) tasks e
    → First parent rest tasks e
first_of_all parent rest [] e h = absurd h
first_of_all parent rest (u ∷ tasks) e h = record { holds = h.0; others = h.1 }

none_outer : (tasks : List ℕ) (e : List Mark) → AreOpen [] tasks e → 0 < length tasks → ⊥
none_outer [] e h l = absurd (omega arith)
none_outer (u ∷ tasks) e h l = h

pub state-ends : (s : State) (e : List Mark) → 1 < length (open_tasks e) → IsState s e
    → IsState (step Ends s) (Ends ∷ e)
state-ends s e two h = by_outer s.outer refl
  where
    by_outer : (all : List Open) → s.outer ≡ all → IsState (parent_goes_on s all) (Ends ∷ e)
    by_outer [] is =
        let P : List Open → Type 0 = λ held. AreOpen held (drop 1 (open_tasks e)) e in
        absurd (none_outer (drop 1 (open_tasks e)) e (subst P is h.outer)
        (omega (arith, length-drop 1 (open_tasks e))))
    by_outer (parent ∷ rest) is =
        let P : List Open → Type 0 = λ held. AreOpen held (drop 1 (open_tasks e)) e in
        let first = first_of_all parent rest (drop 1 (open_tasks e)) e (subst P is h.outer) in
        state_with-ends s parent rest e h two first.holds first.others

-- one more mark
pub state-step : (m : Mark) (s : State) (e : List Mark) → IsProper (m ∷ e) → IsState s e
    → IsState (step m s) (m ∷ e)
state-step (Begins d i) s e p h = state-begins d i s e h
state-step Ends s e p h = state-ends s e (omega (arith, p.0)) h
state-step (Works cost) s e p h = state-works cost s e h
state-step Waits s e p h = state-waits s e h
state-step GroupBegins s e p h = state-group_begins s e h
state-step GroupEnds s e p h = state-group_ends s e h
