-- The tasks that are listed as ended children are children that have ended.
use Rattle.std.proofs.Common.{◌≡◌, ◌≢◌, ℕ, ◌<◌, ◌≤◌, Bool, true, false, eqb}
use Rattle.std.proofs.Common.{List, [], ◌∷◌, ◌++◌, length, get_or, drop, refl, sym, ap}
use Rattle.std.proofs.Common.{subst, ◌∙◌, ◌⊎◌, inl, inr, arith, Some, slice_get}
use Rattle.std.specs.List.{All}
use Rattle.std.proofs.lemmas.Bool.Decides.{nat_tests}
use Rattle.std.proofs.lemmas.Bool.{cases_Bool, cases_eq}
use Rattle.std.proofs.lemmas.Option.{same_Some}
use Rattle.std.proofs.lemmas.List.Elements.{All-tail, All-cons}
use Rattle.program_text.specs.declared.statement.Item.{Item}
use Rattle.task_program.specs.Marks.{Mark}
use Rattle.task_program.specs.Marks.Mark.{Begins, Ends, Works, Waits, GroupBegins, GroupEnds}
use Rattle.task_segments.specs.Moments.{tasks_so_far, open_tasks}
use Rattle.task_segments.specs.Moments.{running_task, runs, is_innermost, beginning_of, last_of}
use Rattle.task_segments.specs.Moments.{IsProper}
use Rattle.task_segments.proofs.Extents.{Extent}
use Rattle.task_segments.proofs.Steps.{running_below, beginning_of-old}
use Rattle.task_segments.proofs.Steps.{task_has_begun, tasks_begins}
use Rattle.task_segments.proofs.Places.{open_tasks_descend}
use Rattle.online_span.specs.Awaiting.{Ended, IsLastOf, items_of, ended_of, ending, latest}
use Rattle.online_span.proofs.Last.{last_running}
use Rattle.online_span.proofs.Held.{outer_below}
use Rattle.online_span.proofs.Later.{ended_stays, idle}
use Rattle.online_span.proofs.Later.Later.{Now, More}

-- a task that began within the running code of p, and has ended with segment s
pub record Child (test : List Item → Bool) (p : ℕ) (e : List Mark) (s : ℕ) : Type 0 where
  pub child : ℕ
  pub begun : child < tasks_so_far e
  pub gone : All (λ x. x ≢ child) (open_tasks e)
  pub parent : slice_get (open_tasks (drop 1 (beginning_of child e))) 0 ≡ Some p
  pub items : test (items_of child e) ≡ true
  pub last : last_of child e ≡ s

items_stay : (m : Mark) (e : List Mark) (u : ℕ) → u < tasks_so_far e
    → items_of u (m ∷ e) ≡ items_of u e
items_stay (Begins d i) e u l =
    let other : eqb (tasks_so_far e) u ≡ false = grind (arith, nat_tests) in rw other refl
items_stay _ e u l = refl

pub tasks_more : (m : Mark) (e : List Mark) → tasks_so_far e ≤ tasks_so_far (m ∷ e)
tasks_more (Begins d i) e = omega (arith, tasks_begins d i e)
tasks_more _ e = omega arith

child_more : (m : Mark) (test : List Item → Bool) (p : ℕ) (e : List Mark) (s : ℕ)
    → Child test p e s
    → Child test p (m ∷ e) s
child_more m test p e s h =
    let over = ended_stays e (m ∷ e) (More m e Now) h.child h.begun h.gone in
    record {
      child = h.child;
      begun = omega (arith, h.begun, tasks_more m e);
      gone = over.gone;
      parent = ap (λ (xs : List Mark). slice_get (open_tasks (drop 1 xs)) 0)
          (beginning_of-old m e h.child h.begun) ∙ h.parent;
      items = ap test (items_stay m e h.child h.begun) ∙ h.items;
      last = over.last ∙ h.last;
    }

-- the tasks outside the innermost one, where that is u
outside : (u : ℕ) (inner outer stack : List ℕ) → stack ≡ inner ++ u ∷ outer
    → All (λ x. u < x) inner → get_or stack 0 0 ≡ u → drop 1 stack ≡ outer
outside u [] outer stack e above top = ap (drop 1) e
outside u (x ∷ inner) outer stack e above top =
    let higher = above 0 0 (omega arith) in
    let same : get_or stack 0 0 ≡ x = ap (λ (xs : List ℕ). get_or xs 0 0) e in
    absurd (omega arith)

extent_outside : (u first : ℕ) (outer stack : List ℕ) (own : ℕ → ℕ) (n last : ℕ)
    → 0 < length stack
    → get_or stack 0 0 ≡ u
    → Extent u first outer stack own n last
    → drop 1 stack ≡ outer
extent_outside u first outer stack own n last l top (inl o) =
    outside u o.inner outer stack o.stacked o.above top
extent_outside u first outer stack own n last l top (inr c) = absurd (c.gone 0 0 l top)

-- the tasks outside the running one are those that were open where it began
pub open_before : (e : List Mark) → IsProper e → 0 < length (open_tasks e)
    → drop 1 (open_tasks e) ≡ open_tasks (drop 1 (beginning_of (running_task e) e))
open_before e p l =
    let b = task_has_begun e p (running_task e) (running_below e l) in
    extent_outside _ _ _ _ _ _ _ l refl b.extent
    ∙ ap (λ (xs : List Mark). open_tasks (drop 1 xs)) (sym b.begins)

top_of : (p : ℕ) (stack : List ℕ) → is_innermost p stack ≡ true → slice_get stack 0 ≡ Some p
top_of p [] r = absurd (grind arith)
top_of p (x ∷ stack) r = let same : x ≡ p = grind (arith, nat_tests) in ap Some same

-- the running task, where it ends
child_now : (test : List Item → Bool) (p : ℕ) (e : List Mark) → IsProper (Ends ∷ e)
    → runs p (Ends ∷ e) ≡ true
    → test (items_of (running_task e) e) ≡ true
    → Child test p (Ends ∷ e) (latest e)
child_now test p e q r t =
    let u = running_task e in
    let some : 0 < length (open_tasks e) = omega (arith, q.0) in
    let low = outer_below (open_tasks e) (open_tasks_descend e) in
    let gone : All (λ x. x ≢ u) (open_tasks (Ends ∷ e)) = λ k d l h.
    let below = low k d l in omega arith in
    let rests : runs u (Ends ∷ e) ≡ false = idle u (open_tasks (Ends ∷ e)) gone in
    record {
      child = u;
      begun = running_below e some;
      gone = gone;
      parent = ap (λ (xs : List ℕ). slice_get xs 0) (sym (open_before e q.1 some))
          ∙ top_of p (drop 1 (open_tasks e)) r;
      items = t;
      last = rw rests (last_running e q.1 some);
    }

-- who is listed as an ended child of p is one
pub listed_is_child : (test : List Item → Bool) (p : ℕ) (e : List Mark) → IsProper e → (s : ℕ)
    → IsLastOf test (ended_of p e) s
    → Child test p e s
listed_is_child test p [] q s h = absurd h
listed_is_child test p (Begins d i ∷ e) q s h =
    child_more (Begins d i) test p e s (listed_is_child test p e q.1 s h)
listed_is_child test p (Ends ∷ e) q s h =
    by_running (listed_is_child test p e q.1 s) (cases_Bool (runs p (Ends ∷ e))) h
  where
    by_running : (IsLastOf test (ended_of p e) s → Child test p e s)
        → (runs p (Ends ∷ e) ≡ true) ⊎ (runs p (Ends ∷ e) ≡ false)
        → IsLastOf test (ended_of p (Ends ∷ e)) s
        → Child test p (Ends ∷ e) s
    by_running f (inl r) k =
        let P : List Ended → Type 0 = λ xs. IsLastOf test xs s in
        let entries : ended_of p (Ends ∷ e) ≡ ending e ∷ ended_of p e = rw r refl in
        elim (subst P entries k) [
          | inl now ↦ subst (Child test p (Ends ∷ e)) now.1 (child_now test p e q r now.0)
          | inr older ↦ child_more Ends test p e s (f older)
        ]
    by_running f (inr r) k =
        let P : List Ended → Type 0 = λ xs. IsLastOf test xs s in
        let entries : ended_of p (Ends ∷ e) ≡ ended_of p e = rw r refl in
        child_more Ends test p e s (f (subst P entries k))
listed_is_child test p (Works cost ∷ e) q s h =
    child_more (Works cost) test p e s (listed_is_child test p e q.1 s h)
listed_is_child test p (Waits ∷ e) q s h =
    child_more Waits test p e s (listed_is_child test p e q.1 s h)
listed_is_child test p (GroupBegins ∷ e) q s h =
    child_more GroupBegins test p e s (listed_is_child test p e q.1 s h)
listed_is_child test p (GroupEnds ∷ e) q s h =
    child_more GroupEnds test p e s (listed_is_child test p e q.1 s h)

-- a child that had ended before the mark
child_less : (m : Mark) (test : List Item → Bool) (p : ℕ) (e : List Mark) (s : ℕ)
    → (h : Child test p (m ∷ e) s)
    → h.child < tasks_so_far e
    → All (λ x. x ≢ h.child) (open_tasks e)
    → Child test p e s
child_less m test p e s h l gone =
    let over = ended_stays e (m ∷ e) (More m e Now) h.child l gone in
    record {
      child = h.child;
      begun = l;
      gone = gone;
      parent = sym (ap (λ (xs : List Mark). slice_get (open_tasks (drop 1 xs)) 0)
          (beginning_of-old m e h.child l)) ∙ h.parent;
      items = sym (ap test (items_stay m e h.child l)) ∙ h.items;
      last = sym over.last ∙ h.last;
    }

-- who is innermost, or is not open at all
pub not_top : (stack : List ℕ) (u : ℕ) → get_or stack 0 0 ≢ u → All (λ x. x ≢ u) (drop 1 stack)
    → All (λ x. x ≢ u) stack
not_top [] u n all = λ k d l. absurd (omega arith)
not_top (x ∷ stack) u n all = All-cons (λ x. x ≢ u) x stack n all

innermost_is : (p : ℕ) (stack : List ℕ) → slice_get stack 0 ≡ Some p → is_innermost p stack ≡ true
innermost_is p [] h = absurd (grind arith)
innermost_is p (x ∷ stack) h =
    let same : x ≡ p = same_Some x p h in grind (arith, nat_tests)

-- and each child of p that has ended is listed
pub child_is_listed : (test : List Item → Bool) (p : ℕ) (e : List Mark) → IsProper e → (s : ℕ)
    → Child test p e s
    → IsLastOf test (ended_of p e) s
child_is_listed test p [] q s h = absurd (omega (arith, h.begun))
child_is_listed test p (Begins d i ∷ e) q s h =
    let other = h.gone 0 0 (omega arith) in
    child_is_listed test p e q.1 s (child_less (Begins d i) test p e s h
    (omega (arith, h.begun, tasks_begins d i e, other))
    (All-tail (λ x. x ≢ h.child) (tasks_so_far e) (open_tasks e) h.gone))
child_is_listed test p (Ends ∷ e) q s h =
    by_child (child_is_listed test p e q.1 s) (cases_eq (running_task e) h.child)
  where
    by_child : (Child test p e s → IsLastOf test (ended_of p e) s)
        → (running_task e ≡ h.child) ⊎ (running_task e ≢ h.child)
        → IsLastOf test (ended_of p (Ends ∷ e)) s
    by_child f (inl is) =
        let some : 0 < length (open_tasks e) = omega (arith, q.0) in
        let top : slice_get (drop 1 (open_tasks e)) 0 ≡ Some p =
        ap (λ (xs : List ℕ). slice_get xs 0) (open_before e q.1 some)
        ∙ ap (λ (u : ℕ). slice_get (open_tasks (drop 1 (beginning_of u e))) 0) is ∙ h.parent in
        let r : runs p (Ends ∷ e) ≡ true = innermost_is p (drop 1 (open_tasks e)) top in
        let rests : runs h.child (Ends ∷ e) ≡ false = idle h.child (open_tasks (Ends ∷ e)) h.gone in
        let last : last_of h.child (Ends ∷ e) ≡ last_of h.child e = rw rests refl in
        let now : latest e ≡ s =
        sym (last_running e q.1 some) ∙ ap (λ (u : ℕ). last_of u e) is ∙ sym last ∙ h.last in
        let passes : test (items_of (running_task e) e) ≡ true =
        ap (λ (u : ℕ). test (items_of u e)) is ∙ h.items in
        let entries : ended_of p (Ends ∷ e) ≡ ending e ∷ ended_of p e = rw r refl in
        let P : List Ended → Type 0 = λ xs. IsLastOf test xs s in
        subst P (sym entries) (inl (passes, now))
    by_child f (inr other) =
        let k = f (child_less Ends test p e s h h.begun
        (not_top (open_tasks e) h.child other h.gone)) in
        elim (cases_Bool (runs p (Ends ∷ e))) [
          | inl r ↦ rw r (inr k)
          | inr r ↦ rw r k
        ]
child_is_listed test p (Works cost ∷ e) q s h =
    child_is_listed test p e q.1 s (child_less (Works cost) test p e s h h.begun h.gone)
child_is_listed test p (Waits ∷ e) q s h =
    child_is_listed test p e q.1 s (child_less Waits test p e s h h.begun h.gone)
child_is_listed test p (GroupBegins ∷ e) q s h =
    child_is_listed test p e q.1 s (child_less GroupBegins test p e s h h.begun h.gone)
child_is_listed test p (GroupEnds ∷ e) q s h =
    child_is_listed test p e q.1 s (child_less GroupEnds test p e s h h.begun h.gone)
