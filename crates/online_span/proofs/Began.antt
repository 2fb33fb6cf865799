-- What the table at a later moment says of a task that has begun.
use Rattle.std.proofs.Common.{true, ◌≡◌, ◌≢◌, ◌⊎◌, ℕ, ◌<◌, ◌≤◌, Bool, eqb}
use Rattle.std.proofs.Common.{List, [], ◌∷◌, get_or, drop, refl, sym, ap, subst, ◌∙◌}
use Rattle.std.proofs.Common.{inl, inr, arith, slice_get}
use Rattle.std.specs.List.{All}
use Rattle.std.proofs.lemmas.Bool.{cases_lt, cases_Bool, cases_eq, cond-true, cond-false}
use Rattle.std.proofs.lemmas.List.Elements.{All-nil, All-cons, All-tail}
use Rattle.program_text.specs.declared.statement.Item.{Item}
use Rattle.task_program.specs.Marks.{Mark}
use Rattle.task_program.specs.Marks.Mark.{Begins, Ends, Works, Waits, GroupBegins, GroupEnds}
use Rattle.task_segments.specs.Moments.{begins_task, segments_so_far, tasks_so_far}
use Rattle.task_segments.specs.Moments.{open_tasks, running_task, children_of}
use Rattle.task_segments.specs.Moments.{beginning_of, opening_of, last_of, IsProper}
use Rattle.task_segments.specs.Table.{task, table_at}
use Rattle.task_segments.proofs.Steps.{task_has_begun, count-cons, opening_of-new}
use Rattle.task_segments.proofs.Steps.{beginning_of-old, beginning_of-new, segments_opens}
use Rattle.task_segments.proofs.Facts.{row, first-at, beginning_within}
use Rattle.task_segments.proofs.Grouping.{IsGrouped, Among, before_task, among_top}
use Rattle.task_segments.proofs.Places.{Down}
use Rattle.online_span.specs.Awaiting.{items_of, is_undeferred}
use Rattle.online_span.proofs.Later.{Later, ended_stays, beginnings_stay, openings_stay}
use Rattle.online_span.proofs.Later.{segments_grow, tasks_grow}
use Rattle.online_span.proofs.Later.Later.{Now, More}

-- one of the open tasks, or none
pub among_or_gone : (u : ℕ) (stack : List ℕ) → Among u stack ⊎ All (λ x. x ≢ u) stack
among_or_gone u [] = inr (All-nil (λ x. x ≢ u))
among_or_gone u (x ∷ stack) = elim (cases_eq x u) [
  | inl is ↦ inl (inl is)
  | inr other ↦ elim (among_or_gone u stack) [
    | inl k ↦ inl (inr k)
    | inr k ↦ inr (All-cons (λ x. x ≢ u) x stack other k)
  ]
]

pub among_gone : (u : ℕ) (stack : List ℕ) → Among u stack → All (λ x. x ≢ u) stack → ⊥
among_gone u [] a all = a
among_gone u (x ∷ stack) (inl is) all = all 0 0 (omega arith) is
among_gone u (x ∷ stack) (inr a) all = among_gone u stack a (All-tail (λ x. x ≢ u) x stack all)

-- a task with a larger number than the running one is not open
pub above_top : (u : ℕ) (stack : List ℕ) → Down stack → get_or stack 0 0 < u
    → All (λ x. x ≢ u) stack
above_top u stack d l = elim (among_or_gone u stack) [
  | inl a ↦ let below = among_top u stack d a in absurd (omega arith)
  | inr gone ↦ gone
]

-- a task that is open now was open at each earlier moment at which it had begun
pub was_open : (b e : List Mark) → Later b e → (u : ℕ) → u < tasks_so_far b
    → Among u (open_tasks e)
    → Among u (open_tasks b)
was_open b e later u l a = elim (among_or_gone u (open_tasks b)) [
  | inl k ↦ k
  | inr gone ↦ absurd (among_gone u (open_tasks e) a (ended_stays b e later u l gone).gone)
]

pub later_rest : (m : Mark) (b e : List Mark) → Later (m ∷ b) e → Later b e
later_rest m b _ Now = More m b Now
later_rest m b _ (More k e l) = More k e (later_rest m b e l)

pub later_proper : (b e : List Mark) → Later b e → IsProper e → IsProper b
later_proper b _ Now p = p
later_proper b _ (More m e k) p = later_proper b e k p.1

pub later_grouped : (b e : List Mark) → Later b e → IsGrouped e → IsGrouped b
later_grouped b _ Now h = h
later_grouped b _ (More m e k) h = later_grouped b e k h.2

-- the task that has begun by a mark, and had not before, is the one that it begins
begins_now : (m : Mark) (e : List Mark) (u : ℕ) → u < tasks_so_far (m ∷ e) → tasks_so_far e ≤ u
    → (begins_task m ≡ true) × (tasks_so_far e ≡ u)
begins_now m e u l late = elim (cases_Bool (begins_task m)) [
  | inl o ↦ (o, omega (arith, count-cons begins_task m e, cond-true {A = ℕ} (begins_task m) 1 0 o))
  | inr o ↦
      absurd (omega (arith, count-cons begins_task m e, cond-false {A = ℕ} (begins_task m) 1 0 o))
]

pub beginning_later : (e : List Mark) (u : ℕ) → u < tasks_so_far e → Later (beginning_of u e) e
beginning_later [] u l = absurd (omega arith)
beginning_later (m ∷ e) u l = elim (cases_lt u (tasks_so_far e)) [
  | inl x ↦
      subst (λ (xs : List Mark). Later xs (m ∷ e)) (sym (beginning_of-old m e u x))
      (More m e (beginning_later e u x))
  | inr x ↦
      let (begins, is) = begins_now m e u l x in
      let P : ℕ → Type 0 = λ u. Later (beginning_of u (m ∷ e)) (m ∷ e) in
      subst P is
      (subst (λ (xs : List Mark). Later xs (m ∷ e)) (sym (beginning_of-new m e begins)) Now)
]

-- a task whose first segment has opened has begun
pub begun_before : (b e : List Mark) → Later b e → (u : ℕ) → u < tasks_so_far e
    → segments_so_far (before_task u e) < segments_so_far b
    → u < tasks_so_far b
begun_before b _ Now u l s = l
begun_before b _ (More m e k) u l s = elim (cases_lt u (tasks_so_far e)) [
  | inl x ↦ (
      let same : segments_so_far (before_task u (m ∷ e)) ≡ segments_so_far (before_task u e) =
      ap (λ (xs : List Mark). segments_so_far (drop 1 xs)) (beginning_of-old m e u x) in
      begun_before b e k u x (omega arith))
  | inr x ↦
      let (begins, is) = begins_now m e u l x in
      let here : segments_so_far (before_task u (m ∷ e)) ≡ segments_so_far e =
      ap (λ (n : ℕ). segments_so_far (before_task n (m ∷ e))) (sym is)
      ∙ ap (λ (xs : List Mark). segments_so_far (drop 1 xs)) (beginning_of-new m e begins) in
      absurd (omega (arith, segments_grow b e k))
]

items_begun : (d k : Bool) (i j : List Item) (x y : List Mark)
    → Begins d i ∷ x ≡ Begins k j ∷ y
    → (i ≡ j) × (d ≡ k)
items_begun d k i j x y h =
    let same_mark : Begins d i ≡ Begins k j = cc in (cc, cc)

-- the items of a task, and whether it is undeferred, are those with which it began
pub items_read : (u : ℕ) (e : List Mark) (d : Bool) (i : List Item) (x : List Mark)
    → beginning_of u e ≡ Begins d i ∷ x
    → (items_of u e ≡ i) × (is_undeferred u e ≡ d)
items_read u [] d i x h = absurd cc
items_read u (Begins k j ∷ e) d i x h = elim (cases_Bool (eqb (tasks_so_far e) u)) [
  | inl r ↦ (
      let here : Begins k j ∷ e ≡ Begins d i ∷ x = rw r at h in
      let same = items_begun k d j i e x here in
      rw r same)
  | inr r ↦ (
      let there : beginning_of u e ≡ Begins d i ∷ x = rw r at h in
      rw r (items_read u e d i x there))
]
items_read u (Ends ∷ e) d i x h = items_read u e d i x h
items_read u (Works cost ∷ e) d i x h = items_read u e d i x h
items_read u (Waits ∷ e) d i x h = items_read u e d i x h
items_read u (GroupBegins ∷ e) d i x h = items_read u e d i x h
items_read u (GroupEnds ∷ e) d i x h = items_read u e d i x h

-- the row of a task that had begun at moment b, in the table at a later moment
pub record Row (b e : List Mark) (u : ℕ) : Type 0 where
  pub number : u ≡ tasks_so_far (before_task u b)
  pub proper : IsProper (before_task u b)
  pub older : Later (before_task u b) b
  pub fewer : segments_so_far (before_task u b) < segments_so_far b
  pub parent : (task (table_at e) u).parent ≡ slice_get (open_tasks (before_task u b)) 0
  pub items : (task (table_at e) u).items ≡ items_of u b
  pub undeferred : (task (table_at e) u).undeferred ≡ is_undeferred u b
  pub first : (task (table_at e) u).first ≡ segments_so_far (before_task u b)
  pub last : (task (table_at e) u).last ≡ last_of u e
  pub siblings : (task (table_at e) u).siblings_before
      ≡ children_of (running_task (before_task u b)) (before_task u b)

pub row_of : (b e : List Mark) → Later b e → IsProper e → (u : ℕ) → u < tasks_so_far b → Row b e u
row_of b e later p u l =
    let inside : u < tasks_so_far e = omega (arith, tasks_grow b e later) in
    let now = task_has_begun e p u inside in
    let then = task_has_begun b (later_proper b e later p) u l in
    let same = beginnings_stay b e later u l in
    let began : beginning_of u b ≡ Begins now.undeferred now.items ∷ now.earlier =
    sym same ∙ now.begins in
    let before : now.earlier ≡ before_task u b = ap (drop 1) (sym began) in
    let then_before : then.earlier ≡ before_task u b = ap (drop 1) (sym then.begins) in
    let is = row e u inside now in
    let read = items_read u b now.undeferred now.items now.earlier began in
    record {
      number = now.number ∙ ap tasks_so_far before;
      proper = subst IsProper before now.proper;
      older = later_rest (Begins now.undeferred now.items) (before_task u b) b
          (subst (λ (xs : List Mark). Later xs b)
          (began ∙ ap (λ (xs : List Mark). Begins now.undeferred now.items ∷ xs) before)
          (beginning_later b u l));
      fewer = omega (arith, then.before, ap segments_so_far then_before);
      parent = ap (λ r. r.parent) is
          ∙ ap (λ (xs : List Mark). slice_get (open_tasks xs) 0) before;
      items = ap (λ r. r.items) is ∙ sym read.0;
      undeferred = ap (λ r. r.undeferred) is ∙ sym read.1;
      first = first-at e u inside now ∙ ap segments_so_far before;
      last = ap (λ r. r.last) is ∙ ap (λ (k : ℕ). last_of k e) (sym now.number);
      siblings = ap (λ r. r.siblings_before) is
          ∙ ap (λ (xs : List Mark). children_of (running_task xs) xs) before;
    }

-- where an earlier task began, seen from where a later one did
pub before_within : (e : List Mark) (u v : ℕ) → u < v → v < tasks_so_far e
    → before_task u e ≡ before_task u (before_task v e)
before_within e u v less l = ap (drop 1) (beginning_within e u v less l)

-- the first segment of a task opened where it began
pub first_opened : (e : List Mark) (u : ℕ) → u < tasks_so_far e → (d : Bool) (i : List Item)
    → (x : List Mark)
    → beginning_of u e ≡ Begins d i ∷ x
    → opening_of (segments_so_far x) e ≡ Begins d i ∷ x
first_opened e u l d i x began =
    let later : Later (Begins d i ∷ x) e =
    subst (λ (xs : List Mark). Later xs e) began (beginning_later e u l) in
    openings_stay (Begins d i ∷ x) e later (segments_so_far x)
    (omega (arith, segments_opens (Begins d i) x refl))
    ∙ opening_of-new (Begins d i) x refl
