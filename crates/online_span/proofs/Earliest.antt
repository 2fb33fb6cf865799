-- The starts of the segments are the earliest ones, so the greatest end is the span.
use Rattle.std.proofs.Common.{◌≡◌, ◌⊎◌, ℕ, ◌+◌, ◌<◌, ◌≤◌, Bool, true, false, eqb, List}
use Rattle.std.proofs.Common.{[], ◌∷◌, length, refl, sym, ap, subst, ◌∙◌, inl, inr, arith, max}
use Rattle.std.proofs.Common.{length-drop}
use Rattle.std.proofs.lemmas.Bool.Decides.{nat_tests}
use Rattle.std.proofs.lemmas.Bool.{cases_lt, cases_Bool}
use Rattle.program_text.specs.declared.statement.Item.{Item}
use Rattle.task_program.specs.Conflict.{items_conflict}
use Rattle.task_program.specs.Marks.{Mark}
use Rattle.task_program.specs.Marks.Mark.{Begins, Ends, Works, Waits, GroupBegins, GroupEnds}
use Rattle.task_segments.specs.Moments.{OpenGroup, opens, segments_so_far, tasks_so_far, open_tasks}
use Rattle.task_segments.specs.Moments.{open_groups, running_task, last_of, opening_of, cost_of}
use Rattle.task_segments.specs.Moments.{IsProper}
use Rattle.task_segments.specs.Schedule.{at, IsSpan, IsLeastEnd}
use Rattle.task_segments.specs.Schedule as schedule
use Rattle.task_segments.specs.StartsAndTails.{IsAscending, IsEarliest}
use Rattle.task_segments.proofs.Schedules.{by_rule, at-by_rule, length-by_rule, end_of-least}
use Rattle.task_segments.proofs.Schedules.{end_of-covers}
use Rattle.task_segments.proofs.StartsAndTails.{IsSpan-earliest, IsLeastEnd-earliest}
use Rattle.task_segments.proofs.Steps.{segments_opens, opening_of-new, opening_of-old}
use Rattle.task_segments.proofs.Steps.{running_below, count-cons}
use Rattle.task_segments.proofs.Facts.{begun_some_segment, nothing_before}
use Rattle.task_segments.proofs.Rows.{cost_none, cost_latest}
use Rattle.online_span.specs.Awaiting.{Ended, IsLastOf, AwaitsNow, Awaits, ended_of, ended_in_first, ended_in}
use Rattle.online_span.specs.Awaiting.{greatest_of, end_of, latest, start_now, any_items}
use Rattle.online_span.specs.Awaiting.{is_undeferred}
use Rattle.online_span.specs.Measuring.{IsGreatestEnd}
use Rattle.online_span.specs.Spans.{costs_at, IsSpanAt}
use Rattle.task_segments.specs.declared.table.Segment.{Segment}
use Rattle.task_segments.specs.Table.{table_at, no_segment}
use Rattle.task_segments.proofs.Facts.{segment-at, segments-at}
use Rattle.std.proofs.lemmas.List.{get_or-map, length-map}
use Rattle.online_span.proofs.Stays.{end_of-old, end_of-before, AllBelow, ended_below, inside_below}
use Rattle.online_span.proofs.Stays.{some_segment}
use Rattle.online_span.proofs.Last.{last_within}
use Rattle.online_span.proofs.Taken.{end_of-new}

-- the greatest of some ends is one of them, or there is none above 0, and none of them is above it
pub greatest-covers : (f : ℕ → ℕ) (test : List Item → Bool) (tasks : List Ended) (s : ℕ)
    → IsLastOf test tasks s
    → f s ≤ greatest_of f test tasks
greatest-covers f test [] s h = absurd h
greatest-covers f test (task ∷ tasks) s (inl h) =
    rw h.0 (omega (arith, ap f h.1))
greatest-covers f test (task ∷ tasks) s (inr h) =
    let rest = greatest-covers f test tasks s h in
    elim (cases_Bool (test task.items)) [
      | inl r ↦ rw r (omega arith)
      | inr r ↦ rw r rest
    ]

abbrev Reached : (ℕ → ℕ) → (ℕ → Type 0) → ℕ → Type 0
Reached f P n = (n ≡ 0) ⊎ ((s : ℕ) × P s × (f s ≡ n))

pub greatest-reached : (f : ℕ → ℕ) (test : List Item → Bool) (tasks : List Ended)
    → Reached f (IsLastOf test tasks) (greatest_of f test tasks)
greatest-reached f test [] = inl refl
greatest-reached f test (task ∷ tasks) =
    elim (cases_Bool (test task.items)) [
      | inl r ↦ elim (cases_lt (greatest_of f test tasks) (f task.last)) [
        | inl l ↦ rw r (inr (task.last, inl (refl, refl), omega arith))
        | inr l ↦ elim (greatest-reached f test tasks) [
          | inl z ↦ rw r (inl (omega arith))
          | inr w ↦ rw r (inr (w.0, inr w.1, omega (arith, w.2)))
        ]
      ]
      | inr r ↦ elim (greatest-reached f test tasks) [
        | inl z ↦ rw r (inl z)
        | inr w ↦ rw r (inr (w.0, inr w.1, w.2))
      ]
    ]

last-below : (n : ℕ) (test : List Item → Bool) (tasks : List Ended) (s : ℕ) → AllBelow n tasks
    → IsLastOf test tasks s
    → s < n
last-below n test [] s b h = absurd h
last-below n test (task ∷ tasks) s b (inl h) = omega (arith, b.0, h.1)
last-below n test (task ∷ tasks) s b (inr h) = last-below n test tasks s b.1 h

-- what the segment that opens now awaits has opened before it
pub awaits-before : (m : Mark) (e : List Mark) → IsProper (m ∷ e) → (s : ℕ) → AwaitsNow (m ∷ e) s
    → s < segments_so_far e
awaits-before (Begins d i) e p s (inr h) =
    last-below _ (λ other. items_conflict other i) (ended_of (running_task e) e) s
    (ended_below (running_task e) e p.1) h
awaits-before Ends e p s (inl h) =
    let two = p.0 in
    let begun = running_below (Ends ∷ e) (omega (arith, length-drop 1 (open_tasks e))) in
    let within = last_within e p.1 (running_task (Ends ∷ e)) begun in
    omega arith
awaits-before Ends e p s (inr h) = omega (arith, h.1)
awaits-before (Works cost) e p s h = absurd h
awaits-before Waits e p s (inr h) =
    last-below _ any_items (ended_of (running_task e) e) s (ended_below (running_task e) e p.1) h
awaits-before GroupBegins e p s h = absurd h
awaits-before GroupEnds e p s (inr h) = in_group (open_groups e) h
  where
    in_group : (groups : List OpenGroup)
        → IsLastOf any_items (ended_in_first groups e) s
        → s < segments_so_far e
    in_group [] k = absurd k
    in_group (g ∷ groups) k =
        last-below _ any_items (ended_in g.number e) s (inside_below g.number e p.1) k
awaits-before _ e p s (inl h) = omega arith

-- the latest segment, by its number
at_latest : (f : ℕ → ℕ) (e : List Mark) (s : ℕ) → segments_so_far e ≡ s + 1 → f (latest e) ≡ f s
at_latest f e s h = let is : latest e ≡ s = omega arith in ap f is

-- the segment that opens now does not start before the end of what it awaits
pub awaits-covers : (f : ℕ → ℕ) (m : Mark) (e : List Mark) (s : ℕ) → AwaitsNow (m ∷ e) s
    → f s ≤ start_now f m e
awaits-covers f (Begins d i) e s (inr h) =
    omega (
      arith,
      greatest-covers f (λ other. items_conflict other i) (ended_of (running_task e) e) s h,
    )
awaits-covers f Ends e s (inl h) =
    let is = ap f h in
    elim (cases_Bool (is_undeferred (running_task e) e)) [
      | inl r ↦ rw r (omega arith)
      | inr r ↦ rw r (omega arith)
    ]
awaits-covers f Ends e s (inr h) = rw h.0 (omega (arith, at_latest f e s h.1))
awaits-covers f (Works cost) e s h = absurd h
awaits-covers f Waits e s (inr h) =
    omega (arith, greatest-covers f any_items (ended_of (running_task e) e) s h)
awaits-covers f GroupBegins e s h = absurd h
awaits-covers f GroupEnds e s (inr h) =
    omega (arith, greatest-covers f any_items (ended_in_first (open_groups e) e) s h)
awaits-covers f _ e s (inl h) = omega (arith, at_latest f e s h)

-- the later of the latest segment's end and the greatest of some others
later : (f : ℕ → ℕ) (e : List Mark) (P : ℕ → Type 0) (n : ℕ) → 0 < segments_so_far e
    → Reached f P n
    → Reached f (λ s. (segments_so_far e ≡ s + 1) ⊎ P s) (max (f (latest e)) n)
later f e P n l r = elim (cases_lt (f (latest e)) n) [
  | inl x ↦ elim r [
    | inl z ↦ inl (omega arith)
    | inr w ↦ inr (w.0, inr w.1, omega (arith, w.2))
  ]
  | inr x ↦ inr (latest e, inl (omega arith), omega arith)
]

-- and starts at 0 or where one of them ends
pub awaits-reached : (m : Mark) (e : List Mark) → IsProper (m ∷ e) → opens m ≡ true
    → Reached (end_of e) (AwaitsNow (m ∷ e)) (start_now (end_of e) m e)
awaits-reached (Begins d i) [] p o = inl refl
awaits-reached (Begins d i) (x ∷ e) p o =
    let some : 0 < segments_so_far (x ∷ e) = some_mark x e p.1 in
    later (end_of (x ∷ e)) (x ∷ e)
    (IsLastOf (λ other. items_conflict other i) (ended_of (running_task (x ∷ e)) (x ∷ e)))
    _ some
    (greatest-reached (end_of (x ∷ e)) (λ other. items_conflict other i)
    (ended_of (running_task (x ∷ e)) (x ∷ e)))
  where
    some_mark : (x : Mark) (e : List Mark) → IsProper (x ∷ e) → 0 < segments_so_far (x ∷ e)
    some_mark x e p = elim (cases_lt 0 (tasks_so_far (x ∷ e))) [
      | inl l ↦ begun_some_segment (x ∷ e) p l
      | inr l ↦ absurd (no_mark x e (nothing_before (x ∷ e) p (omega arith)))
    ]
      where
        no_mark : (x : Mark) (e : List Mark) → ◌≡◌ {A = List Mark} (x ∷ e) [] → ⊥
        no_mark x e h =
            let long : length (x ∷ e) ≡ 0 = ap (λ (xs : List Mark). length xs) h in omega arith
awaits-reached Ends e p o =
    let u = running_task (Ends ∷ e) in
    let some = some_segment e p.1 (omega (arith, p.0)) in
    elim (cases_Bool (is_undeferred (running_task e) e)) [
      | inl r ↦ elim (cases_lt (end_of e (last_of u e)) (end_of e (latest e))) [
        | inl l ↦ rw r (inr (latest e, inr (refl, omega arith), omega arith))
        | inr l ↦ rw r (inr (last_of u e, inl refl, omega arith))
      ]
      | inr r ↦ rw r (inr (last_of u e, inl refl, refl))
    ]
awaits-reached (Works cost) e p o = absurd (grind arith)
awaits-reached Waits e p o =
    later (end_of e) e (IsLastOf any_items (ended_of (running_task e) e)) _
    (some_segment e p.1 p.0)
    (greatest-reached (end_of e) any_items (ended_of (running_task e) e))
awaits-reached GroupBegins e p o = absurd (grind arith)
awaits-reached GroupEnds e p o =
    later (end_of e) e (IsLastOf any_items (ended_in_first (open_groups e) e)) _
    (some_segment e p.1 p.0)
    (greatest-reached (end_of e) any_items (ended_in_first (open_groups e) e))

-- a segment that has not opened has no opening
pub opening_of-none : (e : List Mark) (t : ℕ) → segments_so_far e ≤ t → opening_of t e ≡ []
opening_of-none [] t l = refl
opening_of-none (m ∷ e) t l = elim (cases_Bool (opens m)) [
  | inl o ↦ (
      let one_more = segments_opens m e o in
      let other : eqb (segments_so_far e) t ≡ false = grind (arith, nat_tests) in
      rw (o, other) (opening_of-none e t (omega arith)))
  | inr o ↦ rw o (opening_of-none e t (omega (arith, count-cons opens m e)))
]

-- where a segment opened
pub record Opened (e : List Mark) (t : ℕ) : Type 0 where
  pub mark : Mark
  pub before : List Mark
  pub opened : opening_of t e ≡ mark ∷ before
  pub opens_one : opens mark ≡ true
  pub number : segments_so_far before ≡ t
  pub proper : IsProper (mark ∷ before)
  pub ends : (s : ℕ) → s < t → end_of e s ≡ end_of before s

opened_more : (m : Mark) (e : List Mark) (t : ℕ) → t < segments_so_far e → Opened e t
    → opening_of t (m ∷ e) ≡ opening_of t e
    → Opened (m ∷ e) t
opened_more m e t l h same = record {
  mark = h.mark;
  before = h.before;
  opened = same ∙ h.opened;
  opens_one = h.opens_one;
  number = h.number;
  proper = h.proper;
  ends = λ s k. end_of-old m e s (omega arith) ∙ h.ends s k;
}

opened_now : (m : Mark) (e : List Mark) → IsProper (m ∷ e) → opens m ≡ true
    → Opened (m ∷ e) (segments_so_far e)
opened_now m e p o = record {
  mark = m;
  before = e;
  opened = opening_of-new m e o;
  opens_one = o;
  number = refl;
  proper = p;
  ends = λ s k. end_of-before m e s o k;
}

opened_at : (m : Mark) (e : List Mark) → IsProper (m ∷ e) → opens m ≡ true
    → ((t : ℕ) → t < segments_so_far e → Opened e t)
    → (t : ℕ)
    → t < segments_so_far (m ∷ e)
    → Opened (m ∷ e) t
opened_at m e p o earlier t l = elim (cases_lt t (segments_so_far e)) [
  | inl x ↦ opened_more m e t x (earlier t x) (opening_of-old m e t x)
  | inr x ↦ (
      let is : segments_so_far e ≡ t = omega (arith, segments_opens m e o) in
      subst (Opened (m ∷ e)) is (opened_now m e p o))
]

pub has_opened : (e : List Mark) → IsProper e → (t : ℕ) → t < segments_so_far e → Opened e t
has_opened [] p t l = absurd (omega arith)
has_opened (Begins d i ∷ e) p t l = opened_at (Begins d i) e p refl (has_opened e p.1) t l
has_opened (Ends ∷ e) p t l = opened_at Ends e p refl (has_opened e p.1) t l
has_opened (Works cost ∷ e) p t l =
    opened_more (Works cost) e t l (has_opened e p.1 t l) refl
has_opened (Waits ∷ e) p t l = opened_at Waits e p refl (has_opened e p.1) t l
has_opened (GroupBegins ∷ e) p t l =
    opened_more GroupBegins e t l (has_opened e p.1 t l) refl
has_opened (GroupEnds ∷ e) p t l = opened_at GroupEnds e p refl (has_opened e p.1) t l

-- where a segment starts at the earliest
abbrev pub start_of : List Mark → ℕ → ℕ
start_of e t = end_of (opening_of t e) t

pub costs-length : (e : List Mark) → length (costs_at e) ≡ segments_so_far e
costs-length e =
    length-map (table_at e).segments (λ (row : Segment). row.cost) ∙ segments-at e

pub cost-at : (e : List Mark) (s : ℕ) → s < segments_so_far e → at (costs_at e) s ≡ cost_of s e
cost-at e s l =
    get_or-map (λ (row : Segment). row.cost) (table_at e).segments s no_segment 0
    (omega (arith, segments-at e))
    ∙ ap (λ (row : Segment). row.cost) (segment-at e s l)

ends_opens : (m : Mark) (e : List Mark) → opens m ≡ true
    → ((s : ℕ) → s < segments_so_far e → end_of e s ≡ start_of e s + cost_of s e)
    → (s : ℕ)
    → s < segments_so_far (m ∷ e)
    → end_of (m ∷ e) s ≡ start_of (m ∷ e) s + cost_of s (m ∷ e)
ends_opens m e o earlier s l =
    let cost = cost_latest m e s o in
    elim (cases_lt s (segments_so_far e)) [
      | inl x ↦
          omega (
            arith,
            earlier s x,
            end_of-before m e s o x,
            ap (λ (xs : List Mark). end_of xs s) (opening_of-old m e s x),
          )
      | inr x ↦ (
          let is : segments_so_far e ≡ s = omega (arith, segments_opens m e o) in
          let none = cost_none e s (omega arith) in
          let P : ℕ → Type 0 = λ s. end_of (m ∷ e) s ≡ end_of (opening_of s (m ∷ e)) s in
          let here : P (segments_so_far e) =
          ap (λ (xs : List Mark). end_of xs (segments_so_far e)) (sym (opening_of-new m e o)) in
          let there = subst P is here in
          omega arith)
    ]

-- a segment ends its cost after its start
pub end_is : (e : List Mark) (s : ℕ) → s < segments_so_far e
    → end_of e s ≡ start_of e s + cost_of s e
end_is [] s l = absurd (omega arith)
end_is (Begins d i ∷ e) s l = ends_opens (Begins d i) e refl (end_is e) s l
end_is (Ends ∷ e) s l = ends_opens Ends e refl (end_is e) s l
end_is (Works cost ∷ e) s l = omega (arith, end_is e s l)
end_is (Waits ∷ e) s l = ends_opens Waits e refl (end_is e) s l
end_is (GroupBegins ∷ e) s l = end_is e s l
end_is (GroupEnds ∷ e) s l = ends_opens GroupEnds e refl (end_is e) s l

abbrev pub starts_at : List Mark → List ℕ
starts_at e = by_rule (start_of e) (segments_so_far e)

-- where the segment opened, it starts by what it awaits
start_is : (e : List Mark) (t : ℕ) (h : Opened e t)
    → start_of e t ≡ start_now (end_of h.before) h.mark h.before
start_is e t h =
    ap (λ (xs : List Mark). end_of xs t) h.opened
    ∙ ap (λ (n : ℕ). end_of (h.mark ∷ h.before) n) (sym h.number)
    ∙ end_of-new h.mark h.before h.opens_one

awaits_now : (e : List Mark) (s t : ℕ) (h : Opened e t) → Awaits e s t
    → AwaitsNow (h.mark ∷ h.before) s
awaits_now e s t h r = subst (λ (xs : List Mark). AwaitsNow xs s) h.opened r

pub ascends : (e : List Mark) → IsProper e → IsAscending (Awaits e)
ascends e p = record { up = λ s t r. up s t r (cases_lt t (segments_so_far e)) }
  where
    up : (s t : ℕ) → Awaits e s t → (t < segments_so_far e) ⊎ (segments_so_far e ≤ t) → s < t
    up s t r (inl l) =
        let h = has_opened e p t l in
        omega (arith, awaits-before h.mark h.before h.proper s (awaits_now e s t h r), h.number)
    up s t r (inr l) =
        absurd (subst (λ (xs : List Mark). AwaitsNow xs s) (opening_of-none e t l) r)

pub earliest : (e : List Mark) → IsProper e → IsEarliest (costs_at e) (Awaits e) (starts_at e)
earliest e p =
    let n = segments_so_far e in
    let many = costs-length e in
    let end_at : (s : ℕ) → s < n → at (starts_at e) s + at (costs_at e) s ≡ end_of e s =
    λ s l. omega (arith, at-by_rule (start_of e) n s l, cost-at e s l, end_is e s l) in
    record {
      legal = record {
        each = length-by_rule (start_of e) n ∙ sym many;
        kept = λ s t l r.
            let inside : t < n = omega arith in
            let h = has_opened e p t inside in
            let now = awaits_now e s t h r in
            let before : s < t =
            omega (arith, awaits-before h.mark h.before h.proper s now, h.number) in
            omega (
              arith,
              end_at s (omega arith),
              h.ends s before,
              awaits-covers (end_of h.before) h.mark h.before s now,
              start_is e t h,
              at-by_rule (start_of e) n t inside,
            );
      };
      reached = λ t l.
          let inside : t < n = omega arith in
          let h = has_opened e p t inside in
          let start = at-by_rule (start_of e) n t inside ∙ start_is e t h in
          elim (awaits-reached h.mark h.before h.proper h.opens_one) [
            | inl z ↦ inl (start ∙ z)
            | inr w ↦ (
                let s = w.0 in
                let before : s < t =
                omega (arith, awaits-before h.mark h.before h.proper s w.1, h.number) in
                let awaits : Awaits e s t =
                subst (λ (xs : List Mark). AwaitsNow xs s) (sym h.opened) w.1 in
                inr (s, awaits, omega (arith, end_at s (omega arith), h.ends s before, w.2, start)))
          ];
    }

-- the greatest end is the span, under each relation under which the starts are the earliest
pub span_under : (e : List Mark) (R : ℕ → ℕ → Type 0) (span : ℕ) → 0 < segments_so_far e
    → IsAscending R
    → IsEarliest (costs_at e) R (starts_at e)
    → IsGreatestEnd e span
    → IsSpan (costs_at e) R span × IsLeastEnd (costs_at e) R span
span_under e R span some ascending first h =
    let n = segments_so_far e in
    let many = costs-length e in
    let end_at : (s : ℕ) → s < n → at (starts_at e) s + at (costs_at e) s ≡ end_of e s =
    λ s l. omega (arith, at-by_rule (start_of e) n s l, cost-at e s l, end_is e s l) in
    let at_most : schedule.end_of (costs_at e) (starts_at e) ≤ span =
    end_of-least (costs_at e) (starts_at e) span
    (λ s l. omega (arith, end_at s (omega arith), h.covers s)) in
    let at_least =
    end_of-covers (costs_at e) (starts_at e) first.legal.each h.reached.0
    (omega (arith, h.reached.1)) in
    let is : schedule.end_of (costs_at e) (starts_at e) ≡ span =
    omega (arith, end_at h.reached.0 h.reached.1, h.reached.2) in
    let P : ℕ → Type 0 = λ n. IsSpan (costs_at e) R n in
    let Q : ℕ → Type 0 = λ n. IsLeastEnd (costs_at e) R n in (
      subst P is (IsSpan-earliest (costs_at e) R (starts_at e) ascending first (omega arith)),
      subst Q is (IsLeastEnd-earliest (costs_at e) R (starts_at e) ascending first),
    )

-- so it is under what each segment awaits
pub span_is : (e : List Mark) (span : ℕ) → IsProper e → 0 < length (open_tasks e)
    → IsGreatestEnd e span
    → IsSpanAt e span
span_is e span p l h =
    let is = span_under e (Awaits e) span (some_segment e p l) (ascends e p) (earliest e p) h in
    record { greatest_sum = is.0; least_end = is.1 }
