-- What a segment awaits does not depend on costs.
use Rattle.std.proofs.Common.{◌≡◌, ℕ, Bool, true, List, [], ◌∷◌}
use Rattle.std.proofs.Common.{refl, sym, subst, ◌∙◌, inl, inr, arith}
use Rattle.std.proofs.Common.{eqb}
use Rattle.std.proofs.lemmas.Bool.{cases_Bool}
use Rattle.std.specs.List.{count_by}
use Rattle.task_program.specs.Marks.{Mark}
use Rattle.task_program.specs.Marks.Mark.{Begins, Ends, Works, Waits, GroupBegins, GroupEnds}
use Rattle.task_segments.specs.Moments.{OpenGroup, opens, begins_task, begins_group, segments_so_far}
use Rattle.task_segments.specs.Moments.{tasks_so_far, groups_so_far, open_tasks, open_groups}
use Rattle.task_segments.specs.Moments.{running_task, children_of, opening_of, last_of}
use Rattle.task_segments.proofs.Steps.{count-cons}
use Rattle.online_span.specs.Awaiting.{AwaitsNow, Awaits, items_of}
use Rattle.online_span.specs.Awaiting.{is_undeferred, ended_of, ended_in, ended_in_first}

-- the same marks with cost 0 everywhere
abbrev pub without_costs : List Mark → List Mark
without_costs [] = []
without_costs (Begins d i ∷ e) = Begins d i ∷ without_costs e
without_costs (Ends ∷ e) = Ends ∷ without_costs e
without_costs (Works cost ∷ e) = Works 0 ∷ without_costs e
without_costs (Waits ∷ e) = Waits ∷ without_costs e
without_costs (GroupBegins ∷ e) = GroupBegins ∷ without_costs e
without_costs (GroupEnds ∷ e) = GroupEnds ∷ without_costs e

more_marks : (p : Mark → Bool) (m : Mark) (e f : List Mark) → count_by p e ≡ count_by p f
    → count_by p (m ∷ e) ≡ count_by p (m ∷ f)
more_marks p m e f h = omega (arith, count-cons p m e, count-cons p m f)

same_count : (p : Mark → Bool) → ((cost : ℕ) → p (Works 0) ≡ p (Works cost)) → (e : List Mark)
    → count_by p (without_costs e) ≡ count_by p e
same_count p h [] = refl
same_count p h (Begins d i ∷ e) = more_marks p (Begins d i) (without_costs e) e (same_count p h e)
same_count p h (Ends ∷ e) = more_marks p Ends (without_costs e) e (same_count p h e)
same_count p h (Works cost ∷ e) =
    count-cons p (Works 0) (without_costs e)
    ∙ rw (h cost, same_count p h e) (sym (count-cons p (Works cost) e))
same_count p h (Waits ∷ e) = more_marks p Waits (without_costs e) e (same_count p h e)
same_count p h (GroupBegins ∷ e) = more_marks p GroupBegins (without_costs e) e (same_count p h e)
same_count p h (GroupEnds ∷ e) = more_marks p GroupEnds (without_costs e) e (same_count p h e)

-- so as many segments, tasks and groups
pub same_segments : (e : List Mark) → segments_so_far (without_costs e) ≡ segments_so_far e
same_segments e = same_count opens (λ cost. refl) e

pub same_tasks : (e : List Mark) → tasks_so_far (without_costs e) ≡ tasks_so_far e
same_tasks e = same_count begins_task (λ cost. refl) e

same_groups : (e : List Mark) → groups_so_far (without_costs e) ≡ groups_so_far e
same_groups e = same_count begins_group (λ cost. refl) e

same_open_tasks : (e : List Mark) → open_tasks (without_costs e) ≡ open_tasks e
same_open_tasks [] = refl
same_open_tasks (Begins d i ∷ e) = rw (same_tasks e, same_open_tasks e) refl
same_open_tasks (Ends ∷ e) = rw (same_open_tasks e) refl
same_open_tasks (Works cost ∷ e) = same_open_tasks e
same_open_tasks (Waits ∷ e) = same_open_tasks e
same_open_tasks (GroupBegins ∷ e) = same_open_tasks e
same_open_tasks (GroupEnds ∷ e) = same_open_tasks e

same_children : (u : ℕ) (e : List Mark) → children_of u (without_costs e) ≡ children_of u e
same_children u [] = refl
same_children u (Begins d i ∷ e) = rw (same_open_tasks e, same_children u e) refl
same_children u (Ends ∷ e) = same_children u e
same_children u (Works cost ∷ e) = same_children u e
same_children u (Waits ∷ e) = same_children u e
same_children u (GroupBegins ∷ e) = same_children u e
same_children u (GroupEnds ∷ e) = same_children u e

same_open_groups : (e : List Mark) → open_groups (without_costs e) ≡ open_groups e
same_open_groups [] = refl
same_open_groups (Begins d i ∷ e) = same_open_groups e
same_open_groups (Ends ∷ e) = same_open_groups e
same_open_groups (Works cost ∷ e) = same_open_groups e
same_open_groups (Waits ∷ e) = same_open_groups e
same_open_groups (GroupBegins ∷ e) =
    rw (same_groups e, same_open_tasks e, same_children (running_task e) e, same_open_groups e) refl
same_open_groups (GroupEnds ∷ e) = rw (same_open_groups e) refl

same_items : (u : ℕ) (e : List Mark) → items_of u (without_costs e) ≡ items_of u e
same_items u [] = refl
same_items u (Begins d i ∷ e) = rw (same_tasks e, same_items u e) refl
same_items u (Ends ∷ e) = same_items u e
same_items u (Works cost ∷ e) = same_items u e
same_items u (Waits ∷ e) = same_items u e
same_items u (GroupBegins ∷ e) = same_items u e
same_items u (GroupEnds ∷ e) = same_items u e

same_undeferred : (u : ℕ) (e : List Mark) → is_undeferred u (without_costs e) ≡ is_undeferred u e
same_undeferred u [] = refl
same_undeferred u (Begins d i ∷ e) = rw (same_tasks e, same_undeferred u e) refl
same_undeferred u (Ends ∷ e) = same_undeferred u e
same_undeferred u (Works cost ∷ e) = same_undeferred u e
same_undeferred u (Waits ∷ e) = same_undeferred u e
same_undeferred u (GroupBegins ∷ e) = same_undeferred u e
same_undeferred u (GroupEnds ∷ e) = same_undeferred u e

same_last : (u : ℕ) (e : List Mark) → last_of u (without_costs e) ≡ last_of u e
same_last u [] = refl
same_last u (Begins d i ∷ e) =
    rw (same_segments e, same_tasks e, same_last u e) refl
same_last u (Ends ∷ e) = rw (same_segments e, same_open_tasks e, same_last u e) refl
same_last u (Works cost ∷ e) = same_last u e
same_last u (Waits ∷ e) = rw (same_segments e, same_open_tasks e, same_last u e) refl
same_last u (GroupBegins ∷ e) = same_last u e
same_last u (GroupEnds ∷ e) = rw (same_segments e, same_open_tasks e, same_last u e) refl

same_ended : (u : ℕ) (e : List Mark) → ended_of u (without_costs e) ≡ ended_of u e
same_ended u [] = refl
same_ended u (Begins d i ∷ e) = same_ended u e
same_ended u (Ends ∷ e) =
    rw (same_open_tasks e, same_items (running_task e) e, same_segments e, same_ended u e) refl
same_ended u (Works cost ∷ e) = same_ended u e
same_ended u (Waits ∷ e) = same_ended u e
same_ended u (GroupBegins ∷ e) = same_ended u e
same_ended u (GroupEnds ∷ e) = same_ended u e

same_inside : (g : ℕ) (e : List Mark) → ended_in g (without_costs e) ≡ ended_in g e
same_inside g [] = refl
same_inside g (Begins d i ∷ e) = same_inside g e
same_inside g (Ends ∷ e) =
    rw (same_open_tasks e, same_items (running_task e) e, same_segments e, same_inside g e) refl
same_inside g (Works cost ∷ e) = same_inside g e
same_inside g (Waits ∷ e) = same_inside g e
same_inside g (GroupBegins ∷ e) = rw (same_groups e, same_inside g e) refl
same_inside g (GroupEnds ∷ e) = same_inside g e

same_in_first : (groups : List OpenGroup) (e : List Mark)
    → ended_in_first groups (without_costs e) ≡ ended_in_first groups e
same_in_first [] e = refl
same_in_first (g ∷ groups) e = same_inside g.number e

opening_here : (t : ℕ) (m : Mark) (e : List Mark)
    → opens m ≡ true
    → ◌≡◌ {A = List Mark} (without_costs (m ∷ e)) (m ∷ without_costs e)
    → opening_of t (without_costs e) ≡ without_costs (opening_of t e)
    → opening_of t (m ∷ without_costs e) ≡ without_costs (opening_of t (m ∷ e))
opening_here t m e o whole h = elim (cases_Bool (eqb (segments_so_far e) t)) [
  | inl r ↦ rw (o, same_segments e, r) (sym whole)
  | inr r ↦ rw (o, same_segments e, r) h
]

same_opening : (t : ℕ) (e : List Mark)
    → opening_of t (without_costs e) ≡ without_costs (opening_of t e)
same_opening t [] = refl
same_opening t (Begins d i ∷ e) = opening_here t (Begins d i) e refl refl (same_opening t e)
same_opening t (Ends ∷ e) = opening_here t Ends e refl refl (same_opening t e)
same_opening t (Works cost ∷ e) = same_opening t e
same_opening t (Waits ∷ e) = opening_here t Waits e refl refl (same_opening t e)
same_opening t (GroupBegins ∷ e) = same_opening t e
same_opening t (GroupEnds ∷ e) = opening_here t GroupEnds e refl refl (same_opening t e)

abbrev BothWays : Type 0 → Type 0 → Type 0
BothWays one other = (one → other) × (other → one)

-- what is awaited now, with costs and without
same_now : (e : List Mark) (s : ℕ) → BothWays (AwaitsNow (without_costs e) s) (AwaitsNow e s)
same_now [] s = (λ k. k, λ k. k)
same_now (Begins d i ∷ e) s =
    rw (same_segments e, same_open_tasks e, same_ended (running_task e) e) (λ k. k, λ k. k)
same_now (Ends ∷ e) s =
    rw (
      same_open_tasks e,
      same_last (running_task (Ends ∷ e)) e,
      same_undeferred (running_task e) e,
      same_segments e,
    ) (λ k. k, λ k. k)
same_now (Works cost ∷ e) s = (λ k. k, λ k. k)
same_now (Waits ∷ e) s =
    rw (same_segments e, same_open_tasks e, same_ended (running_task e) e) (λ k. k, λ k. k)
same_now (GroupBegins ∷ e) s = (λ k. k, λ k. k)
same_now (GroupEnds ∷ e) s =
    rw (same_segments e, same_open_groups e, same_in_first (open_groups e) e) (λ k. k, λ k. k)

-- what a segment awaits, without costs and with them
pub awaited_without : (e : List Mark) (s t : ℕ) → Awaits e s t → Awaits (without_costs e) s t
awaited_without e s t k =
    subst (λ (xs : List Mark). AwaitsNow xs s) (sym (same_opening t e))
    ((same_now (opening_of t e) s).1 k)

pub awaited_with : (e : List Mark) (s t : ℕ) → Awaits (without_costs e) s t → Awaits e s t
awaited_with e s t k =
    (same_now (opening_of t e) s).0
    (subst (λ (xs : List Mark). AwaitsNow xs s) (same_opening t e) k)
