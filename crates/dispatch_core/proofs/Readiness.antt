-- When a segment is ready, and when it becomes ready.
use Rattle.std.proofs.Common.{ℕ, ◌≡◌, ◌⊎◌, ◌↔◌, false, List, Option, Some, None, refl, sym, ◌∙◌}
use Rattle.std.proofs.Common.{subst, inl, inr}
use Rattle.std.specs.Prelude.{◌==◌, IsTrue}
use Rattle.std.proofs.lemmas.Bool.{both_ways, eqb-true, eq-eqb}
use Rattle.std.proofs.lemmas.Option.{none-some, same_Some}
use Rattle.task_segments.specs.Table.{Table}
use Rattle.task_segments.specs.Precedence.{Continues, Creation}
use Rattle.dispatch_core.specs.declared.event.Event.{Event}
use Rattle.dispatch_core.specs.Run.{HasFinished, Runs, IsOpen}

-- a segment opens by the finish of one other
pub open_by : (table : Table) (history : List Event) (t before : ℕ) (opener : Option ℕ)
    → ((s : ℕ) → (opener ≡ Some s) ↔ (Continues table s t ⊎ Creation table s t))
    → (opener ≡ None) ↔ (t ≡ 0)
    → opener ≡ Some before
    → HasFinished history before ↔ IsOpen table history t
open_by table history t before opener one none is = (
  λ h. inr (before, (one before).0 is, h),
  λ is_open. elim is_open [
    | inl first ↦ absurd (none-some before (sym (none.1 first) ∙ is))
    | inr by ↦
        subst (HasFinished history) (same_Some by.0 before (sym ((one by.0).1 by.1) ∙ is)) by.2
  ],
)

pub runs_known : (history : List Event) (worker s t : ℕ) (found : Option ℕ)
    → ((u : ℕ) → (found ≡ Some u) ↔ Runs history worker u)
    → found ≡ Some t
    → IsTrue (t == s) ↔ Runs history worker s
runs_known history worker s t found known is = (
  λ h. subst (λ (u : ℕ). Runs history worker u) (eqb-true t s h) ((known t).0 is),
  λ h. eq-eqb t s (same_Some t s (sym is ∙ (known s).1 h)),
)

pub runs_nothing : (history : List Event) (worker s : ℕ) (found : Option ℕ)
    → ((u : ℕ) → (found ≡ Some u) ↔ Runs history worker u)
    → found ≡ None
    → IsTrue false ↔ Runs history worker s
runs_nothing history worker s found known is =
    (λ h. absurd (both_ways false refl h), λ h. absurd (none-some s (sym is ∙ (known s).1 h)))
