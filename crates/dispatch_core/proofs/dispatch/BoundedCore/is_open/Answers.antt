use Rattle.std.proofs.Common.{ℕ, ◌≡◌, ◌⊎◌, ◌↔◌, Some, subst, inl, refl}
use Rattle.task_segments.specs.Precedence.{Continues, Creation}
use Rattle.dispatch_core.specs.Run.{Run}
use Rattle.dispatch_core.proofs.Readiness.{open_by}
use Rattle.dispatch_core.proofs.dispatch.BoundedCore.is_open.Goals as goal

pub returns-in-Some : goal.returns-in-Some
returns-in-Some g c =
    let P : Run → Type 0 = λ run. (s : ℕ)
    → (c.opener.result ≡ Some s)
    ↔ (Continues run.table s c.args.segment ⊎ Creation run.table s c.args.segment) in
    let both = open_by c.args.self.now.table c.args.self.now.history c.args.segment c.in-Some.before
    c.opener.result (subst P c.self.view_is c.opener.ensures.some) c.opener.ensures.none
    c.in-Some.is in
    (λ h. both.0 (c.has_finished.ensures.0 h), λ is_open. c.has_finished.ensures.1 (both.1 is_open))

pub returns-in-None : goal.returns-in-None
returns-in-None g c = (λ h. inl (c.opener.ensures.none.0 c.in-None.is), λ is_open. refl)
