use Rattle.std.proofs.Common.{ℕ, ◌↔◌, sym, subst, ap, ◌∙◌}
use Rattle.std.specs.Prelude.{IsTrue, Bool}
use Rattle.dispatch_core.specs.Run.{Run, Runs}
use Rattle.open_segments.specs.Entry.{entry}
use Rattle.dispatch_core.proofs.Readings.{busy_known}
use Rattle.dispatch_core.proofs.dispatch.BoundedCore.is_busy.Goals as goal

pub returns : goal.returns
returns g c =
    let P : Run → Type 0 = λ run.
    IsTrue c.is_some.result ↔ ((segment : ℕ) × Runs run.history c.args.worker segment) in
    let Q : Bool → Type 0 = λ b.
    IsTrue b ↔ ((segment : ℕ) × Runs c.self.inside.history.items c.args.worker segment) in
    subst P c.self.view_is (subst Q (sym c.is_some.ensures) (busy_known _ _ _ _
    c.self.invariant.are_running
    (c.worker_entry.ensures ∙ ap (λ list. entry list c.args.worker) c.as_slice.ensures.value)))
