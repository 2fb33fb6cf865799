use Rattle.std.proofs.Common.{◌↔◌, sym, subst, ap, ◌∙◌}
use Rattle.std.specs.Prelude.{IsTrue, Bool}
use Rattle.dispatch_core.specs.Run.{Run, HasFinished}
use Rattle.open_segments.specs.Entry.{entry}
use Rattle.dispatch_core.proofs.Readings.{finished_known}
use Rattle.dispatch_core.proofs.dispatch.BoundedCore.has_finished.Goals as goal

pub returns : goal.returns
returns g c =
    let P : Run → Type 0 = λ run.
    IsTrue c.is_some.result ↔ HasFinished run.history c.args.segment in
    let Q : Bool → Type 0 = λ b.
    IsTrue b ↔ HasFinished c.self.inside.history.items c.args.segment in
    subst P c.self.view_is (subst Q (sym c.is_some.ensures) (finished_known _ _ _ _ _ _
    c.self.invariant.are_values
    (c.value_entry.ensures ∙ ap (λ list. entry list c.args.segment) c.as_slice.ensures.value)))
