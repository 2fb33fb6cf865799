use Rattle.std.proofs.Common.{◌≡◌, ◌↔◌, Some, sym, subst, ap, ◌∙◌}
use Rattle.std.specs.Prelude.{IsTrue, slice_get}
use Rattle.std.proofs.lemmas.Option.{same_Some}
use Rattle.dispatch_core.specs.Run.{Run, HasStarted}
use Rattle.dispatch_core.proofs.dispatch.BoundedCore.has_started.Goals as goal

pub returns : goal.returns
returns g c =
    let P : Run → Type 0 = λ run. IsTrue c.flag.result ↔ HasStarted run.history c.args.segment in
    let are = c.self.invariant.are_started in
    let is : slice_get c.self.inside.started.items c.args.segment ≡ Some c.flag.result =
    ap (λ l. slice_get l c.args.segment) (sym c.as_slice.ensures.value) ∙ c.flag.ensures in
    subst P c.self.view_is (
      λ h. are.is_started c.args.segment (is ∙ ap (λ b. Some b) h),
      λ h. same_Some _ _ (sym is ∙ are.has_started c.args.segment h),
    )
