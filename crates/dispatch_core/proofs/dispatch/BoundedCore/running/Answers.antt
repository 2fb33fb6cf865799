use Rattle.std.proofs.Common.{ℕ, ◌≡◌, ◌↔◌, Some, sym, subst, ap, ◌∙◌}
use Rattle.dispatch_core.specs.Run.{Run, Runs}
use Rattle.open_segments.specs.Entry.{entry}
use Rattle.dispatch_core.proofs.dispatch.BoundedCore.running.Goals as goal

pub returns : goal.returns
returns g c =
    let P : Run → Type 0 = λ run. (segment : ℕ)
    → (c.worker_entry.result ≡ Some segment) ↔ Runs run.history c.args.worker segment in
    let is =
    c.worker_entry.ensures ∙ ap (λ list. entry list c.args.worker) c.as_slice.ensures.value in
    let are = c.self.invariant.are_running in
    subst P c.self.view_is (λ segment. (
      λ h. are.is_run c.args.worker segment (sym is ∙ h),
      λ h. is ∙ are.runs c.args.worker segment h,
    ))
