use Rattle.std.proofs.Common.{refl, sym, ap, ◌∙◌, subst, inl, inr}
use Rattle.dispatch_core.specs.Run.{Run, IsFinished}
use Rattle.worker_run.proofs.desk.Desk.hand_over.Goals as goal
use Rattle.worker_run.proofs.desk.Desk.hand_over.Goals.{then-is_finished, else-is_finished}

-- a desk that was not over is so only where the run is finished
pub returns-in_default-clause-over : goal.returns-in_default-clause-over
returns-in_default-clause-over g c over = elim c.if-is_finished.branch [
  | then-is_finished w ↦ inr (subst (λ (r : Run). IsFinished r.table r.history)
      (sym (ap (λ d. d.core) (w.self-is ∙ w.end-then-is_finished.ensures))) (w.if-is_finished.ensures.0 refl))
  | else-is_finished w ↦ inl (sym (ap (λ d. d.over) w.self-is) ∙ over)
]
