use Rattle.std.proofs.Common.{List, refl, sym, ◌∙◌, subst}
use Rattle.dispatch_core.specs.declared.event.Event.{Event}
use Rattle.worker_run.specs.Workers.{AreBelow}
use Rattle.worker_run.proofs.worked.Worked.fitting.Goals as goal
use Rattle.worker_run.proofs.worked.Worked.fitting.Goals.{then-not-same-via-then-not-same, then-not-same-via-else-not-same+then-not-are_below}

pub returns-then-not-same-clause-kept : goal.returns-then-not-same-clause-kept
returns-then-not-same-clause-kept g c same below = elim c.then-not-same.branch [
  | then-not-same-via-then-not-same w ↦ w.if-not-same.ensures.1 (c.table.ensures ∙ same)
  | then-not-same-via-else-not-same+then-not-are_below w ↦ w.if-not-are_below.ensures.1
      (subst (λ (h : List Event). AreBelow c.args.workers h) (sym w.history.ensures.events) below)
]

pub returns-clause-below : goal.returns-clause-below
returns-clause-below g c = subst (λ (h : List Event). AreBelow c.args.workers h)
    c.history.ensures.events (c.if-not-are_below.ensures.0 refl)
