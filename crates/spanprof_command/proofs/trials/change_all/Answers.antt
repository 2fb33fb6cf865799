use Rattle.std.proofs.Common.{ap, ◌∙◌}
use Rattle.std.proofs.lemmas.Result.{err_from_is_err_and}
use Rattle.whatif_costs.specs.Changed.{Trial}
use Rattle.spanprof_command.proofs.TriedAtOnce.{accepted_all, refused_all}
use Rattle.spanprof_command.proofs.trials.change_all.Goals as goal

pub returns-in_err-set_all-clause-refused : goal.returns-in_err-set_all-clause-refused
returns-in_err-set_all-clause-refused c =
    let passed_on = err_from_is_err_and c.from_residual.result c.from_residual.ensures.1 in
    rw (passed_on.1, passed_on.2)
    (refused_all c.args.trial.now.graph c.args.changes.now c.as_slice.result.now
    c.in_err-set_all.field-0.0 (c.as_slice.ensures.value ∙ c.in-Ok.ensures)
    c.in_err-set_all.ensures.refused)

pub returns-clause-accepted : goal.returns-clause-accepted
returns-clause-accepted c =
    accepted_all c.args.trial.now.graph c.set_all.new.self.graph c.args.changes.now
    c.as_slice.result.now (c.as_slice.ensures.value ∙ c.in-Ok.ensures)
    c.in_ok-set_all.ensures.accepted
    (ap (λ (t : Trial). t.graph) c.in_ok-set_all.ensures.costs)
