use Rattle.std.proofs.Common.{subst}
use Rattle.std.specs.Result.{IfErr, IfOk}
use Rattle.task_segments.specs.Table.{Table}
use Rattle.span_cert.specs.Acceptance.{IsChecked}
use Rattle.span_cert.specs.Tests.{Fails}
use Rattle.span_cert.proofs.checker.judge_on_program.Goals as goal

pub returns-clause-accepted : goal.returns-clause-accepted
returns-clause-accepted g c =
    subst (λ (table : Table). IfOk c.judge.result
    (λ checked. IsChecked checked table c.args.claim.now)) c.in_ok-table.ensures
    c.judge.ensures.checked

pub returns-clause-refused : goal.returns-clause-refused
returns-clause-refused g c =
    subst (λ (table : Table). IfErr c.judge.result (Fails table c.args.claim.now))
    c.in_ok-table.ensures c.judge.ensures.refused
