-- What is written of a verdict is the report of what was judged.
use Rattle.std.proofs.Common.{◌≡◌, true, Result, Ok, Err}
use Rattle.std.specs.Result.{IfErr, IfOk, OnOk}
use Rattle.span_cert.specs.OneVerdict.{is_verdict}
use Rattle.span_cert.specs.declared.checker.Checked.{Checked}
use Rattle.span_cert.specs.declared.fault.CheckFault.{CheckFault}
use Rattle.spanprof_command.specs.Certificates.{TellsVerdict, report_of}
use Rattle.spanprof_command.specs.Report.{Report}

pub judged_of : (Judged : Result Checked CheckFault → Type 0) (verdict : Result Checked CheckFault)
    → IfOk verdict (λ checked. Judged (Ok checked))
    → IfErr verdict (λ why. Judged (Err why))
    → Judged verdict
judged_of Judged (Ok checked) accepted refused = accepted
judged_of Judged (Err why) accepted refused = refused

pub tells : {E : Type 0} (Judged : Result Checked CheckFault → Type 0)
    (verdict : Result Checked CheckFault) (result : Result Report E)
    → Judged verdict
    → IfOk result (λ report. report ≡ report_of verdict)
    → OnOk result (is_verdict verdict ≡ true)
    → IfOk result (λ report. TellsVerdict Judged report)
tells Judged verdict (Ok report) judged told is =
    record { verdict = verdict; judged = judged; is_one = is; says = told }
tells Judged verdict (Err why) judged told is = tt
