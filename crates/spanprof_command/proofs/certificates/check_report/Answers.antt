use Rattle.span_cert.specs.OneVerdict.{Judges}
use Rattle.spanprof_command.proofs.Verdicts.{judged_of, tells}
use Rattle.spanprof_command.proofs.certificates.check_report.Goals as goal

pub returns : goal.returns
returns g c =
    let judged = judged_of (Judges c.args.document.now) c.check-verdict.result
    c.check-verdict.ensures.accepted c.check-verdict.ensures.refused in
    tells (Judges c.args.document.now) c.check-verdict.result c.tell_verdict.result judged
    c.tell_verdict.ensures.told c.tell_verdict.ensures.verdict
