use Rattle.span_cert.specs.OneVerdict.{JudgesOf}
use Rattle.spanprof_command.proofs.Verdicts.{judged_of, tells}
use Rattle.spanprof_command.proofs.certificates.tell_claim.Goals as goal

pub returns : goal.returns
returns g c =
    let table = c.args.table.now in
    let judged = judged_of (JudgesOf table c.args.text.now) c.check_claim-verdict.result
    c.check_claim-verdict.ensures.accepted c.check_claim-verdict.ensures.refused in
    tells (JudgesOf table c.args.text.now) c.check_claim-verdict.result c.tell_verdict.result judged
    c.tell_verdict.ensures.told c.tell_verdict.ensures.verdict
