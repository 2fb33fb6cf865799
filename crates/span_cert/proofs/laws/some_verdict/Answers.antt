use Rattle.span_cert.proofs.SomeVerdict.{some_verdict}
use Rattle.span_cert.proofs.laws.some_verdict.Goals as goal

pub returns : goal.returns
returns c = some_verdict
