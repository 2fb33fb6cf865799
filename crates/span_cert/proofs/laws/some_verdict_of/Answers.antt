use Rattle.span_cert.proofs.SomeVerdict.{some_verdict_of}
use Rattle.span_cert.proofs.laws.some_verdict_of.Goals as goal

pub returns : goal.returns
returns g c = λ text. some_verdict_of c.args.table.now text c.serves_runs.ensures
