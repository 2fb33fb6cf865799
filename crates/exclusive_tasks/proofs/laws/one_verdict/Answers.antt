use Rattle.exclusive_tasks.proofs.OneVerdict.{one_verdict}
use Rattle.exclusive_tasks.proofs.laws.one_verdict.Goals as goal

pub returns : goal.returns
returns c = one_verdict
