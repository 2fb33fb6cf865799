use Rattle.dispatch_core.proofs.Uniqueness.{one_value, one_input}
use Rattle.dispatch_core.proofs.laws.one_value.Goals as goal

pub returns : goal.returns
returns c = record { values = one_value; inputs = one_input }
