use Rattle.large_command.proofs.SomeReport.{some_report}
use Rattle.large_command.proofs.laws.some_report.Goals as goal

pub returns : goal.returns
returns c = some_report
