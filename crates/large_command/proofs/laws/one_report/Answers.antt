use Rattle.large_command.proofs.OneReport.{one_report}
use Rattle.large_command.proofs.laws.one_report.Goals as goal

pub returns : goal.returns
returns c = one_report
