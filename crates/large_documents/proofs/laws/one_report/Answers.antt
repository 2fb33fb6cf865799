use Rattle.large_documents.proofs.OneRest.{one_report, some_report}
use Rattle.large_documents.proofs.laws.one_report.Goals as goal

pub returns-clause-one : goal.returns-clause-one
returns-clause-one c = one_report

pub returns-clause-some : goal.returns-clause-some
returns-clause-some c = some_report
