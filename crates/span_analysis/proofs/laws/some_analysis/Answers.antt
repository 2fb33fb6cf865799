use Rattle.span_analysis.proofs.SomeAnalysis.{some_analysis}
use Rattle.span_analysis.proofs.laws.some_analysis.Goals as goal

pub returns : goal.returns
returns c = some_analysis
