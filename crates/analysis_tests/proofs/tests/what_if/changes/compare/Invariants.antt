use Rattle.std.proofs.Common.{◌≡◌, length}
use Rattle.analysis_tests.proofs.tests.what_if.changes.compare.Given as goal

abbrev pub invariant-loop : goal.invariant-loop
invariant-loop l = length l.trial.graph.costs ≡ length l.second.costs
