use Rattle.std.proofs.Common.{◌+◌, ◌≡◌, ◌^◌, take, sum}
use Rattle.analysis_tests.proofs.tests.what_if.changes.is_little.Given as goal

-- what is left and what was taken are the most
abbrev pub invariant-loop-cost : goal.invariant-loop-cost
invariant-loop-cost l = l.left + sum (take l.cost-index l.costs) ≡ 10 ^ 15
