use Rattle.std.proofs.Common.{ℕ, ◌<◌}
use Rattle.time_accounts.specs.Faults.{IsInRange}
use Rattle.time_accounts.proofs.checks.check_ranges.Given as goal

abbrev pub invariant-loop-segment : goal.invariant-loop-segment
invariant-loop-segment l = (s : ℕ) → s < l.segment
    → IsInRange l.region.threads l.region.first l.region.last l.times s
