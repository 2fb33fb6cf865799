use Rattle.std.proofs.Common.{◌≡◌, take}
use Rattle.time_accounts.specs.Shares.{last_end}
use Rattle.time_accounts.proofs.ready.last_end_of.Given as goal

abbrev pub invariant-loop-segment : goal.invariant-loop-segment
invariant-loop-segment l = l.latest ≡ last_end l.ends (take l.segment-index l.segments)
