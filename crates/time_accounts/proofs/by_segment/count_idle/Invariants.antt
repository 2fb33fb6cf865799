use Rattle.time_accounts.specs.Counting.{AreCountedTo}
use Rattle.time_accounts.specs.Sweep.{idle_at}
use Rattle.time_accounts.proofs.by_segment.count_idle.Given as goal

-- what counts at the segments so far
abbrev pub invariant-loop-entry : goal.invariant-loop-entry
invariant-loop-entry l =
    AreCountedTo (idle_at l.beside l.changes.readies.items l.changes.begins.items l.changes.ends.items l.threads)
    l.froms l.tos l.order l.entry-index l.first l.until l.counts.items
