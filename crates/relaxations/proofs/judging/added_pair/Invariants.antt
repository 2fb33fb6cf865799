use Rattle.relaxations.proofs.Pairs.{RowsBefore}
use Rattle.relaxations.proofs.judging.added_pair.Given as goal

-- the pairs of the rows so far are pairs of the table
abbrev pub invariant-loop-t : goal.invariant-loop-t
invariant-loop-t g l = RowsBefore l.table l.lists l.t
