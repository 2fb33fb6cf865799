use Rattle.std.proofs.Common.{length}
use Rattle.large_documents.proofs.Handing.{IsTakenUpTo}
use Rattle.large_documents.proofs.read_text.take_text.Given as goal

-- the meter has taken what stands before the rest
abbrev pub invariant-pieces : goal.invariant-pieces
invariant-pieces l = IsTakenUpTo l.text l.rest l.meter

abbrev pub decreases-pieces : goal.decreases-pieces
decreases-pieces l = length l.rest
