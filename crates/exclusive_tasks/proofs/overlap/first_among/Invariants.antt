use Rattle.exclusive_tasks.specs.Marking.{AreMarkedUpTo}
use Rattle.exclusive_tasks.proofs.overlap.first_among.Given as goal

abbrev pub invariant-loop-index : goal.invariant-loop-index
invariant-loop-index l = AreMarkedUpTo l.claims l.events l.index l.marks
