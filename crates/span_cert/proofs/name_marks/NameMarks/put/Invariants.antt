use Rattle.span_cert.specs.NameMarks.{AreMarkedUpTo}
use Rattle.span_cert.proofs.name_marks.NameMarks.put.Given as goal

-- the items so far are marked
abbrev pub invariant-loop-item : goal.invariant-loop-item
invariant-loop-item l = AreMarkedUpTo l.self l.t l.items l.item-index
