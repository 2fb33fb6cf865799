use Rattle.depend_table.specs.Lists.{Lists}
use Rattle.dispatch_core.proofs.ListLemmas.{Below}
use Rattle.task_segments.specs.Precedence.{MustPrecede}
use Rattle.calling.proofs.waiting.waits_of.Given as goal

abbrev pub invariant-loop-before : goal.invariant-loop-before
invariant-loop-before l =
    Lists (Below (λ before. MustPrecede l.table before l.segment) l.before) l.waits.items
