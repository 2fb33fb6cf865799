use Rattle.depend_table.specs.Lists.{Lists}
use Rattle.dispatch_core.specs.Run.{IsReady}
use Rattle.open_segments.proofs.ListLemmas.{Below}
use Rattle.dispatch_core.proofs.dispatch.BoundedCore.ready.Given as goal

abbrev pub invariant-loop-segment : goal.invariant-loop-segment
invariant-loop-segment g l =
    Lists (Below (IsReady l.self.table l.self.history) l.segment) l.ready.items
