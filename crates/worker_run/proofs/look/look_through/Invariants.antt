use Rattle.std.proofs.Common.{take, drop}
use Rattle.worker_run.proofs.Looking.{SoFar}
use Rattle.worker_run.proofs.look.look_through.Given as goal

abbrev pub invariant-loop-source : goal.invariant-loop-source
invariant-loop-source g l =
    SoFar g.S.TokenSource.looks l.initial.sources l.unsure (take l.source-index l.sources) (drop l.source-index l.sources)
