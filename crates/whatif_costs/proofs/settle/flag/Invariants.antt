use Rattle.std.proofs.Common.{take}
use Rattle.whatif_costs.specs.Settling.{AreFlagged}
use Rattle.whatif_costs.proofs.settle.flag.Given as goal

abbrev pub invariant-loop-place : goal.invariant-loop-place
invariant-loop-place l = AreFlagged (take l.place-index l.places) l.initial.flags l.flags
