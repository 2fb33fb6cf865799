use Rattle.std.proofs.Common.{◌≡◌, ◌%◌, ◌^◌, take, sum_by}
use Rattle.std.specs.Prelude.{unwrap_or}
use Rattle.open_segments.specs.Entry.{entry}
use Rattle.dispatch_core.proofs.run_state.sum_at.Given as goal

abbrev pub invariant-loop-at : goal.invariant-loop-at
invariant-loop-at l =
    l.total ≡ sum_by (λ at. unwrap_or (entry l.values at) 0) (take l.at-index l.places) % 2 ^ 64
