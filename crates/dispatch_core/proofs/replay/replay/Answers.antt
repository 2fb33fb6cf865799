use Rattle.std.proofs.Common.{arith, sym, subst}
use Rattle.std.proofs.lemmas.Option.{slice_get-get_or}
use Rattle.dispatch_core.specs.declared.event.Event.TheVariants.{Start}
use Rattle.dispatch_core.specs.declared.replay.ReplayFault.{ReplayFault}
use Rattle.dispatch_core.specs.Replays.{RefusesReplay}
use Rattle.dispatch_core.proofs.GivenRuns.{refused_there}
use Rattle.dispatch_core.proofs.replay.replay.Goals as goal

pub returns-in-Err-make_event-clause-refused : goal.returns-in-Err-make_event-clause-refused
returns-in-Err-make_event-clause-refused g c =
    let P : ReplayFault → Type 0 = λ fault. RefusesReplay c.args.table c.args.events.now fault in
    subst P (sym c.replay_fault.ensures) (
    refused_there c.args.table c.loop-index.core.table c.args.events.now c.loop-index.core.history
    c.loop-index.index _ _ c.loop-index.invariant.0 c.loop-index.invariant.1
    (slice_get-get_or c.args.events.now c.loop-index.index (Start 0 0)
    (omega (arith, c.loop-index-test.true, c.loop-index.auto.index-end)))
    c.legal_history.ensures c.in-Err-make_event.ensures.refused)
