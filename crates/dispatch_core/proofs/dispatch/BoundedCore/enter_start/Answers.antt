use Rattle.std.proofs.Common.{List, sym, subst, ◌<◌, length, arith}
use Rattle.std.specs.Prelude.{slice_set, Some, true, vec_capacity}
use Rattle.dispatch_core.specs.declared.event.Event.{Event}
use Rattle.dispatch_core.specs.Run.{Run, MayStart, HasStarted}
use Rattle.dispatch_core.specs.Sound.{IsSound}
use Rattle.dispatch_core.proofs.StartStep.{has_room, sound_after_start}
use Rattle.dispatch_core.proofs.dispatch.BoundedCore.enter_start.Goals as goal

pub push_reserved-requires : goal.push_reserved-requires
push_reserved-requires g c =
    let KnownHere : Run → Type 0 = λ run. c.args.segment < length run.table.segments in
    let FreshHere : Run → Type 0 = λ run. ¬ HasStarted run.history c.args.segment in
    let room = has_room _ _ _ _ _ _ _ _ _ _ c.args.segment c.self.invariant
    (subst KnownHere (sym c.self.view_is) c.requires.ready.known)
    (subst FreshHere (sym c.self.view_is) c.requires.ready.not_started) in
    omega (arith, room)

pub invariant_of-self : goal.invariant_of-self
invariant_of-self g c =
    let MayHere : Run → Type 0 = λ run.
    MayStart run.table run.history c.args.worker c.args.segment in
    let P : List Event → Type 0 = λ history. IsSound g.K.Kernel.value_of c.self.inside.table history
    (vec_capacity c.push_reserved.new.self)
    (slice_set c.self.inside.started.items c.args.segment true)
    (slice_set c.self.inside.running.items c.args.worker (Some c.args.segment))
    c.self.inside.values.items c.self.inside.graph c.self.inside.successors
    c.self.inside.counts.items in
    subst P (sym c.push_reserved.ensures.items)
    (sound_after_start _ _ _ _ _ _ _ _ _ _ _ _ _ c.self.invariant
    (subst MayHere (sym c.self.view_is) c.requires) (omega (arith, c.push_reserved.ensures.capacity)))
