use Rattle.std.proofs.Common.{ℕ, ◌≡◌, ◌++◌, ◌∷◌, [], List, Some, None, length, get_or, refl, sym, ap}
use Rattle.std.proofs.Common.{subst, arith}
use Rattle.std.specs.Prelude.{vec_capacity, slice_get, slice_set, Contains}
use Rattle.std.specs.List.Sorted.{IsStrictlyIncreasing}
use Rattle.std.proofs.lemmas.Option.{slice_get_within}
use Rattle.depend_table.specs.Lists.{Lists}
use Rattle.open_segments.specs.Counters.{AreLowered}
use Rattle.dispatch_core.specs.declared.event.Event.{Event}
use Rattle.dispatch_core.specs.declared.event.Event.TheVariants.{Finish}
use Rattle.dispatch_core.specs.Run.{Run, Runs, BecomesReady}
use Rattle.dispatch_core.specs.Refusals.{MayFinish}
use Rattle.dispatch_core.specs.Sound.{IsSound, IsWaiting}
use Rattle.dispatch_core.proofs.FinishStep.{started_known, has_room_to_finish}
use Rattle.dispatch_core.proofs.FinishStep.{sound_after_finish, tell_after}
use Rattle.dispatch_core.proofs.Unfinished.{newly_listed, runs_unfinished, successor_counted}
use Rattle.dispatch_core.proofs.Unfinished.{successors_ascend, waits_after}
use Rattle.dispatch_core.proofs.dispatch.BoundedCore.enter_finish.Goals as goal

pub freed-requires-clause-known : goal.freed-requires-clause-known
freed-requires-clause-known g c t has =
    let finishing = runs_unfinished _ c.args.self.now g.K.Kernel.value_of c.self.inside.values.items
    c.args.worker c.segment-segment.result c.args.outcome.now.segment c.self.view_is
    c.self.invariant.legal c.self.invariant.are_values c.requires.runs c.segment-segment.ensures in
    let counted = successor_counted c.self.inside.table c.self.inside.values.items
    c.self.inside.graph c.self.inside.successors c.self.inside.counts.items
    c.segment-segment.result t c.self.invariant.waits finishing
    (subst (λ (l : List ℕ). Contains l t) c.list.ensures has) in
    let within = slice_get_within c.self.inside.counts.items t _ counted.is in
    omega (arith, within, ap (λ (l : List ℕ). length l) c.as_slice.ensures.value)

pub freed-requires-clause-ascending : goal.freed-requires-clause-ascending
freed-requires-clause-ascending g c =
    let finishing = runs_unfinished _ c.args.self.now g.K.Kernel.value_of c.self.inside.values.items
    c.args.worker c.segment-segment.result c.args.outcome.now.segment c.self.view_is
    c.self.invariant.legal c.self.invariant.are_values c.requires.runs c.segment-segment.ensures in
    subst (λ (l : List ℕ). IsStrictlyIncreasing l) (sym c.list.ensures)
    (successors_ascend c.self.inside.table c.self.inside.graph c.self.inside.successors
    c.segment-segment.result c.self.invariant.waits.of_table c.self.invariant.waits.followed
    finishing.known)

pub lower-requires-clause-counted : goal.lower-requires-clause-counted
lower-requires-clause-counted g c t has =
    let finishing = runs_unfinished _ c.args.self.now g.K.Kernel.value_of c.self.inside.values.items
    c.args.worker c.segment-segment.result c.args.outcome.now.segment c.self.view_is
    c.self.invariant.legal c.self.invariant.are_values c.requires.runs c.segment-segment.ensures in
    successor_counted c.self.inside.table c.self.inside.values.items
    c.self.inside.graph c.self.inside.successors c.self.inside.counts.items
    c.segment-segment.result t c.self.invariant.waits finishing
    (subst (λ (l : List ℕ). Contains l t) c.list-2.ensures has)

pub lower-requires-clause-ascending : goal.lower-requires-clause-ascending
lower-requires-clause-ascending g c =
    let finishing = runs_unfinished _ c.args.self.now g.K.Kernel.value_of c.self.inside.values.items
    c.args.worker c.segment-segment.result c.args.outcome.now.segment c.self.view_is
    c.self.invariant.legal c.self.invariant.are_values c.requires.runs c.segment-segment.ensures in
    subst (λ (l : List ℕ). IsStrictlyIncreasing l) (sym c.list-2.ensures)
    (successors_ascend c.self.inside.table c.self.inside.graph c.self.inside.successors
    c.segment-segment.result c.self.invariant.waits.of_table c.self.invariant.waits.followed
    finishing.known)

pub index_mut-requires-2 : goal.index_mut-requires-2
index_mut-requires-2 g c =
    let P : Run → Type 0 = λ run. Runs run.history c.args.worker c.args.outcome.now.segment in
    let known = started_known c.self.inside.table c.self.inside.history.items c.args.worker
    c.args.outcome.now.segment c.self.invariant.legal
    (subst P (sym c.self.view_is) c.requires.runs).started in
    omega (arith, c.self.invariant.are_running.each, known.0)

pub push_reserved-requires : goal.push_reserved-requires
push_reserved-requires g c =
    let P : Run → Type 0 = λ run. Runs run.history c.args.worker c.args.outcome.now.segment in
    let room = has_room_to_finish _ _ _ _ _ _ _ _ _ _ c.args.worker c.args.outcome.now.segment
    c.self.invariant (subst P (sym c.self.view_is) c.requires.runs) in
    omega (arith, room)

pub invariant_of-self : goal.invariant_of-self
invariant_of-self g c =
    let finished : ℕ = c.args.outcome.now.segment in
    let value : ℕ = c.value-value.result in
    let sound = c.self.invariant in
    let counts : List ℕ = c.lower.new.counts.items in
    let MayHere : Run → Type 0 = λ run.
    MayFinish run.table run.history g.K.Kernel.value_of c.args.worker c.args.outcome.now in
    let finishing = runs_unfinished _ c.args.self.now g.K.Kernel.value_of c.self.inside.values.items
    c.args.worker c.segment-segment.result c.args.outcome.now.segment c.self.view_is
    c.self.invariant.legal c.self.invariant.are_values c.requires.runs c.segment-segment.ensures in
    let lowered = subst (λ (l : List ℕ). AreLowered c.self.inside.counts.items (Contains l) counts)
    c.list-2.ensures c.lower.ensures in
    let waits = subst (λ (n : ℕ). IsWaiting c.self.inside.table
    (slice_set c.self.inside.values.items n (Some value)) c.self.inside.graph
    c.self.inside.successors counts) c.segment-segment.ensures
    (waits_after c.self.inside.table c.self.inside.values.items c.self.inside.graph
    c.self.inside.successors c.self.inside.counts.items counts c.segment-segment.result value
    sound.waits finishing lowered) in
    let after = sound_after_finish g.K.Kernel.value_of c.self.inside.table
    c.self.inside.history.items (vec_capacity c.self.inside.history)
    (vec_capacity c.push_reserved.new.self) c.self.inside.started.items
    c.self.inside.running.items c.self.inside.values.items c.self.inside.graph
    c.self.inside.successors c.self.inside.counts.items counts c.args.worker c.args.outcome.now
    value sound (subst MayHere (sym c.self.view_is) c.requires) c.value-value.ensures.computed waits
    (omega (arith, c.push_reserved.ensures.capacity)) in
    let Q : ℕ → Type 0 = λ n. IsSound g.K.Kernel.value_of c.self.inside.table
    (c.self.inside.history.items ++ Finish c.args.worker n ∷ [])
    (vec_capacity c.push_reserved.new.self) c.self.inside.started.items
    (slice_set c.self.inside.running.items c.args.worker None)
    (slice_set c.self.inside.values.items n (Some value)) c.self.inside.graph
    c.self.inside.successors counts in
    let P : List Event → Type 0 = λ history. IsSound g.K.Kernel.value_of c.self.inside.table history
    (vec_capacity c.push_reserved.new.self) c.self.inside.started.items
    (slice_set c.self.inside.running.items c.args.worker None)
    (slice_set c.self.inside.values.items c.segment-segment.result (Some value))
    c.self.inside.graph c.self.inside.successors counts in
    subst P (sym c.push_reserved.ensures.items) (subst Q (sym c.segment-segment.ensures) after)

pub returns-clause-ready : goal.returns-clause-ready
returns-clause-ready g c =
    let finished : ℕ = c.args.outcome.now.segment in
    let value : ℕ = c.value-value.result in
    let sound = c.self.invariant in
    let table = c.self.inside.table in
    let history = c.self.inside.history.items in
    let ready : List ℕ = c.in_ok-ready.ready.items in
    let MayHere : Run → Type 0 = λ run.
    MayFinish run.table run.history g.K.Kernel.value_of c.args.worker c.args.outcome.now in
    let may = subst MayHere (sym c.self.view_is) c.requires in
    let tell = tell_after table history g.K.Kernel.value_of c.self.inside.values.items c.args.worker
    c.args.outcome.now value sound.legal sound.are_values may c.value-value.ensures.computed in
    let finishing = runs_unfinished _ c.args.self.now g.K.Kernel.value_of
    c.self.inside.values.items c.args.worker finished finished c.self.view_is sound.legal
    sound.are_values c.requires.runs refl in
    let freed = subst (λ (n : ℕ). Lists (λ t. Contains (get_or c.self.inside.successors n []) t
    × (slice_get c.self.inside.counts.items t ≡ Some 1)) ready) c.segment-segment.ensures
    (subst (λ (l : List ℕ). Lists
    (λ t. Contains l t × (slice_get c.self.inside.counts.items t ≡ Some 1)) ready) c.list.ensures
    (subst (λ (l : List ℕ). Lists
    (λ t. Contains c.list.result.now t × (slice_get l t ≡ Some 1)) ready) c.as_slice.ensures.value
    c.in_ok-ready.ensures)) in
    let Q : Run → Type 0 = λ run. Lists
    (BecomesReady run.table run.history (run.history ++ Finish c.args.worker finished ∷ []))
    ready in
    subst Q c.self.view_is (newly_listed table history c.self.inside.values.items
    c.self.inside.graph c.self.inside.successors c.self.inside.counts.items c.args.worker finished
    value ready sound.sound_table sound.legal may.runs tell sound.waits finishing freed)
