use Rattle.std.proofs.Common.{ℕ, ◌<◌, ◌≡◌, List, Some, sym, subst, ap, length, arith}
use Rattle.std.specs.Prelude.{slice_get}
use Rattle.task_segments.specs.Precedence.{MustPrecede}
use Rattle.dispatch_core.specs.Run.{Run, HasFinished}
use Rattle.dispatch_core.proofs.Unfinished.{none_counted}
use Rattle.dispatch_core.proofs.dispatch.BoundedCore.is_free.Goals as goal

pub waits_for-requires : goal.waits_for-requires
waits_for-requires g c =
    let KnownHere : Run → Type 0 = λ run. c.args.segment < length run.table.segments in
    let known = subst KnownHere (sym c.self.view_is) c.requires in
    let each = c.self.invariant.waits.of_table.each in
    let counts = c.self.invariant.waits.counted.each in
    omega (
      arith,
      known,
      each,
      counts,
      ap (λ (l : List ℕ). length l) c.as_slice.ensures.value,
    )

pub returns : goal.returns
returns g c =
    let KnownHere : Run → Type 0 = λ run. c.args.segment < length run.table.segments in
    let AfterHere : Run → Type 0 = λ run.
    (pred : ℕ) → MustPrecede run.table pred c.args.segment → HasFinished run.history pred in
    let sound = c.self.invariant in
    let both = none_counted c.self.inside.table c.self.inside.history.items
    c.self.inside.values.items c.self.inside.graph c.self.inside.successors
    c.self.inside.counts.items c.args.segment sound.sound_table sound.legal sound.are_values.tell
    sound.waits (subst KnownHere (sym c.self.view_is) c.requires) in
    let Here : List ℕ → Type 0 = λ l. slice_get l c.args.segment ≡ Some 0 in (
      λ h. subst AfterHere c.self.view_is
          (both.0 (subst Here c.as_slice.ensures.value (c.waits_for.ensures.0 h))),
      λ all. c.waits_for.ensures.1 (subst Here (sym c.as_slice.ensures.value)
          (both.1 (subst AfterHere (sym c.self.view_is) all))),
    )
