use Rattle.std.proofs.Common.{ℕ, ◌≡◌, ◌<◌, ◌%◌, ◌^◌, List, Option, sym, subst, ap, ◌∙◌, length}
use Rattle.std.proofs.Common.{arith, sum_by}
use Rattle.std.specs.Prelude.{unwrap_or}
use Rattle.task_segments.specs.Precedence.{MustPrecede}
use Rattle.open_segments.specs.Entry.{entry}
use Rattle.dispatch_core.specs.RecordedGraph.{predecessors_of}
use Rattle.dispatch_core.specs.Run.{Run, HasFinished}
use Rattle.dispatch_core.specs.Values.{IsInput}
use Rattle.dispatch_core.proofs.Readings.{input_known}
use Rattle.dispatch_core.proofs.Unfinished.{costs_each}
use Rattle.dispatch_core.proofs.dispatch.BoundedCore.input_of.Goals as goal

pub preds-requires : goal.preds-requires
preds-requires g c =
    let KnownHere : Run → Type 0 = λ run. c.args.segment < length run.table.segments in
    let known = subst KnownHere (sym c.self.view_is) c.requires.known in
    let each = costs_each c.self.inside.table c.self.inside.graph c.self.invariant.waits.of_table in
    omega (arith, known, each)

pub returns : goal.returns
returns g c =
    let P : Run → Type 0 = λ run.
    IsInput run.table g.K.Kernel.value_of c.args.segment c.sum_at.result in
    let KnownHere : Run → Type 0 = λ run. c.args.segment < length run.table.segments in
    let AfterHere : Run → Type 0 = λ run.
    (pred : ℕ) → MustPrecede run.table pred c.args.segment → HasFinished run.history pred in
    let sound = c.self.invariant in
    let preds : List ℕ = predecessors_of c.self.inside.graph c.args.segment in
    let sums : c.sum_at.result
    ≡ sum_by (λ at. unwrap_or (entry c.self.inside.values.items at) 0) preds % 2 ^ 64 =
    c.sum_at.ensures
    ∙ ap
    (λ (values : List (Option ℕ)).
    sum_by (λ at. unwrap_or (entry values at) 0) c.preds.result.now % 2 ^ 64)
    c.as_slice.ensures.value
    ∙ ap
    (λ (l : List ℕ).
    sum_by (λ at. unwrap_or (entry c.self.inside.values.items at) 0) l % 2 ^ 64)
    c.preds.ensures in
    subst P c.self.view_is (input_known c.self.inside.table c.self.inside.history.items
    g.K.Kernel.value_of c.self.inside.values.items c.self.inside.graph c.args.segment
    sound.sound_table sound.are_values sound.waits.of_table
    (subst KnownHere (sym c.self.view_is) c.requires.known)
    (subst AfterHere (sym c.self.view_is) c.requires.after) c.sum_at.result sums)
