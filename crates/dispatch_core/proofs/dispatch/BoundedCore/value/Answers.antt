use Rattle.std.proofs.Common.{subst, ap, ◌∙◌}
use Rattle.std.specs.Prelude.{MatchOption}
use Rattle.dispatch_core.specs.Run.{Run, HasFinished}
use Rattle.dispatch_core.specs.Values.{IsValue}
use Rattle.open_segments.specs.Entry.{entry}
use Rattle.dispatch_core.proofs.Readings.{value_known}
use Rattle.dispatch_core.proofs.dispatch.BoundedCore.value.Goals as goal

pub returns : goal.returns
returns g c =
    let P : Run → Type 0 = λ run. MatchOption c.value_entry.result
    (¬ HasFinished run.history
    c.args.segment) (λ value. HasFinished run.history c.args.segment
    × IsValue run.table g.K.Kernel.value_of c.args.segment value) in
    subst P c.self.view_is (value_known _ _ _ _ _ _ c.self.invariant.are_values
    (c.value_entry.ensures ∙ ap (λ list. entry list c.args.segment) c.as_slice.ensures.value))
