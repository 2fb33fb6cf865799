use Rattle.std.proofs.Common.{◌*◌, ◌≡◌, ◌↔◌, subst, arith}
use Rattle.std.proofs.lemmas.Bool.{eq-eqb, eqb-true}
use Rattle.dispatch_core.specs.Run.{Run, IsFinished}
use Rattle.dispatch_core.proofs.Complete.{finished_at_full_length, full_length_of_finished}
use Rattle.dispatch_core.proofs.dispatch.BoundedCore.is_finished.Goals as goal

pub returns : goal.returns
returns g c =
    let inside = c.self.inside in
    let sound = c.self.invariant in
    let P : Run → Type 0 = λ run.
    (c.len.result ≡ 2 * c.len-2.result) ↔ IsFinished run.table run.history in
    let whole : P c.args.self.now = subst P c.self.view_is (
      λ twice. finished_at_full_length inside.table inside.history.items inside.started.items
          inside.values.items sound.are_started sound.are_values.tell sound.counted
          (omega (arith, twice, c.len.ensures, c.len-2.ensures)),
      λ finished.
          let all = full_length_of_finished inside.table inside.history.items inside.started.items
          inside.values.items sound.legal sound.are_started sound.are_values.tell sound.counted
          finished in
          omega (arith, all, c.len.ensures, c.len-2.ensures),
    ) in (
      λ is. whole.0 (eqb-true c.len.result (2 * c.len-2.result) is),
      λ finished. eq-eqb c.len.result (2 * c.len-2.result) (whole.1 finished),
    )
