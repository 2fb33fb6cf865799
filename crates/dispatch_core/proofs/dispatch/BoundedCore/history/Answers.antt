use Rattle.std.proofs.Common.{◌*◌, ◌≤◌, length, subst, arith}
use Rattle.std.specs.Prelude.{is_some}
use Rattle.std.proofs.lemmas.List.Sums.{count_by-le-length}
use Rattle.dispatch_core.specs.Run.{Run, IsLegalRun}
use Rattle.dispatch_core.proofs.dispatch.BoundedCore.history.Goals as goal

pub returns-clause-legal : goal.returns-clause-legal
returns-clause-legal g c =
    let P : Run → Type 0 = λ run. IsLegalRun run.table run.history in
    subst P c.self.view_is c.self.invariant.legal

pub returns-clause-short : goal.returns-clause-short
returns-clause-short g c =
    let sound = c.self.invariant in
    let P : Run → Type 0 = λ run. length run.history ≤ 2 * length run.table.segments in
    subst P c.self.view_is (omega (
      arith,
      sound.counted,
      sound.are_started.each,
      sound.are_values.tell.each,
      count_by-le-length (λ b. b) c.self.inside.started.items,
      count_by-le-length is_some c.self.inside.values.items,
    ))
