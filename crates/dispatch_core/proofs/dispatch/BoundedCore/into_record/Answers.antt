use Rattle.std.proofs.Common.{ap, subst}
use Rattle.dispatch_core.specs.Run.{Run}
use Rattle.dispatch_core.specs.Graph.{IsGraphOf}
use Rattle.dispatch_core.proofs.dispatch.BoundedCore.into_record.Goals as goal

pub returns : goal.returns
returns g c =
    let P : Run → Type 0 = λ run. IsGraphOf run.table c.self.inside.graph in
    record {
      history = ap (λ (run : Run). run.history) c.self.view_is;
      graph = subst P c.self.view_is c.self.invariant.waits.of_table;
      finished = c.is_finished.ensures.0 c.if-not-is_finished.false;
      err = tt;
      back = tt;
    }
