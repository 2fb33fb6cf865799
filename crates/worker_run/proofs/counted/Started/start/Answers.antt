use Rattle.std.proofs.Common.{ap, ◌∙◌}
use Rattle.task_segments.specs.Table.{Table, segment}
use Rattle.dispatch_core.specs.Run.{Run}
use Rattle.dispatch_core.proofs.GivenRuns.{runs_once_started}
use Rattle.worker_run.proofs.counted.Started.start.Goals as goal

pub returns-in-Ok-clause-runs : goal.returns-in-Ok-clause-runs
returns-in-Ok-clause-runs g c =
    let next = c.in-Ok.ensures.next in
    let legal = c.in-Ok.ensures.legal in
    let costs = c.cost.ensures ∙ ap (λ (t : Table). (segment t c.args.segment).cost)
    (c.table.ensures ∙ ap (λ (r : Run). r.table) next) in (
      rw next (runs_once_started c.args.core.now.table c.args.core.now.history c.args.worker c.args.segment
          c.legal_history.ensures legal),
      rw next record {
        cost = record {
          known = legal.ready.known;
          costs = costs;
        };
        input = c.in-Ok.ensures.input;
      },
    )
