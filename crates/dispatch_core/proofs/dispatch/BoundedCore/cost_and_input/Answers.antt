use Rattle.std.proofs.Common.{rules}
use Rattle.dispatch_core.proofs.FinishStep.{runs_after, runs_cost, runs_known, runs_stored}
use Rattle.dispatch_core.proofs.dispatch.BoundedCore.cost_and_input.Goals as goal

pub cost-requires : goal.cost-requires
cost-requires g c = (
  search rules,
  (
      runs_stored _ c.args.self.now c.args.worker c.args.segment c.self.view_is c.self.invariant.legal
      (c.runs.ensures.0 c.if-not-runs.false)
      ),
)

pub input_of-requires-after_bounds : goal.input_of-requires-after_bounds
input_of-requires-after_bounds g c = λ κs lives.
    let runs = c.runs.ensures.0 c.if-not-runs.false in (
      search rules,
      (
        runs_known _ c.args.self.now c.args.worker c.args.segment c.self.view_is c.self.invariant.legal runs,
        runs_after _ c.args.self.now c.args.worker c.args.segment c.self.view_is c.self.invariant.legal runs,
      ),
    )

pub returns : goal.returns
returns g c =
    let runs = c.runs.ensures.0 c.if-not-runs.false in
    let cost = runs_cost _ c.args.self.now c.args.worker c.args.segment c.cost.result c.self.view_is
    c.self.invariant.legal runs c.cost.ensures in
    (runs, cost, c.input_of.ensures)
