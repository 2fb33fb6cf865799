use Rattle.dispatch_core.proofs.Readiness.{runs_known, runs_nothing}
use Rattle.dispatch_core.proofs.dispatch.BoundedCore.runs.Goals as goal

pub returns-in-Some : goal.returns-in-Some
returns-in-Some g c =
    runs_known c.args.self.now.history c.args.worker c.args.segment c.in-Some.one c.running.result
    c.running.ensures c.in-Some.is

pub returns-in-None : goal.returns-in-None
returns-in-None g c =
    runs_nothing c.args.self.now.history c.args.worker c.args.segment c.running.result
    c.running.ensures c.in-None.is
