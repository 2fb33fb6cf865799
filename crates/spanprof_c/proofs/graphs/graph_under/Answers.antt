use Rattle.spanprof_c.specs.Programs.{source}
use Rattle.spanprof_c.proofs.Carried.{priced}
use Rattle.spanprof_c.proofs.graphs.graph_under.Goals as goal

pub returns-in-Ok-clause-found : goal.returns-in-Ok-clause-found
returns-in-Ok-clause-found c =
    priced (source c.args.any_size c.args.text.now) c.args.costs.now c.in-Ok.graph c.with_costs.result c.in-Ok.ensures.found
    c.with_costs.ensures
