use Rattle.std.proofs.Common.{[]}
use Rattle.spanprof_c.specs.Refusals.{asked}
use Rattle.spanprof_c.specs.Told.{Judges}
use Rattle.spanprof_c.specs.Programs.{source}
use Rattle.spanprof_c.proofs.Carried.{judges_there, on_costs}
use Rattle.spanprof_c.proofs.Reasons.{why_so}
use Rattle.spanprof_c.proofs.spanprof_is_legal.Goals as goal

pub returns-in-Ok-clause-done : goal.returns-in-Ok-clause-done
returns-in-Ok-clause-done c = λ none.
    let graph = c.in-Ok.graph in
    on_costs (Judges c.args.starts.now c.judge.new.legal) (source c.args.any_size c.args.text.now) c.args.costs.now graph
    (λ table sound of. judges_there table graph sound of c.args.starts.now c.judge.new.legal
    graph.costs) c.in-Ok.ensures.found c.judge.ensures

pub returns-in-Err-clause-refused : goal.returns-in-Err-clause-refused
returns-in-Err-clause-refused c = λ some.
    why_so (asked (source c.args.any_size c.args.text.now) c.args.costs.now 1 []) c.in-Err.why c.tell-in-Err.result
    c.tell-in-Err.new.place c.tell-in-Err.ensures.told (c.in-Err.ensures.refused 1 [])
