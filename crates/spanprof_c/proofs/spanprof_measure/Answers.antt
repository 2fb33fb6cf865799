use Rattle.std.proofs.Common.{ℕ, List, []}
use Rattle.spanprof_c.specs.Refusals.{asked}
use Rattle.spanprof_c.specs.Told.{Measures}
use Rattle.spanprof_c.specs.Programs.{source}
use Rattle.spanprof_c.proofs.Carried.{measures_there}
use Rattle.spanprof_c.proofs.Reasons.{done_so, refused_so, why_so}
use Rattle.spanprof_c.proofs.spanprof_measure.Goals as goal

pub returns-in-Ok-clause-done : goal.returns-in-Ok-clause-done
returns-in-Ok-clause-done c =
    let graph = c.in-Ok.graph in
    done_so (Measures c.measure.new.told) (source c.args.any_size c.args.text.now) c.args.costs.now graph c.measure.result c.tell.result
    c.tell.new.place (λ table sound of. measures_there table graph sound of c.measure.new.told graph.costs)
    c.in-Ok.ensures.found c.tell.ensures.told c.measure.ensures.done

pub returns-in-Ok-clause-refused : goal.returns-in-Ok-clause-refused
returns-in-Ok-clause-refused c =
    let lengths : List ℕ = [] in
    refused_so (source c.args.any_size c.args.text.now) c.args.costs.now lengths 1 c.in-Ok.graph c.measure.result
    c.tell.result c.tell.new.place c.in-Ok.ensures.found c.tell.ensures.told c.measure.ensures.refused

pub returns-in-Err-clause-refused : goal.returns-in-Err-clause-refused
returns-in-Err-clause-refused c = λ some.
    let lengths : List ℕ = [] in
    why_so (asked (source c.args.any_size c.args.text.now) c.args.costs.now 1 lengths) c.in-Err.why
    c.tell-in-Err.result c.tell-in-Err.new.place c.tell-in-Err.ensures.told
    (c.in-Err.ensures.refused 1 lengths)
