use Rattle.std.proofs.Common.{ℕ, List, [], length}
use Rattle.spanprof_c.specs.Refusals.{asked}
use Rattle.spanprof_c.specs.Told.{Curves}
use Rattle.spanprof_c.specs.Programs.{source}
use Rattle.spanprof_c.proofs.Carried.{curve_there}
use Rattle.spanprof_c.proofs.Reasons.{done_so, refused_so, why_so}
use Rattle.spanprof_c.proofs.spanprof_curve.Goals as goal

pub returns-in-Ok-clause-done : goal.returns-in-Ok-clause-done
returns-in-Ok-clause-done c =
    let graph = c.in-Ok.graph in
    done_so (Curves (length c.args.ends.now) c.tell_curve.new.ends) (source c.args.any_size c.args.text.now) c.args.costs.now graph c.tell_curve.result c.tell.result
    c.tell.new.place (λ table sound of. curve_there table graph sound of (length c.args.ends.now) c.tell_curve.new.ends graph.costs)
    c.in-Ok.ensures.found c.tell.ensures.told c.tell_curve.ensures.done

pub returns-in-Ok-clause-refused : goal.returns-in-Ok-clause-refused
returns-in-Ok-clause-refused c =
    let lengths : List ℕ = [] in
    refused_so (source c.args.any_size c.args.text.now) c.args.costs.now lengths (length c.args.ends.now) c.in-Ok.graph c.tell_curve.result
    c.tell.result c.tell.new.place c.in-Ok.ensures.found c.tell.ensures.told c.tell_curve.ensures.refused

pub returns-in-Err-clause-refused : goal.returns-in-Err-clause-refused
returns-in-Err-clause-refused c = λ some.
    let lengths : List ℕ = [] in
    why_so (asked (source c.args.any_size c.args.text.now) c.args.costs.now (length c.args.ends.now) lengths) c.in-Err.why
    c.tell-in-Err.result c.tell-in-Err.new.place c.tell-in-Err.ensures.told
    (c.in-Err.ensures.refused (length c.args.ends.now) lengths)
