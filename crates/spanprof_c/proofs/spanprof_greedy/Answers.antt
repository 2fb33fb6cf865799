use Rattle.std.proofs.Common.{ℕ, List, [], ◌∷◌, length}
use Rattle.spanprof_c.specs.Refusals.{asked}
use Rattle.spanprof_c.specs.Told.{RunsGreedily}
use Rattle.spanprof_c.specs.Programs.{source}
use Rattle.spanprof_c.proofs.Carried.{run_there}
use Rattle.spanprof_c.proofs.Reasons.{done_so, refused_so, why_so}
use Rattle.spanprof_c.proofs.spanprof_greedy.Goals as goal

pub returns-in-Ok-clause-done : goal.returns-in-Ok-clause-done
returns-in-Ok-clause-done c =
    let graph = c.in-Ok.graph in
    done_so (RunsGreedily c.args.count c.tell_run.new.starts c.tell_run.new.threads c.tell_run.new.end) (source c.args.any_size c.args.text.now) c.args.costs.now graph c.tell_run.result c.tell.result
    c.tell.new.place (λ table sound of. run_there table graph sound of c.args.count c.tell_run.new.starts c.tell_run.new.threads c.tell_run.new.end graph.costs)
    c.in-Ok.ensures.found c.tell.ensures.told c.tell_run.ensures.done

pub returns-in-Ok-clause-refused : goal.returns-in-Ok-clause-refused
returns-in-Ok-clause-refused c =
    let lengths : List ℕ = length c.args.starts.now ∷ length c.args.threads.now ∷ [] in
    refused_so (source c.args.any_size c.args.text.now) c.args.costs.now lengths c.args.count c.in-Ok.graph c.tell_run.result
    c.tell.result c.tell.new.place c.in-Ok.ensures.found c.tell.ensures.told c.tell_run.ensures.refused

pub returns-in-Err-clause-refused : goal.returns-in-Err-clause-refused
returns-in-Err-clause-refused c = λ some.
    let lengths : List ℕ = length c.args.starts.now ∷ length c.args.threads.now ∷ [] in
    why_so (asked (source c.args.any_size c.args.text.now) c.args.costs.now c.args.count lengths) c.in-Err.why
    c.tell-in-Err.result c.tell-in-Err.new.place c.tell-in-Err.ensures.told
    (c.in-Err.ensures.refused c.args.count lengths)
