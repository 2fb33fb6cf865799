use Rattle.std.proofs.Common.{ℕ, List, [], ◌∷◌, length}
use Rattle.spanprof_c.specs.Refusals.{asked}
use Rattle.spanprof_c.specs.Told.{Analyses, StandAtHead}
use Rattle.spanprof_c.specs.Programs.{source}
use Rattle.spanprof_c.proofs.Carried.{analyses_there}
use Rattle.spanprof_c.proofs.Reasons.{done, done_so, refused_so, why_so}
use Rattle.spanprof_c.proofs.spanprof_analyse.Goals as goal

pub returns-in-Ok-clause-done : goal.returns-in-Ok-clause-done
returns-in-Ok-clause-done c =
    let graph = c.in-Ok.graph in
    done_so (Analyses c.tell_analysis.new.told c.tell_analysis.new.starts c.tell_analysis.new.slacks c.tell_analysis.new.path) (source c.args.any_size c.args.text.now) c.args.costs.now graph c.tell_analysis.result c.tell.result
    c.tell.new.place (λ table sound of. analyses_there table graph sound of c.tell_analysis.new.told c.tell_analysis.new.starts c.tell_analysis.new.slacks c.tell_analysis.new.path graph.costs)
    c.in-Ok.ensures.found c.tell.ensures.told c.tell_analysis.ensures.done

pub returns-in-Ok-clause-path : goal.returns-in-Ok-clause-path
returns-in-Ok-clause-path c =
    done (StandAtHead c.tell_analysis.new.told.path_length c.args.path.now c.tell_analysis.new.path) c.tell_analysis.result
    c.tell.result c.tell.new.place c.tell.ensures.told c.tell_analysis.ensures.path

pub returns-in-Ok-clause-refused : goal.returns-in-Ok-clause-refused
returns-in-Ok-clause-refused c =
    let lengths : List ℕ = length c.args.starts.now ∷ length c.args.slacks.now ∷ length c.args.path.now ∷ [] in
    refused_so (source c.args.any_size c.args.text.now) c.args.costs.now lengths 1 c.in-Ok.graph c.tell_analysis.result
    c.tell.result c.tell.new.place c.in-Ok.ensures.found c.tell.ensures.told c.tell_analysis.ensures.refused

pub returns-in-Err-clause-refused : goal.returns-in-Err-clause-refused
returns-in-Err-clause-refused c = λ some.
    let lengths : List ℕ = length c.args.starts.now ∷ length c.args.slacks.now ∷ length c.args.path.now ∷ [] in
    why_so (asked (source c.args.any_size c.args.text.now) c.args.costs.now 1 lengths) c.in-Err.why
    c.tell-in-Err.result c.tell-in-Err.new.place c.tell-in-Err.ensures.told
    (c.in-Err.ensures.refused 1 lengths)
