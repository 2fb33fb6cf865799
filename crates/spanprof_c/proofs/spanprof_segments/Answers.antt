use Rattle.std.proofs.Common.{ℕ, List, [], ◌∷◌, length}
use Rattle.spanprof_c.specs.Programs.{OfText, source}
use Rattle.spanprof_c.specs.Refusals.{asked}
use Rattle.spanprof_c.specs.Told.{ListsSegments}
use Rattle.spanprof_c.proofs.Reasons.{done, refused_told}
use Rattle.spanprof_c.proofs.spanprof_segments.Goals as goal

pub returns-clause-done : goal.returns-clause-done
returns-clause-done c =
    done (OfText (source c.args.any_size c.args.text.now)
    (ListsSegments c.list_segments.new.tasks c.list_segments.new.costs)) c.list_segments.result
    c.tell.result c.tell.new.place c.tell.ensures.told c.list_segments.ensures.done

pub returns-clause-refused : goal.returns-clause-refused
returns-clause-refused c =
    let lengths : List ℕ = length c.args.tasks.now ∷ length c.args.costs.now ∷ [] in
    refused_told (asked (source c.args.any_size c.args.text.now) [] 1 lengths)
    c.list_segments.result c.tell.result c.tell.new.place c.tell.ensures.told
    c.list_segments.ensures.refused
