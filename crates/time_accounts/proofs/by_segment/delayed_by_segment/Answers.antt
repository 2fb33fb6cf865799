use Rattle.std.proofs.Common.{◌∙◌, ℕ, List, ap, length}
use Rattle.std.proofs.lemmas.Result.{IfOk-weaker}
use Rattle.task_segments.specs.Schedule.{at}
use Rattle.time_accounts.proofs.CountedIdle.{delays_counted}
use Rattle.time_accounts.proofs.by_segment.delayed_by_segment.Goals as goal

pub returns : goal.returns
returns c =
    let graph = c.args.graph.now in
    let changes = c.in_ok-changes.changes in
    IfOk-weaker c.count_idle.result _ _
    (λ delayed counted. delays_counted graph (length graph.costs) c.args.region.threads
    c.args.region.first c.args.region.last c.args.times.now changes.readies.items
    changes.begins.items changes.ends.items c.is_graph.ensures.each c.is_graph.ensures.some
    c.requires.legal c.in_ok-changes.ensures _ _ delayed.items _
    (c.as_slice-3.ensures.value ∙ c.in_ok-readies.ensures) c.begins.ensures
    (c.first_of.ensures ∙ ap (λ (xs : List ℕ). at xs 0) c.deref.ensures.value) counted)
    c.count_idle.ensures
