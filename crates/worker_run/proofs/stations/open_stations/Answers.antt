use Rattle.std.proofs.Common.{ℕ, IfOk, All, map, subst}
use Rattle.depend_table.specs.Lists.{Lists}
use Rattle.worker_run.specs.Sharing.{IsOtherLane}
use Rattle.worker_run.proofs.stations.open_stations.Goals as goal

pub returns-clause-others : goal.returns-clause-others
returns-clause-others g c =
    subst (λ (n : ℕ). IfOk c.share.result (λ stations.
    All (λ s. Lists (IsOtherLane n s.number) (map (λ t. t.number) s.others.items)) stations.items))
    c.in_ok-stations.ensures.count c.share.ensures.others
