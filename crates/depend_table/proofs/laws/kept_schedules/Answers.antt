use Rattle.std.proofs.Common.{ℕ}
use Rattle.task_segments.specs.Precedence.{MustPrecede}
use Rattle.depend_table.specs.KeptEdges.{IsKeptEdge}
use Rattle.task_segments.proofs.SameSchedules.{same_least_end, same_least_start, same_legal}
use Rattle.task_segments.proofs.SameSchedules.{same_slack, same_span}
use Rattle.depend_table.proofs.Chains.{kept_within, edge_reaches}
use Rattle.depend_table.proofs.laws.kept_schedules.Goals as goal

pub returns : goal.returns
returns g c =
    let must = MustPrecede c.args.table.now in
    let kept = IsKeptEdge c.args.table.now in
    let nested = c.nests.ensures in
    let grouped = c.groups_nest.ensures in
    let up = c.goes_up.ensures in
    let within : (s t : ℕ) → kept s t → must s t =
    λ s t. kept_within c.args.table.now s t nested grouped in
    let reaches = edge_reaches c.args.table.now nested grouped in
    record {
      legal = same_legal must kept up within reaches;
      span = same_span must kept up within reaches;
      least_end = same_least_end must kept up within reaches;
      least_start = same_least_start must kept up within reaches;
      slack = same_slack must kept up within reaches;
    }
