use Rattle.std.proofs.Common.{List, ℕ, subst}
use Rattle.task_segments.specs.Precedence.{MustPrecede}
use Rattle.task_segments.specs.Schedule.{IsLeastEnd, IsSpan}
use Rattle.spanprof_command.proofs.graphs.graph_and_span.Goals as goal

pub returns-clause-is_span : goal.returns-clause-is_span
returns-clause-is_span g c =
    let span = c.in_ok-span.span in
    let of = c.in_ok-graph.ensures in
    let P : List ℕ → Type 0 = λ costs. IsSpan costs (MustPrecede c.args.table.now) span in
    subst P of.costs ((c.same_schedules.ensures.span c.in_ok-graph.graph span of).1
    c.in_ok-span.ensures.greatest_sum)

pub returns-clause-is_least_end : goal.returns-clause-is_least_end
returns-clause-is_least_end g c =
    let span = c.in_ok-span.span in
    let of = c.in_ok-graph.ensures in
    let P : List ℕ → Type 0 = λ costs. IsLeastEnd costs (MustPrecede c.args.table.now) span in
    subst P of.costs ((c.same_schedules.ensures.least_end c.in_ok-graph.graph span of).1
    c.in_ok-span.ensures.least_end)
