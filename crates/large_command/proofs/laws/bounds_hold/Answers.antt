use Rattle.std.proofs.Common.{ℕ, ◌≤◌, ◌+◌, ◌-◌, ◌*◌, subst}
use Rattle.task_segments.specs.Precedence.{MustPrecede}
use Rattle.task_segments.specs.Schedule.{end_of}
use Rattle.task_segments.specs.Table.{costs_of, table_of}
use Rattle.greedy_sim.proofs.EverySchedule.{ends_by, span-le, work-le}
use Rattle.large_command.proofs.Bounds.{all_work_of, must_ascend}
use Rattle.spanprof_command.proofs.Bounds.{bound_above, least_below}
use Rattle.large_command.proofs.laws.bounds_hold.Goals as goal

pub returns-clause-least : goal.returns-clause-least
returns-clause-least c body p span starts nested some is_span on =
    let costs = costs_of (table_of body) in
    let R = MustPrecede (table_of body) in
    least_below _ span p _ some
    (subst (λ (work : ℕ). work ≤ p * end_of costs starts) (all_work_of body nested)
    (work-le costs R p starts on))
    (span-le costs R span starts on.legal is_span.greatest_sum)

pub returns-clause-bound : goal.returns-clause-bound
returns-clause-bound c body p span starts nested some is_span greedy =
    let costs = costs_of (table_of body) in
    let R = MustPrecede (table_of body) in
    bound_above _ span p _ some
    (subst (λ (work : ℕ). p * end_of costs starts ≤ work + (p - 1) * span)
    (all_work_of body nested)
    (ends_by costs R p span starts (must_ascend body nested) greedy is_span.greatest_sum.greatest
    some))
