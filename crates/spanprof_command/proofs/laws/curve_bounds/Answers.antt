use Rattle.spanprof_command.proofs.Bounds.{bound_above, least_below}
use Rattle.spanprof_command.proofs.laws.curve_bounds.Goals as goal

pub returns-clause-least : goal.returns-clause-least
returns-clause-least c p span starts some on is_span =
    least_below _ span p _ some (c.same_greedy_runs.ensures.work_done _ starts p on)
    (c.same_greedy_runs.ensures.span_least _ starts span on.legal is_span)

pub returns-clause-bound : goal.returns-clause-bound
returns-clause-bound c p span starts some greedy is_span =
    bound_above _ span p _ some (c.same_greedy_runs.ensures.ends_by _ starts p span some greedy is_span)
