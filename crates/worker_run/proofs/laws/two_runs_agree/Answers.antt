use Rattle.std.proofs.Common.{ℕ, List, ◌%◌, ◌^◌, sum, ap}
use Rattle.worker_run.proofs.ValueLists.{one_list}
use Rattle.worker_run.proofs.laws.two_runs_agree.Goals as goal

pub returns : goal.returns
returns c =
    λ table value_of graph other_graph values other_values is_graph is_other are_values are_other.
    let same = one_list table value_of values other_values are_values are_other in (
      c.one_graph.ensures table graph other_graph is_graph is_other,
      same,
      ap (λ (l : List ℕ). sum l % 2 ^ 64) same,
    )
