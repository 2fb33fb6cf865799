use Rattle.std.proofs.Common.{◌≡◌}
use Rattle.worker_run.specs.AtRest.{IsAtRest}
use Rattle.worker_run.proofs.alone.run_tokens.Given as goal

abbrev pub invariant-loop : goal.invariant-loop
invariant-loop g l = record {
  table : l.core.table ≡ l.fn.core.table;
  rest : IsAtRest l.core.history;
}
