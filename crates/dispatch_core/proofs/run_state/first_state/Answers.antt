use Rattle.std.proofs.Common.{rules}
use Rattle.dispatch_core.proofs.Unfinished.{waits_first}
use Rattle.dispatch_core.proofs.run_state.first_state.Goals as goal

pub returns : goal.returns
returns g c = record {
  history = search rules;
  reserved = search rules;
  started = search rules;
  running = search rules;
  values = search rules;
  waits = waits_first c.args.table.now c.in_ok-graph.graph c.in_ok-successors.successors
      c.in_ok-counts.counts.items c.in_ok-graph.ensures c.in_ok-successors.ensures
      c.in_ok-counts.ensures;
}
