use Rattle.std.proofs.Common.{ap, length, rules, subst, ◌∙◌}
use Rattle.dispatch_core.specs.RecordedGraph.{Precedes}
use Rattle.time_accounts.specs.Faults.{IsTimesFault}
use Rattle.time_accounts.specs.TimedRun.{TimedRun}
use Rattle.large_documents.specs.Times.{run_of}
use Rattle.large_documents.proofs.accounts.judge_run.Goals as goal

pub returns : goal.returns
returns c =
    let graph = c.args.graph.now in
    let region = c.args.told.now.region in
    record {
      fault = c.in-Err.fault;
      of_run = search rules;
      is_fault = subst (λ (run : TimedRun). IsTimesFault (length graph.costs) (Precedes graph)
          region.threads region.first region.last run c.in-Err.fault)
          (c.in_ok-times.ensures ∙ ap run_of c.as_slice.ensures.value) c.in-Err.ensures.why;
      says = c.in_ok-times_refused-in-Err.ensures;
    }
