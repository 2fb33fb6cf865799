-- Why there is no account of a timed run.
use Rattle.std.proofs.Common.{ℕ, ◌≡◌, ◌≢◌, ◌≤◌, [], Result, Ok, Err, subst}
use Rattle.std.specs.Prelude.{IfErr, MatchResult}
use Rattle.dispatch_core.specs.Graph.{IsGraphOf}
use Rattle.dispatch_core.specs.RecordedGraph.{RecordedGraph}
use Rattle.task_segments.specs.Table.{Table}
use Rattle.time_accounts.specs.TimedRun.{TimedRun}
use Rattle.time_accounts.specs.declared.fault.TimesFault.{TimesFault}
use Rattle.spanprof_c.specs.Programs.{OfText}
use Rattle.spanprof_c.specs.Refusals.{Asked}
use Rattle.spanprof_c.specs.Runs.{RefusesRun, TellsTimes, times_number, times_place}
use Rattle.spanprof_c.specs.Steps.{IsPriced}
use Rattle.spanprof_c.specs.declared.told.Place.{Place}

-- a graph with the program's own costs is the program's
own_graph : (table : Table) (graph : RecordedGraph) → IsPriced [] graph table
    → IsGraphOf table graph
own_graph table graph priced = record {
  costs = priced.costs;
  each = priced.is_graph_of.each;
  predecessors = priced.is_graph_of.predecessors;
}

pub times_refused : {X : Type 0} (ask : Asked) (first last : ℕ) (run other : TimedRun)
    (graph : RecordedGraph) (outcome : Result X TimesFault) (number : ℕ) (place : Place)
    → OfText ask.from (IsPriced [] graph)
    → other ≡ run
    → MatchResult outcome (λ _. number ≡ 0)
    (λ fault. (1 ≤ number) × (number ≡ times_number fault) × (place ≡ times_place fault))
    → IfErr outcome (λ fault. RefusesRun ask.threads first last other fault graph)
    → number ≢ 0
    → TellsTimes ask first last run number place
times_refused ask first last run other graph (Ok answer) number place priced same told refused some =
    absurd (some told)
times_refused ask first last run other graph (Err fault) number place priced same told refused some =
    record {
      fault = fault;
      is_fault = record {
        marks = priced.marks;
        stands = priced.stands;
        says = record {
          graph = graph;
          is_graph_of = own_graph _ graph priced.says;
          says = subst (λ (r : TimedRun). RefusesRun ask.threads first last r fault graph) same
              refused;
        };
      };
      is_number = told.1;
      is_place = told.2;
    }
