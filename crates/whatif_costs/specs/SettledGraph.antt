-- Carried out: what a trial keeps of its graph.
use Rattle.std.specs.Prelude.{◌≡◌, ℕ, ◌≤◌, List, length, sum}
use Rattle.dispatch_core.specs.RecordedGraph.{RecordedGraph, Precedes}
use Rattle.task_segments.specs.Schedule.{end_of}
use Rattle.task_segments.specs.StartsAndTails.{IsEarliest, IsTails}
use Rattle.program_text.specs.declared.limits.TheConstants.{MOST_WORK}
use Rattle.whatif_costs.specs.Successors.{AreSuccessors}
use Rattle.whatif_costs.specs.declared.reach.Settled.{Settled}

-- the successors, starts, tails and span are those of the graph
pub record AreSettled (graph : RecordedGraph) (settled : Settled) : Type 0 where
  pub follow : AreSuccessors graph settled.successors
  pub earliest : IsEarliest graph.costs (Precedes graph) settled.starts.items
  pub tailed : IsTails graph.costs (Precedes graph) settled.tails.items
  pub ends : settled.span ≡ end_of graph.costs settled.starts.items

-- the current costs are those of the graph, which is settled, and the own costs fit it too
pub record AgreesWithGraph (own current : List ℕ) (graph : RecordedGraph) (settled : Settled) : Type
    0 where
  pub same : current ≡ graph.costs
  pub each : length own ≡ length graph.costs
  pub small_own : sum own ≤ MOST_WORK
  pub right : AreSettled graph settled
