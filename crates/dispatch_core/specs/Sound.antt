-- Carried out: what a core keeps besides its history.
use Rattle.std.specs.Prelude.{ℕ, ◌+◌, ◌*◌, ◌≤◌, ◌≡◌, Bool, true, List, Option, Some, length}
use Rattle.std.specs.Prelude.{slice_get, count_by, is_some}
use Rattle.task_segments.specs.Table.{Table}
use Rattle.dispatch_core.specs.declared.event.TheConstants.{MOST_WORKERS}
use Rattle.dispatch_core.specs.declared.event.Event.{Event}
use Rattle.open_segments.specs.Counters.{AreCounts}
use Rattle.open_segments.specs.Entry.{entry}
use Rattle.open_segments.specs.Facts.{IsSoundTable}
use Rattle.dispatch_core.specs.Graph.{IsGraphOf}
use Rattle.dispatch_core.specs.RecordedGraph.{RecordedGraph}
use Rattle.dispatch_core.specs.Run.{HasFinished, HasStarted, Runs, IsLegalRun}
use Rattle.dispatch_core.specs.Successors.{AreSuccessors}
use Rattle.dispatch_core.specs.Values.{IsValue}

-- each of as many segments has a value exactly where it is finished
pub record TellFinished (segments : ℕ) (history : List Event) (values : List (Option ℕ)) : Type
    0 where
  pub each : length values ≡ segments
  pub is_finished : (s value : ℕ) → entry values s ≡ Some value → HasFinished history s
  pub has_value : (s : ℕ) → HasFinished history s → (value : ℕ) × (entry values s ≡ Some value)

-- a flag for each segment: whether it is started
pub record AreStarted (table : Table) (history : List Event) (started : List Bool) : Type 0 where
  pub each : length started ≡ length table.segments
  pub is_started : (s : ℕ) → slice_get started s ≡ Some true → HasStarted history s
  pub has_started : (s : ℕ) → HasStarted history s → slice_get started s ≡ Some true

-- for each worker the segment that it runs, if any
pub record AreRunning (history : List Event) (running : List (Option ℕ)) : Type 0 where
  pub each : length running ≡ MOST_WORKERS
  pub is_run : (worker s : ℕ) → entry running worker ≡ Some s → Runs history worker s
  pub runs : (worker s : ℕ) → Runs history worker s → entry running worker ≡ Some s

-- for each segment its value, once it is finished
pub record AreValues (table : Table) (history : List Event) (value_of : ℕ → ℕ → ℕ → ℕ)
    (values : List (Option ℕ))
    : Type 0 where
  pub tell : TellFinished (length table.segments) history values
  pub is_value : (s value : ℕ) → entry values s ≡ Some value → IsValue table value_of s value

-- the graph of the table, the successors of each segment, and for each segment how many of its
-- predecessors are not finished
pub record IsWaiting (table : Table) (values : List (Option ℕ)) (graph : RecordedGraph)
    (successors : List (List ℕ)) (counts : List ℕ)
    : Type 0 where
  pub of_table : IsGraphOf table graph
  pub followed : AreSuccessors graph successors
  pub counted : AreCounts values graph.predecessors counts

pub record IsSound (value_of : ℕ → ℕ → ℕ → ℕ) (table : Table) (history : List Event) (capacity : ℕ)
    (started : List Bool)
    (running : List (Option ℕ)) (values : List (Option ℕ)) (graph : RecordedGraph)
    (successors : List (List ℕ)) (counts : List ℕ)
    : Type 0 where
  pub sound_table : IsSoundTable table
  pub legal : IsLegalRun table history
  pub are_started : AreStarted table history started
  pub are_running : AreRunning history running
  pub are_values : AreValues table history value_of values
  pub waits : IsWaiting table values graph successors counts
  pub counted : length history ≡ count_by (λ b. b) started + count_by is_some values
  pub reserved : 2 * length table.segments ≤ capacity
