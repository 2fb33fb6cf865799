-- What is answered about a timed run, and why nothing is.
use Rattle.std.specs.Prelude.{ℕ, ◌≡◌, ◌⊎◌, List, length}
use Rattle.dispatch_core.specs.Graph.{IsGraphOf}
use Rattle.dispatch_core.specs.RecordedGraph.{Precedes, RecordedGraph}
use Rattle.task_segments.specs.Table.{Table}
use Rattle.time_accounts.specs.Faults.{IsRanged, IsTimesFault}
use Rattle.time_accounts.specs.Shares.{Shares, ready_moments, shares_of}
use Rattle.time_accounts.specs.TimedRun.{IsTimedRun, TimedRun}
use Rattle.time_accounts.specs.declared.fault.TimesFault.{TimesFault}
use Rattle.time_accounts.specs.declared.fault.TimesFault.TheVariants as times
use Rattle.spanprof_c.specs.Programs.{OfText}
use Rattle.spanprof_c.specs.Refusals.{Asked, TellsWhy}
use Rattle.spanprof_c.specs.declared.told.Accounted.{Accounted}
use Rattle.spanprof_c.specs.declared.told.Place.{Place}

abbrev pub timed_run : List ℕ → List ℕ → List ℕ → TimedRun
timed_run threads begins
    ends = record { threads = threads; begins = begins; ends = ends }

abbrev pub shares_told : Accounted → Shares
shares_told told = record {
  busy = told.busy;
  delayed = told.delayed;
  starved = told.starved;
  outside = told.outside;
}

-- the run is legal; these are the shares of its threads' time, and when each segment was ready
pub record Accounts (p first last : ℕ) (run : TimedRun) (readies : List ℕ) (told : Accounted)
    (graph : RecordedGraph)
    : Type 0 where
  pub legal : IsTimedRun (length graph.costs) (Precedes graph) p first last run
  -- the number of threads and the moments are within the limits
  pub within : IsRanged (length graph.costs) p first last run
  pub shares : shares_told told ≡ shares_of graph p first last run
  pub ready : readies ≡ ready_moments graph run

-- the program's graph, of which something is so
pub record OfGraph (Says : RecordedGraph → Type 0) (table : Table) : Type 0 where
  pub graph : RecordedGraph
  pub is_graph_of : IsGraphOf table graph
  pub says : Says graph

-- why the times are not those of a legal run on this graph
abbrev pub RefusesRun : ℕ → ℕ → ℕ → TimedRun → TimesFault → RecordedGraph → Type 0
RefusesRun p first last run fault graph =
    IsTimesFault (length graph.costs) (Precedes graph) p first last run fault

abbrev pub times_number : TimesFault → ℕ
times_number times.OutOfMemory = 13
times_number times.ThreadCount = 15
times_number times.Count = 18
times_number times.Moments = 19
times_number (times.NoThread s) = 20
times_number (times.EndsEarly s) = 21
times_number (times.OutOfTime s) = 22
times_number (times.TooSoon s r) = 23
times_number (times.NotApart s) = 24

-- one or two segments, and no line
abbrev pub at_segments : ℕ → ℕ → Place
at_segments one other = record { line = 0; segment = one; other = other }

-- the segments of a fault, and else nothing
abbrev pub times_place : TimesFault → Place
times_place (times.NoThread s) = at_segments s 0
times_place (times.EndsEarly s) = at_segments s 0
times_place (times.OutOfTime s) = at_segments s 0
times_place (times.TooSoon s r) = at_segments s r
times_place (times.NotApart s) = at_segments s 0
times_place _ = at_segments 0 0

-- a number and a place say why the times are refused
pub record TellsTimes (ask : Asked) (first last : ℕ) (run : TimedRun) (number : ℕ) (place : Place)
    : Type 0 where
  pub fault : TimesFault
  pub is_fault : OfText ask.from (OfGraph (RefusesRun ask.threads first last run fault))
  pub is_number : number ≡ times_number fault
  pub is_place : place ≡ times_place fault

-- or why there is no account at all
abbrev pub TellsNoAccount : Asked → ℕ → ℕ → TimedRun → ℕ → Place → Type 0
TellsNoAccount ask first last run number place =
    TellsWhy ask number place ⊎ TellsTimes ask first last run number place
