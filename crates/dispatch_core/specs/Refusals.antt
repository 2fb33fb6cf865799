-- When a start or a finish is refused, and why: the first reason that holds.
use Rattle.std.specs.Prelude.{ℕ, ◌<◌, ◌≤◌, ◌≡◌, List, length}
use Rattle.task_segments.specs.Table.{Table, segment}
use Rattle.task_segments.specs.Precedence.{IsSegment, MustPrecede}
use Rattle.dispatch_core.specs.declared.event.TheConstants.{MOST_WORKERS}
use Rattle.dispatch_core.specs.declared.event.Event.{Event}
use Rattle.dispatch_core.specs.declared.event.StartRefusal.{StartRefusal}
use Rattle.dispatch_core.specs.declared.event.StartRefusal.TheVariants.{UnknownWorker}
use Rattle.dispatch_core.specs.declared.event.StartRefusal.TheVariants.{UnknownSegment, WorkerBusy}
use Rattle.dispatch_core.specs.declared.event.StartRefusal.TheVariants.{AlreadyStarted, NotReady}
use Rattle.dispatch_core.specs.declared.event.FinishKind.{FinishKind}
use Rattle.dispatch_core.specs.declared.event.FinishKind.TheVariants.{NotRunning, WrongCost}
use Rattle.dispatch_core.specs.declared.event.FinishKind.TheVariants.{WrongInput, OutOfMemory}
use Rattle.dispatch_core.specs.Result.{Computation}
use Rattle.dispatch_core.specs.Values.{IsInput}
use Rattle.dispatch_core.specs.Run.{HasStarted, HasFinished, Runs}

-- the smallest segment that must precede this one and is not finished
pub record IsFirstUnfinished (table : Table) (history : List Event) (s pred : ℕ) : Type 0 where
  pub precedes : MustPrecede table pred s
  pub unfinished : ¬ HasFinished history pred
  pub smallest : (other : ℕ) → other < pred → MustPrecede table other s → HasFinished history other

-- both are known
pub record AreKnown (table : Table) (worker s : ℕ) : Type 0 where
  pub worker_known : worker < MOST_WORKERS
  pub segment_known : IsSegment table s

-- the worker runs nothing
abbrev pub IsIdle : List Event → ℕ → Type 0
IsIdle history worker = (other : ℕ) → ¬ Runs history worker other

-- why the worker may not start the segment
abbrev pub RefusesStart : Table → List Event → ℕ → ℕ → StartRefusal → Type 0
RefusesStart table history worker s UnknownWorker = MOST_WORKERS ≤ worker
RefusesStart table history worker s UnknownSegment =
    (worker < MOST_WORKERS) × (length table.segments ≤ s)
RefusesStart table history worker s WorkerBusy =
    AreKnown table worker s × ((other : ℕ) × Runs history worker other)
RefusesStart table history worker s AlreadyStarted =
    AreKnown table worker s × IsIdle history worker × HasStarted history s
RefusesStart table history worker s (NotReady pred) =
    AreKnown table worker s × IsIdle history worker × (¬ HasStarted history s)
    × IsFirstUnfinished table history s pred

-- what a segment of the program costs
pub record IsCost (table : Table) (s cost : ℕ) : Type 0 where
  pub known : IsSegment table s
  pub costs : cost ≡ (segment table s).cost

-- the worker runs the segment, and the result is for its cost and its input
pub record MayFinish (table : Table) (history : List Event) (value_of : ℕ → ℕ → ℕ → ℕ) (worker : ℕ)
    (result : Computation)
    : Type 0 where
  pub runs : Runs history worker result.segment
  pub cost : IsCost table result.segment result.cost
  pub input : IsInput table value_of result.segment result.input

-- why the worker may not finish with the result; memory is wanted only for one that it may finish
-- with
abbrev pub RefusesFinish : Table → List Event → (ℕ → ℕ → ℕ → ℕ) → ℕ → Computation → FinishKind
    → Type 0
RefusesFinish table history value_of worker result NotRunning = ¬ Runs history worker result.segment
RefusesFinish table history value_of worker result WrongCost =
    Runs history worker result.segment × (¬ IsCost table result.segment result.cost)
RefusesFinish table history value_of worker result WrongInput =
    Runs history worker result.segment
    × IsCost table result.segment result.cost
    × (¬ IsInput table value_of result.segment result.input)
RefusesFinish table history value_of worker result OutOfMemory =
    MayFinish table history value_of worker result
