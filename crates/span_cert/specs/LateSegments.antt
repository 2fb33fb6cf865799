-- Carried out: the first segment that starts before a kept predecessor ends.
use Rattle.std.specs.Prelude.{ℕ, ◌+◌, ◌<◌, List}
use Rattle.dispatch_core.specs.RecordedGraph.{RecordedGraph, Precedes}
use Rattle.task_segments.specs.Schedule.{at}

-- t starts before its predecessor s ends
pub record IsLateFor (graph : RecordedGraph) (starts : List ℕ) (s t : ℕ) : Type 0 where
  pub precedes : Precedes graph s t
  pub too_soon : at starts t < at starts s + at graph.costs s

-- t starts before one of its predecessors ends
abbrev pub IsLate : RecordedGraph → List ℕ → ℕ → Type 0
IsLate graph starts t = (s : ℕ) × IsLateFor graph starts s t

abbrev pub NoneIsLate : RecordedGraph → List ℕ → Type 0
NoneIsLate graph starts = (t : ℕ) → ¬ IsLate graph starts t

-- it is the first such segment
pub record IsFirstLate (graph : RecordedGraph) (starts : List ℕ) (t : ℕ) : Type 0 where
  pub late : IsLate graph starts t
  pub none_before : (u : ℕ) → u < t → ¬ IsLate graph starts u
