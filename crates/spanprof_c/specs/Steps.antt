-- Carried out: the graph of a program under costs, and why a step of a call does not answer.
use Rattle.std.specs.Prelude.{ℕ, ◌≡◌, ◌<◌, List, if◌then◌else◌, sum}
use Rattle.dispatch_core.specs.Graph.{IsGraphOf}
use Rattle.dispatch_core.specs.RecordedGraph.{IsGraph, RecordedGraph}
use Rattle.open_segments.specs.Facts.{IsSoundTable}
use Rattle.program_text.specs.Answers.{is_memory}
use Rattle.program_text.specs.declared.fault.ReadFault.{ReadFault}
use Rattle.program_text.specs.declared.limits.TheConstants.{MOST_WORK}
use Rattle.task_segments.specs.Table.{Table, costs_of}
use Rattle.spanprof_c.specs.Programs.{costs_under}
use Rattle.spanprof_c.specs.Refusals.{IsCostCount, IsOutOfRange, IsWrongLength}
use Rattle.spanprof_c.specs.declared.refusal.Refusal.{Refusal}
use Rattle.spanprof_c.specs.declared.refusal.Refusal.TheVariants as refusal

-- the graph of the program, with the costs in place of its own.
pub record IsPriced (given : List ℕ) (graph : RecordedGraph) (table : Table) : Type 0 where
  pub sound : IsSoundTable table
  pub is_graph : IsGraph graph
  pub is_graph_of : IsGraphOf table (record graph { costs = costs_of table })
  pub costs : graph.costs ≡ costs_under (costs_of table) given

-- the graph with the costs that are given, where there are any, in place of its own.
pub record HasCosts (given : List ℕ) (before after : RecordedGraph) : Type 0 where
  pub costs : after.costs ≡ costs_under before.costs given
  pub same : after.predecessors ≡ before.predecessors
  pub is_graph : IsGraph after

-- why a call is not answered where its text is not read.
abbrev pub refusal_of_text : ReadFault → Refusal
refusal_of_text fault = if is_memory fault.kind then refusal.OutOfMemory else refusal.Text fault.kind fault.line

-- a reason not to take costs for a graph of so many segments.
abbrev pub RefusesCosts : List ℕ → ℕ → Refusal → Type 0
RefusesCosts given count refusal.CostCount = IsCostCount given count
RefusesCosts given count refusal.CostsTooLarge = MOST_WORK < sum given
RefusesCosts given count _ = ⊥

-- a reason not to answer about a graph of so many segments.
abbrev pub RefusesGraph : ℕ → List ℕ → ℕ → Refusal → Type 0
RefusesGraph threads lengths count refusal.ThreadCount = IsOutOfRange threads
RefusesGraph threads lengths count refusal.WrongLength = IsWrongLength lengths count
RefusesGraph threads lengths count refusal.OutOfMemory = Unit {0}
RefusesGraph threads lengths count _ = ⊥
