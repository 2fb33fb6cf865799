-- What a program's graph has in common with the relation that it records.
use Rattle.std.proofs.Common.{ℕ, ◌↔◌, ◌⊎◌, List, length, inl, inr, arith}
use Rattle.std.specs.Prelude.{Contains}
use Rattle.std.proofs.lemmas.Bool.{cases_lt, cases_eq}
use Rattle.task_segments.specs.Table.{Table}
use Rattle.task_segments.specs.Precedence.{Continues, Creation, MustPrecede}
use Rattle.task_segments.proofs.Reaches.{Reaches, reaches_by_one, reach_map, reaches}
use Rattle.depend_table.specs.KeptEdges.{IsKeptEdge}
use Rattle.dispatch_core.specs.declared.event.Event.{Event}
use Rattle.dispatch_core.specs.declared.event.Event.TheVariants.{Start}
use Rattle.open_segments.specs.Facts.{IsSoundTable}
use Rattle.dispatch_core.specs.Graph.{IsGraphOf}
use Rattle.dispatch_core.specs.RecordedGraph.{RecordedGraph, Precedes}
use Rattle.dispatch_core.specs.Run.{Runs, IsLegalRun, IsOpen, MayRun}
use Rattle.dispatch_core.proofs.StartAndEnd.{no_more}
use Rattle.dispatch_core.proofs.KeptEnough.{precedes_of}
use Rattle.dispatch_core.proofs.FinishStep.{started_known, started_after_preds}

pub graph_edges : (table : Table) (graph : RecordedGraph) (s t : ℕ)
    → IsSoundTable table
    → IsGraphOf table graph
    → Precedes graph s t ↔ IsKeptEdge table s t
graph_edges table graph s t sound of = (
  λ member. elim (cases_lt t (length table.segments)) [
    | inl known ↦ ((of.predecessors t known).each s).0 member
    | inr past ↦ absurd (no_more graph t s (omega (arith, of.each, past)) member)
  ],
  λ kept.
      ((of.predecessors t (sound.goes_up.within s t (sound.chains.within s t kept))).each s).1 kept,
)

pub graph_within : (table : Table) (graph : RecordedGraph) → IsSoundTable table
    → IsGraphOf table graph → (s t : ℕ) → Precedes graph s t → MustPrecede table s t
graph_within table graph sound of s t edge =
    sound.chains.within s t ((graph_edges table graph s t sound of).0 edge)

pub graph_ways : (table : Table) (graph : RecordedGraph)
    → IsSoundTable table
    → IsGraphOf table graph
    → (s t : ℕ)
    → MustPrecede table s t
    → Reaches (Precedes graph) s t
graph_ways table graph sound of s t edge =
    reach_map (λ a b kept. reaches_by_one ((graph_edges table graph a b sound of).1 kept))
    (reaches (sound.chains.joined s t edge))

pub opens_so : (table : Table) (history : List Event) (worker s : ℕ)
    → IsSoundTable table
    → IsLegalRun table history
    → Contains history (Start worker s)
    → IsOpen table history s
opens_so table history worker s sound legal started = elim (cases_eq s 0) [
  | inl first ↦ inl first
  | inr later ↦
      let edge : (p : ℕ) × (Continues table p s ⊎ Creation table p s) = sound.goes_up.reached s
      (omega (arith, later)) ((started_known table history worker s legal started).1) in
      inr (
        edge.0,
        edge.1,
        started_after_preds table history worker s legal started edge.0
            (precedes_of table edge.0 s edge.1),
      )
]

pub runs_so : (table : Table) (history : List Event) (worker s : ℕ)
    → IsSoundTable table
    → IsLegalRun table history
    → Runs history worker s
    → MayRun table history worker s
runs_so table history worker s sound legal runs =
    let known = started_known table history worker s legal runs.started in
    record {
      known = known.0;
      is_segment = known.1;
      is_open = opens_so table history worker s sound legal runs.started;
      after = started_after_preds table history worker s legal runs.started;
    }
