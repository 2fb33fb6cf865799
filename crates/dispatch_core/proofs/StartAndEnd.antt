-- A core at the start of a run, and the graph at its end.
use Rattle.std.proofs.Common.{ℕ, ◌*◌, ◌<◌, ◌≤◌, ◌≡◌, ◌⊎◌, suc, Bool, true, false, List}
use Rattle.std.proofs.Common.{[], ◌∷◌, Option, None, length, refl, sym, ap, ◌∙◌, subst, arith}
use Rattle.std.proofs.Common.{inl, inr, sum, sum_by, cond, get_or}
use Rattle.std.specs.Prelude.{All}
use Rattle.std.proofs.lemmas.List.Sums.{sum_by-le}
use Rattle.open_segments.proofs.Ascending.{length_below, Lists-same}
use Rattle.std.specs.Prelude.{replicate, Contains, is_some}
use Rattle.std.proofs.lemmas.Bool.{cases_lt, both_ways}
use Rattle.std.proofs.lemmas.Option.{none-some}
use Rattle.std.proofs.lemmas.List.{length-map, length-replicate, get_or_past, get_or_default}
use Rattle.std.proofs.lemmas.List.Folds.{sum_by-replicate}
use Rattle.task_segments.specs.declared.limits.TheConstants.{MOST_ROWS}
use Rattle.task_segments.specs.Table.{Table, costs_of}
use Rattle.task_segments.specs.declared.table.Segment.{Segment}
use Rattle.task_segments.specs.Precedence.{Continues, Creation}
use Rattle.dispatch_core.specs.declared.event.TheConstants.{MOST_WORKERS}
use Rattle.dispatch_core.specs.declared.event.Event.{Event}
use Rattle.dispatch_core.specs.Run.{HasStarted, HasFinished, Runs, IsOpen}
use Rattle.open_segments.specs.Facts.{IsSoundTable}
use Rattle.dispatch_core.specs.Sound.{IsSound, IsWaiting}
use Rattle.depend_table.specs.KeptEdges.{IsKeptEdge}
use Rattle.open_segments.specs.KeptLists.{AreFirstLists}
use Rattle.dispatch_core.proofs.KeptEnough.{precedes_of}
use Rattle.dispatch_core.specs.RecordedGraph.{RecordedGraph, IsGraph, Precedes, predecessors_of}
use Rattle.dispatch_core.specs.Graph.{IsGraphOf}
use Rattle.open_segments.proofs.PlaceLemmas.{entry-replicate, get-replicate}

nothing_started : (s : ℕ) → ¬ HasStarted [] s
nothing_started s h = let within = h.started.1 in absurd (omega arith)

nothing_finished : (s : ℕ) → ¬ HasFinished [] s
nothing_finished s h = let within = h.finished.1 in absurd (omega arith)

nothing_runs : (worker s : ℕ) → ¬ Runs [] worker s
nothing_runs worker s h = let within = h.started.1 in absurd (omega arith)

pub sound_at_start : (value_of : ℕ → ℕ → ℕ → ℕ) (table : Table) (capacity : ℕ)
    (graph : RecordedGraph) (successors : List (List ℕ)) (counts : List ℕ)
    → IsSoundTable table
    → 2 * length table.segments ≤ capacity
    → IsWaiting table (replicate (length table.segments) None) graph successors counts
    → IsSound value_of table [] capacity (replicate (length table.segments) false)
    (replicate MOST_WORKERS None) (replicate (length table.segments) None) graph successors counts
sound_at_start value_of table capacity graph successors counts sound room state = record {
  sound_table = sound;
  legal = λ k event h. absurd (none-some event h);
  are_started = record {
    each = length-replicate (length table.segments) false;
    is_started = λ s h.
        absurd (both_ways false refl (get-replicate (length table.segments) false true s h));
    has_started = λ s h. absurd (nothing_started s h);
  };
  are_running = record {
    each = length-replicate {A = Option ℕ} MOST_WORKERS None;
    is_run = λ worker s h. absurd (entry-replicate MOST_WORKERS s worker h);
    runs = λ worker s h. absurd (nothing_runs worker s h);
  };
  are_values = record {
    tell = record {
      each = length-replicate {A = Option ℕ} (length table.segments) None;
      is_finished = λ s v h. absurd (entry-replicate (length table.segments) v s h);
      has_value = λ s h. absurd (nothing_finished s h);
    };
    is_value = λ s v h. absurd (entry-replicate (length table.segments) v s h);
  };
  waits = state;
  counted = omega (
    arith,
    sum_by-replicate (λ (b : Bool). cond {A = ℕ} b 1 0) (length table.segments) false,
    sum_by-replicate (λ (o : Option ℕ). cond {A = ℕ} (is_some o) 1 0) (length table.segments)
        None,
  );
  reserved = room;
}

pub sound_first : (value_of : ℕ → ℕ → ℕ → ℕ) (table : Table) (capacity : ℕ) (history : List Event)
    (started : List Bool) (running values : List (Option ℕ)) (graph : RecordedGraph)
    (successors : List (List ℕ)) (counts : List ℕ)
    → IsSoundTable table
    → 2 * length table.segments ≤ capacity
    → history ≡ []
    → started ≡ replicate (length table.segments) false
    → running ≡ replicate MOST_WORKERS None
    → values ≡ replicate (length table.segments) None
    → IsWaiting table (replicate (length table.segments) None) graph successors counts
    → IsSound value_of table history capacity started running values graph successors counts
sound_first value_of table capacity history started running values graph successors counts sound
    room h s r v state =
    subst (λ (x : List Event). IsSound value_of table x capacity started running values graph
    successors counts)
    (sym h)
    (subst (λ (x : List Bool). IsSound value_of table [] capacity x running values graph successors
    counts)
    (sym s)
    (subst
    (λ (x : List (Option ℕ)). IsSound value_of table [] capacity
    (replicate (length table.segments) false) x values graph successors counts)
    (sym r)
    (subst
    (λ (x : List (Option ℕ)). IsSound value_of table [] capacity
    (replicate (length table.segments) false) (replicate MOST_WORKERS None) x graph successors
    counts)
    (sym v)
    (sound_at_start value_of table capacity graph successors counts sound room state))))

pub open_known : (table : Table) (history : List Event) (s : ℕ) → IsSoundTable table
    → IsOpen table history s → s < length table.segments
open_known table history s sound (inl first) = let some = sound.some_segment in omega arith
open_known table history s sound (inr (p, edge, done)) =
    sound.goes_up.within p s (precedes_of table p s edge)

-- a segment past the last has no predecessors
pub no_more : (graph : RecordedGraph) (t s : ℕ)
    → length graph.predecessors ≤ t
    → ¬ Precedes graph s t
no_more graph t s past member =
    let within : member.0 < length (predecessors_of graph t) = member.1 in
    absurd (omega
    (arith, within, ap (λ (l : List ℕ). length l) (get_or_past graph.predecessors t [] past)))

pub graph_of_program : (table : Table) (graph : RecordedGraph) → IsSoundTable table
    → IsGraphOf table graph → IsGraph graph
graph_of_program table graph sound of =
    let same : length graph.costs ≡ length table.segments =
    ap length of.costs ∙ length-map table.segments (λ (row : Segment). row.cost) in
    record {
      each = of.each ∙ sym same;
      some = let some = sound.some_segment in omega arith;
      few = let few = sound.few_segments in omega arith;
      small = let little = sound.little_work in omega (arith, ap sum of.costs);
      smaller = λ s t member. elim (cases_lt t (length table.segments)) [
        | inl known ↦ sound.goes_up.ascending s t
            (sound.chains.within s t (((of.predecessors t known).each s).0 member))
        | inr past ↦ absurd (no_more graph t s (omega (arith, of.each, past)) member)
      ];
      ascending = λ t. elim (cases_lt t (length table.segments)) [
        | inl known ↦ (of.predecessors t known).ascending
        | inr past ↦ λ k h.
            let none = ap (λ (l : List ℕ). length l)
            (get_or_past graph.predecessors t [] (omega (arith, of.each, past))) in
            absurd (omega (arith, h, none))
      ];
      reached = λ t later known.
          let edge : (s : ℕ) × (Continues table s t ⊎ Creation table s t) =
          sound.goes_up.reached t later (omega arith) in
          let kept : IsKeptEdge table edge.0 t =
          elim edge.1 [ inl next ↦ inl next | inr created ↦ inr (inl created) ] in
          let member : Contains (predecessors_of graph t) edge.0 =
          ((of.predecessors t (omega arith)).each edge.0).1 kept in
          omega (arith, member.1);
    }

-- the kept predecessors of all segments, and their costs
pub graph_of_lists : (table : Table) (costs : List ℕ) (lists : List (List ℕ))
    → costs ≡ costs_of table
    → AreFirstLists table (length table.segments) lists
    → IsGraphOf table (record { costs = costs; predecessors = lists })
graph_of_lists table costs lists are_costs are_lists = record {
  costs = are_costs;
  each = are_lists.each;
  predecessors = λ t known. are_lists.kept t known;
}

-- how many pairs of a predecessor and a segment a graph has
pub few_edges : (graph : RecordedGraph)
    → IsGraph graph
    → sum_by (λ (list : List ℕ). length list) graph.predecessors ≤ MOST_ROWS * MOST_ROWS
few_edges graph is_graph =
    let each : All (λ (list : List ℕ). length list ≤ MOST_ROWS)
    graph.predecessors = λ k d within.
    let same : get_or graph.predecessors k d ≡ predecessors_of graph k =
    get_or_default graph.predecessors k d [] within in
    let few = length_below k (predecessors_of graph k) (is_graph.ascending k)
    (λ p member. is_graph.smaller p k member) in
    let all = is_graph.each in
    let limit = is_graph.few in
    omega (arith, few, all, limit, within, ap (λ (l : List ℕ). length l) same) in
    let total = sum_by-le (λ (list : List ℕ). length list) MOST_ROWS graph.predecessors each in
    let few : length graph.predecessors ≤ MOST_ROWS =
    let all = is_graph.each in let limit = is_graph.few in omega arith in
    omega arith

same_lists : (xs ys : List (List ℕ))
    → length xs ≡ length ys
    → ((t : ℕ) → t < length xs → get_or xs t [] ≡ get_or ys t [])
    → xs ≡ ys
same_lists [] [] each same = refl
same_lists [] (y ∷ ys) each same = absurd (omega arith)
same_lists (x ∷ xs) [] each same = absurd (omega arith)
same_lists (x ∷ xs) (y ∷ ys) each same =
    let head : x ≡ y = same 0 (omega arith) in
    let tail : xs ≡ ys = same_lists xs ys (omega arith) (λ t within. same (suc t) (omega arith)) in
    cc

pub one_graph : (table : Table) (one other : RecordedGraph) → IsGraphOf table one
    → IsGraphOf table other → one ≡ other
one_graph table one other of_one of_other =
    let costs : one.costs ≡ other.costs = of_one.costs ∙ sym of_other.costs in
    let lists : one.predecessors ≡ other.predecessors =
    same_lists one.predecessors other.predecessors (of_one.each ∙ sym of_other.each)
    (λ t within.
    let known : t < length table.segments = omega (arith, of_one.each) in
    Lists-same (λ s. IsKeptEdge table s t) (predecessors_of one t) (predecessors_of other t)
    (of_one.predecessors t known) (of_other.predecessors t known)) in
    ap (λ (c : List ℕ). record { costs = c; predecessors = one.predecessors }) costs
    ∙ ap (λ (p : List (List ℕ)). record { costs = other.costs; predecessors = p }) lists
