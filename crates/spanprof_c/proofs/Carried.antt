-- What is answered about a program's graph holds under all pairs of segments of which the first must
-- precede the second, whatever the costs are.
use Rattle.std.proofs.Common.{ℕ, ◌+◌, ◌<◌, ◌≡◌, ◌↔◌, ◌∙◌, Bool, List, [], Option, Result, Ok, Err}
use Rattle.std.proofs.Common.{◌≤◌, length, refl, sum, sym, ap, subst}
use Rattle.std.specs.Prelude.{IfOk, MatchResult}
use Rattle.dispatch_core.specs.Graph.{IsGraphOf}
use Rattle.dispatch_core.specs.RecordedGraph.{IsGraph, Precedes, RecordedGraph}
use Rattle.dispatch_core.proofs.Carried.{graph_within, graph_ways}
use Rattle.greedy_sim.specs.Greedy.{IsGreedyRun}
use Rattle.greedy_sim.proofs.SameGreedy.{same_run}
use Rattle.open_segments.specs.Facts.{IsSoundTable}
use Rattle.program_text.specs.declared.limits.TheConstants.{MOST_WORK}
use Rattle.span_analysis.specs.Findings.{AreFindings, Findings}
use Rattle.task_segments.specs.Precedence.{MustPrecede}
use Rattle.task_segments.specs.Schedule.{IsLegal, at}
use Rattle.task_segments.specs.Table.{Table, costs_of, table_of}
use Rattle.task_segments.proofs.Reaches.{Reaches}
use Rattle.task_segments.proofs.SameSchedules.{same_legal, same_least_end, same_least_start}
use Rattle.task_segments.proofs.SameSchedules.{same_slack, same_span}
use Rattle.task_segments.proofs.Schedules.{chain_within}
use Rattle.spanprof_c.specs.Programs.{OfText, OnCosts, Source, costs_under}
use Rattle.spanprof_c.specs.Steps.{HasCosts, IsPriced}
use Rattle.spanprof_c.specs.Steps.{RefusesCosts}
use Rattle.spanprof_c.specs.declared.refusal.Refusal.{Refusal}
use Rattle.spanprof_c.specs.Told.{Analyses, Curves, Judges, Measures, RunsGreedily}
use Rattle.spanprof_c.specs.declared.told.Analysed.{Analysed}
use Rattle.spanprof_c.specs.declared.told.Measured.{Measured}

-- the program's own graph, where other costs are in its place
abbrev own : Table → RecordedGraph → RecordedGraph
own table graph = record graph { costs = costs_of table }

module _ (table : Table) (graph : RecordedGraph) (sound : IsSoundTable table)
    (of : IsGraphOf table (own table graph)) where
  up : (s t : ℕ) → MustPrecede table s t → s < t
  up = sound.goes_up.ascending

  within : (s t : ℕ) → Precedes graph s t → MustPrecede table s t
  within = graph_within table (own table graph) sound of

  ways : (s t : ℕ) → MustPrecede table s t → Reaches (Precedes graph) s t
  ways = graph_ways table (own table graph) sound of

  legal : (costs starts : List ℕ)
      → IsLegal costs (MustPrecede table) starts ↔ IsLegal costs (Precedes graph) starts
  legal = same_legal (MustPrecede table) (Precedes graph) up within ways

  findings : (costs : List ℕ) (found : Findings) → AreFindings costs (Precedes graph) found
      → AreFindings costs (MustPrecede table) found
  findings costs found are =
      let R : ℕ → ℕ → Type 0 = MustPrecede table in
      let Q : ℕ → ℕ → Type 0 = Precedes graph in
      record {
        all_work = are.all_work;
        legal = (legal costs found.starts).1 are.legal;
        earliest = λ s inside. (same_least_start R Q up within ways costs s (at found.starts s)).1
            (are.earliest s inside);
        ends = are.ends;
        least_end = (same_least_end R Q up within ways costs found.span).1 are.least_end;
        greatest_sum = (same_span R Q up within ways costs found.span).1 are.greatest_sum;
        each = are.each;
        room = λ s inside. (same_slack R Q up within ways costs s (at found.slacks s)).1
            (are.room s inside);
        segments = are.segments;
        linked = chain_within Q R within found.chain are.linked;
        reached = are.reached;
      }

  pub measures_there : (told : Measured) (costs : List ℕ) → Measures told costs (Precedes graph)
      → Measures told costs (MustPrecede table)
  measures_there told costs is =
      let R : ℕ → ℕ → Type 0 = MustPrecede table in
      let Q : ℕ → ℕ → Type 0 = Precedes graph in
      record {
        counts = is.counts;
        sums = is.sums;
        is_span = (same_span R Q up within ways costs told.span).1 is.is_span;
        is_least_end = (same_least_end R Q up within ways costs told.span).1 is.is_least_end;
      }

  pub analyses_there : (told : Analysed) (starts slacks path costs : List ℕ)
      → Analyses told starts slacks path costs (Precedes graph)
      → Analyses told starts slacks path costs (MustPrecede table)
  analyses_there told starts slacks path costs is = findings costs _ is

  greedy_there : (costs : List ℕ) (p : ℕ) (starts : List ℕ) (threads : List (Option ℕ))
      → IsGreedyRun costs (Precedes graph) p starts threads
      → IsGreedyRun costs (MustPrecede table) p starts threads
  greedy_there costs p starts threads run =
      (same_run costs (MustPrecede table) (Precedes graph) up within ways (legal costs) p starts
      threads).1 run

  pub run_there : (count : ℕ) (starts numbers : List ℕ) (last : ℕ) (costs : List ℕ)
      → RunsGreedily count starts numbers last costs (Precedes graph)
      → RunsGreedily count starts numbers last costs (MustPrecede table)
  run_there count starts numbers last costs is = record {
    threads = is.threads;
    is_run = greedy_there costs count starts is.threads is.is_run;
    are_numbers = is.are_numbers;
    is_end = is.is_end;
    in_range = is.in_range;
  }

  pub curve_there : (upto : ℕ) (ends costs : List ℕ) → Curves upto ends costs (Precedes graph)
      → Curves upto ends costs (MustPrecede table)
  curve_there upto ends costs is = record {
    is_curve = record {
      each = is.is_curve.each;
      at_each = λ k inside.
          let end = is.is_curve.at_each k inside in
          (end.0, end.1, greedy_there costs (k + 1) end.0 end.1 end.2, end.3);
    };
    in_range = is.in_range;
  }

  pub judges_there : (starts : List ℕ) (told : Bool) (costs : List ℕ)
      → Judges starts told costs (Precedes graph)
      → Judges starts told costs (MustPrecede table)
  judges_there starts told costs is = (
    λ yes. (legal costs starts).1 (is.0 yes),
    λ is_legal. is.1 ((legal costs starts).0 is_legal),
  )

-- how many segments a graph has
pub counted : (given : List ℕ) (graph : RecordedGraph) (table : Table)
    → IsPriced given graph table
    → length graph.costs ≡ length table.segments
counted given graph table is = sym is.is_graph.each ∙ is.is_graph_of.each

-- what is so of a program's graph is said of the text
pub on_costs : (Says : List ℕ → (ℕ → ℕ → Type 0) → Type 0) (from : Source) (given : List ℕ)
    (graph : RecordedGraph)
    → ((table : Table) → IsSoundTable table → IsGraphOf table (own table graph)
    → Says graph.costs (Precedes graph) → Says graph.costs (MustPrecede table))
    → OfText from (IsPriced given graph)
    → Says graph.costs (Precedes graph)
    → OnCosts from given Says
on_costs Says from given graph carry priced told =
    let table = table_of priced.marks in
    let is : IsPriced given graph table = priced.says in
    let P : List ℕ → Type 0 = λ costs. Says costs (MustPrecede table) in
    record {
      marks = priced.marks;
      stands = priced.stands;
      says = record {
        each = sym (ap (λ (xs : List ℕ). length xs) is.costs) ∙ counted given graph table is;
        small = subst (λ (xs : List ℕ). sum xs ≤ MOST_WORK) is.costs is.is_graph.small;
        says = subst P is.costs (carry table is.sound is.is_graph_of told);
      };
    }

-- a program's graph, before any other costs are put
pub own_costs : (table : Table) (graph : RecordedGraph) → IsSoundTable table → IsGraph graph
    → IsGraphOf table graph
    → IsPriced [] graph table
own_costs table graph sound is_graph of = record {
  sound = sound;
  is_graph = is_graph;
  is_graph_of = record { costs = refl; each = of.each; predecessors = of.predecessors };
  costs = of.costs;
}

-- and after
pub other_costs : (from : Source) (given : List ℕ) (before after : RecordedGraph)
    → OfText from (IsPriced [] before)
    → HasCosts given before after
    → OfText from (IsPriced given after)
other_costs from given before after priced has =
    let table = table_of priced.marks in
    let is : IsPriced [] before table = priced.says in
    let P : List (List ℕ) → Type 0 = λ lists.
    IsGraphOf table (record { costs = costs_of table; predecessors = lists }) in
    record {
      marks = priced.marks;
      stands = priced.stands;
      says = record {
        sound = is.sound;
        is_graph = has.is_graph;
        is_graph_of = subst P (sym has.same) is.is_graph_of;
        costs = has.costs ∙ ap (λ costs. costs_under costs given) is.costs;
      };
    }

-- as far as costs are put
pub priced : (from : Source) (given : List ℕ) (graph : RecordedGraph) (made : Result RecordedGraph Refusal)
    → OfText from (IsPriced [] graph)
    → MatchResult made (HasCosts given graph) (RefusesCosts given (length graph.costs))
    → IfOk made (λ after. OfText from (IsPriced given after))
priced from given graph (Ok after) found has = other_costs from given graph after found has
priced from given graph (Err why) found has = tt
