use Rattle.std.proofs.Common.{ℕ, ◌+◌, ◌≡◌, ◌<◌, arith, length, subst}
use Rattle.std.proofs.lemmas.List.{get_or_read}
use Rattle.dispatch_core.specs.RecordedGraph.{Precedes}
use Rattle.task_segments.specs.Schedule.{IsLeastEnd, IsSpan, end_of}
use Rattle.task_segments.proofs.StartsAndTails.{IsLeastEnd-earliest, IsSpan-earliest}
use Rattle.span_analysis.proofs.PassSteps.{IsAscending-graph}
use Rattle.span_analysis.proofs.span.span_of.Goals as goal

pub returns : goal.returns
returns c =
    let graph = c.args.graph.now in
    let starts = c.in_ok-starts.starts.items in
    let is = c.is_graph.ensures in
    let earliest = c.in_ok-starts.ensures.earliest in
    let last = rw c.deref.ensures.value at c.last_to_end-last.ensures in
    let each = earliest.legal.each in
    let inside = last.holds.is_segment in
    let within : c.last_to_end-last.result < length starts = omega arith in
    let start =
    get_or_read starts c.last_to_end-last.result c.index.result.now within c.index.ensures 0 in
    let ends = last.holds.ends in
    let cost = c.cost.ensures in
    let span : end_of graph.costs starts ≡ c.index.result.now + c.cost.result = omega arith in
    let P : ℕ → Type 0 = λ end. IsSpan graph.costs (Precedes graph) end in
    let Q : ℕ → Type 0 = λ end. IsLeastEnd graph.costs (Precedes graph) end in
    let up = IsAscending-graph graph is in
    record {
      greatest_sum =
          subst P span
          (IsSpan-earliest graph.costs (Precedes graph) starts up earliest is.some);
      least_end =
          subst Q span (IsLeastEnd-earliest graph.costs (Precedes graph) starts up earliest);
    }
