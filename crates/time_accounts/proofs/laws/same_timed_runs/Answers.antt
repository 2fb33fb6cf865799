use Rattle.std.proofs.Common.{ℕ}
use Rattle.task_segments.specs.Precedence.{MustPrecede}
use Rattle.task_segments.proofs.Reaches.{Reaches, reaches_by_one, reached_is_joined, reaches}
use Rattle.task_segments.proofs.Reaches.{reach_map}
use Rattle.dispatch_core.specs.Graph.{IsGraphOf}
use Rattle.dispatch_core.specs.RecordedGraph.{Precedes, RecordedGraph}
use Rattle.time_accounts.specs.TimedRun.{durations}
use Rattle.time_accounts.proofs.AllShares.{starved-le}
use Rattle.time_accounts.proofs.OfProgram.{there, back, ready_there, ready_back, bounds_there}
use Rattle.time_accounts.proofs.laws.same_timed_runs.Goals as goal

pub returns : goal.returns
returns g c =
    let R : ℕ → ℕ → Type 0 = MustPrecede c.args.table.now in
    let within : (graph : RecordedGraph) → IsGraphOf c.args.table.now graph → (s t : ℕ)
    → Precedes graph s t → R s t = λ graph of s t pair.
    c.same_chains.ensures.within s t ((c.same_schedules.ensures.edges graph s t of).0 pair) in
    let ways : (graph : RecordedGraph) → IsGraphOf c.args.table.now graph → (s t : ℕ)
    → R s t → Reaches (Precedes graph) s t = λ graph of s t pair.
    reach_map (λ a b kept. reaches_by_one ((c.same_schedules.ensures.edges graph a b of).1 kept))
    (reaches ((c.same_chains.ensures.joined s t).0 (reached_is_joined (reaches_by_one pair)))) in
    record {
      legal = λ graph n p first last run of. (
        λ timed. there R (Precedes graph) c.goes_up.ensures (within graph of) (ways graph of)
            timed,
        λ timed. back R (Precedes graph) c.goes_up.ensures (within graph of)
            (ways graph of) timed,
      );
      ready = λ graph n p first last s m run of timed inside. (
        λ ready. ready_there R (Precedes graph) c.goes_up.ensures (within graph of)
            (ways graph of) run s m ready,
        λ ready. ready_back R (Precedes graph) c.goes_up.ensures
            (within graph of) (ways graph of) s m timed inside ready,
      );
      starved = λ graph p first last span run of is timed is_span.
          starved-le graph (record { up = is.smaller }) is.each timed
          (bounds_there R (Precedes graph) c.goes_up.ensures (within graph of) (ways graph of)
          (durations run) span is_span.greatest);
    }
