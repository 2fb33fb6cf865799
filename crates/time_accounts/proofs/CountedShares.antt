-- The delayed and the starved share are what counts of them at all segments.
use Rattle.std.proofs.Common.{◌≡◌, ℕ, ◌<◌, ◌≤◌, ◌⊎◌, inl, inr, length, ap, sym, ◌∙◌, arith, map, sum}
use Rattle.std.specs.List.{range_with_len}
use Rattle.std.proofs.lemmas.List.{length-map}
use Rattle.task_segments.specs.Schedule.{at}
use Rattle.task_segments.specs.StartsAndTails.{IsAscending}
use Rattle.dispatch_core.specs.RecordedGraph.{RecordedGraph, Precedes}
use Rattle.time_accounts.specs.BySegment.{counted_at, delayed_by_segment, starved_by_segment}
use Rattle.time_accounts.specs.Shares.{last_end, moments, ready_moments, running, shares_at, shares_of}
use Rattle.time_accounts.specs.TimedRun.{TimedRun, IsTimedRun}
use Rattle.time_accounts.proofs.AllShares.{Outside, Starved, Delayed, kind_of, delayed_part}
use Rattle.time_accounts.proofs.AllShares.{run_or_ready, starved_part}
use Rattle.time_accounts.proofs.CountedOnce.{all_counted}
use Rattle.time_accounts.proofs.Within.{within_found}

pub delayed_sum : (graph : RecordedGraph) (n p first last : ℕ) (run : TimedRun)
    → length graph.predecessors ≡ n
    → IsTimedRun n (Precedes graph) p first last run
    → (shares_of graph p first last run).delayed ≡ sum (delayed_by_segment graph p first last run)
delayed_sum graph n p first last run each timed =
    let froms = ready_moments graph run in
    let told : ℕ → ℕ = λ m. (shares_at graph p run m).delayed in
    let long : length run.begins ≡ length froms =
    timed.each_begin ∙ sym (length-map graph.predecessors (last_end run.ends) ∙ each) in
    sym (ap (λ (k : ℕ). sum (map (counted_at told froms run.begins (moments first last))
    (range_with_len 0 k))) long
    ∙ all_counted froms run.begins told (moments first last) (λ m.
    elim (kind_of graph p run m) [
      | Outside out e ↦ inl (delayed_part e)
      | Starved out none e ↦ inl (delayed_part e)
      | Delayed out some e ↦
          let found = within_found froms run.begins m some in
          inr (found.0, found.1.inside, found.1.from_then, found.1.before)
    ]))

pub starved_sum : (graph : RecordedGraph) (n p first last : ℕ) (run : TimedRun)
    → IsAscending (Precedes graph)
    → length graph.predecessors ≡ n
    → IsTimedRun n (Precedes graph) p first last run
    → (shares_of graph p first last run).starved ≡ sum (starved_by_segment graph p first last run)
starved_sum graph n p first last run asc each timed =
    sym (all_counted run.begins run.ends (λ m. (shares_at graph p run m).starved)
    (moments first last) (λ m.
    elim (kind_of graph p run m) [
      | Outside out e ↦ inl (starved_part e)
      | Delayed out some e ↦ inl (starved_part e)
      | Starved out none e ↦
          let runs : 1 ≤ running run m =
          omega (arith, none, run_or_ready graph m asc each timed out) in
          let found = within_found run.begins run.ends m runs in
          inr (found.0, found.1.inside, found.1.from_then, found.1.before)
    ]))
