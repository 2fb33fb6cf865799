-- What holds of the sums of all places.
use Rattle.std.specs.Prelude.{ℕ, ◌<◌, ◌≤◌, ◌≡◌, Contains, List, length, sum_by}
use Rattle.std.specs.List.{range_with_len}
use Rattle.span_analysis.specs.Findings.{Findings}
use Rattle.task_segments.specs.Schedule.{at}
use Rattle.dispatch_core.specs.RecordedGraph.{RecordedGraph}
use Rattle.time_accounts.specs.BySegment.{delayed_by_segment, starved_by_segment}
use Rattle.time_accounts.specs.Shares.{shares_of}
use Rattle.time_accounts.specs.TimedRun.{TimedRun, durations}
use Rattle.large_documents.specs.TimedPlaces.{sum_at}
use Rattle.large_documents.specs.Places.{place_count, segments_at, sums_at}
use Rattle.large_documents.specs.declared.places.PlaceSums.{PlaceSums}

-- the sum of a number of each place
abbrev pub over_places : (costs : List ℕ) → Findings → (places : List ℕ) → (PlaceSums → ℕ) → ℕ
over_places costs found places told =
    sum_by (λ p. told (sums_at places costs found.slacks found.chain p))
    (range_with_len 0 (place_count places))

-- all places together have all segments and the work, all members of the path and the span
pub record AddUp (costs : List ℕ) (found : Findings) (places : List ℕ) : Type 0 where
  pub segments : over_places costs found places (λ sums. sums.segments) ≡ length places
  pub work : over_places costs found places (λ sums. sums.work) ≡ found.work
  pub on_path : over_places costs found places (λ sums. sums.on_path) ≡ length found.chain
  pub path : over_places costs found places (λ sums. sums.path) ≡ found.span

-- with the times of a run, all places together have all of its busy, delayed and starved time
pub record TimesAddUp (graph : RecordedGraph) (p first last : ℕ) (run : TimedRun)
    (places : List ℕ)
    : Type 0 where
  pub busy : sum_by (sum_at places (durations run)) (range_with_len 0 (place_count places))
      ≡ (shares_of graph p first last run).busy
  pub delayed : sum_by (sum_at places (delayed_by_segment graph p first last run))
      (range_with_len 0 (place_count places))
      ≡ (shares_of graph p first last run).delayed
  pub starved : sum_by (sum_at places (starved_by_segment graph p first last run))
      (range_with_len 0 (place_count places))
      ≡ (shares_of graph p first last run).starved

-- a segment counts at its place, which has a row
pub record HasPlace (places : List ℕ) (s : ℕ) : Type 0 where
  pub counts : Contains (segments_at places (at places s)) s
  pub told : at places s < place_count places

pub record IsLeast (numbers : List ℕ) (least : ℕ) : Type 0 where
  pub stands : Contains numbers least
  pub below : (x : ℕ) → Contains numbers x → least ≤ x
