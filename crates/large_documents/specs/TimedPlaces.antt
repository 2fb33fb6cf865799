-- The row of each place of a run with times.
use Rattle.std.specs.Prelude.{ℕ, ◌≡◌, ◌++◌, ◌+◌, List, [], ◌∷◌, Option, Some, codes, slice_index_or}
use Rattle.std.specs.Prelude.{sum_by}
use Rattle.dispatch_core.specs.RecordedGraph.{RecordedGraph}
use Rattle.program_text.specs.Document.{program_part}
use Rattle.span_analysis.specs.Findings.{Findings, IsAnalysis}
use Rattle.spanprof_command.specs.Report.{Report, table_report}
use Rattle.task_segments.specs.Schedule.{at}
use Rattle.time_accounts.specs.BySegment.{delayed_by_segment, starved_by_segment}
use Rattle.time_accounts.specs.TimedRun.{TimedRun, durations}
use Rattle.time_text.specs.declared.line.RegionTimes.{RegionTimes}
use Rattle.large_documents.specs.Places.{no_sums, place_count, places_header, row_of, segments_at, sums_at}
use Rattle.large_documents.specs.Times.{ended}
use Rattle.large_documents.specs.declared.places.PlaceSums.{PlaceSums}

-- of numbers of each segment the sum of those of a place
abbrev pub sum_at : (places numbers : List ℕ) → ℕ → ℕ
sum_at places numbers p = sum_by (at numbers) (segments_at places p)

abbrev pub timed_header : List (List ℕ)
timed_header = places_header ++ codes "busy" ∷ codes "delayed" ∷ codes "starved" ∷ []

-- a place, its numbers without times, how long its segments ran, how long threads were delayed
-- while one of them had been ready longest, and how long they starved while one had run longest
abbrev pub timed_row_of : PlaceSums → (busy delayed starved : ℕ) → ℕ → List (Option ℕ)
timed_row_of sums busy delayed starved p =
    row_of sums p ++ Some busy ∷ Some delayed ∷ Some starved ∷ []

abbrev pub timed_line : List PlaceSums → (busy delayed starved : List ℕ) → ℕ → List (Option ℕ)
timed_line sums busy delayed starved p =
    timed_row_of (slice_index_or sums p no_sums) (at busy p) (at delayed p) (at starved p) p

abbrev pub timed_row : (costs places : List ℕ) → Findings → (busy delayed starved : List ℕ) → ℕ
    → List (Option ℕ)
timed_row costs places found busy delayed starved p =
    timed_row_of (sums_at places costs found.slacks found.chain p) (sum_at places busy p)
    (sum_at places delayed p) (sum_at places starved p) p

-- a row for each place up to the largest
abbrev pub timed_places_of : RecordedGraph → RegionTimes → TimedRun → Findings → (places : List ℕ)
    → Report
timed_places_of graph region run found places =
    table_report timed_header
    (timed_row graph.costs places found (durations run)
    (delayed_by_segment graph region.threads region.first region.last run)
    (starved_by_segment graph region.threads region.first region.last run))
    (place_count places)

-- what an analysis of the graph and a run on it say of these places
pub record TellsTimedSums (places : List ℕ) (graph : RecordedGraph) (region : RegionTimes)
    (run : TimedRun) (output : Report)
    : Type 0 where
  pub found : Findings
  pub is_analysis : IsAnalysis graph found
  pub says : output ≡ timed_places_of graph region run found places

-- how many lines end before the divider behind the places: those of the program, the first divider and
-- those of the places
abbrev pub before_times : (program rest : List ℕ) → ℕ
before_times program rest = ended program + ended (program_part rest) + 1
