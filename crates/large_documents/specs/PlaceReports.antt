-- The report on the places of a program's segments that stand behind it.
use Rattle.std.specs.Prelude.{ℕ, ◌≡◌, ◌⊎◌, List, length, codes, Option, None, Some}
use Rattle.dispatch_core.specs.RecordedGraph.{RecordedGraph}
use Rattle.program_text.specs.Document.{program_part, rest_part}
use Rattle.span_analysis.specs.Findings.{Findings, IsAnalysis}
use Rattle.task_segments.specs.Table.{Table}
use Rattle.spanprof_command.specs.Certificates.{refused_as}
use Rattle.spanprof_command.specs.Report.{Report, table_report}
use Rattle.spanprof_command.specs.Slacks.{AreAnalysed}
use Rattle.large_documents.specs.AccountReports.{SaysOfTimes}
use Rattle.large_documents.specs.TimedPlaces.{TellsTimedSums, before_times}
use Rattle.large_documents.specs.Places.{ArePlaces, IsPlacesFault, place_count, places_header, row_of}
use Rattle.large_documents.specs.Places.{sums_at}
use Rattle.large_documents.specs.declared.places.PlacesFault.{PlacesFault}
use Rattle.large_documents.specs.declared.places.PlacesFault.TheVariants.{BadForm, Count}
use Rattle.large_documents.specs.declared.places.PlacesFault.TheVariants.{OutOfMemory}

-- a row for each place up to the largest, by what the analysis of a graph with these costs found
abbrev pub places_of : List ℕ → Findings → List ℕ → Report
places_of costs found places =
    table_report places_header (λ p. row_of (sums_at places costs found.slacks found.chain p) p)
    (place_count places)

-- what an analysis of the graph says of these places
pub record TellsSums (graph : RecordedGraph) (places : List ℕ) (output : Report) : Type 0 where
  pub found : Findings
  pub is_analysis : IsAnalysis graph found
  pub says : output ≡ places_of graph.costs found places

-- the report on the places of a table's segments
pub record TellsPlaces (table : Table) (places : List ℕ) (output : Report) : Type 0 where
  pub graph : RecordedGraph
  pub found : Findings
  pub are_analysed : AreAnalysed table graph found
  pub says : output ≡ places_of graph.costs found places

-- the same, and with the times of a run where these follow
abbrev pub TellsOfPlaces : (before : ℕ) → Table → (places : List ℕ) → Option (List ℕ) → Report
    → Type 0
TellsOfPlaces before table places None output = TellsPlaces table places output
TellsOfPlaces before table places (Some times) output =
    SaysOfTimes (TellsTimedSums places) before times table output

-- the text gives a place to each segment
pub record TakesPlaces (program rest : List ℕ) (table : Table) (output : Report) : Type 0 where
  pub places : List ℕ
  pub are_places : ArePlaces (length table.segments) (program_part rest) places
  pub says : TellsOfPlaces (before_times program rest) table places (rest_part rest) output

-- out of memory has no line
abbrev pub TellsFault : PlacesFault → Report → Type 0
TellsFault BadForm output = output ≡ refused_as (codes "BadForm")
TellsFault Count output = output ≡ refused_as (codes "Count")
TellsFault OutOfMemory output = ⊥

-- it does not, and this fault is reported
pub record RefusesPlaces (rest : List ℕ) (table : Table) (output : Report) : Type 0 where
  pub fault : PlacesFault
  pub is_fault : IsPlacesFault (length table.segments) (program_part rest) fault
  pub says : TellsFault fault output

-- the report on a program with this text and this table, and on what stands behind it: places, up to a
-- second divider, and behind that the times of a run
abbrev pub SaysOfPlaces : (program rest : List ℕ) → Table → Report → Type 0
SaysOfPlaces program rest table output =
    TakesPlaces program rest table output ⊎ RefusesPlaces rest table output
