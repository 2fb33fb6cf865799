-- Carried out: the times of a run are read, or refused.
use Rattle.std.specs.Prelude.{ℕ, ◌≡◌, ◌≢◌, ◌⊎◌, ⊤, List, length}
use Rattle.dispatch_core.specs.RecordedGraph.{Precedes, RecordedGraph}
use Rattle.program_text.specs.Document.{lines_of}
use Rattle.spanprof_command.specs.Report.{Report}
use Rattle.time_accounts.specs.Faults.{IsRanged}
use Rattle.time_accounts.specs.TimedRun.{IsTimedRun, TimedRun}
use Rattle.time_text.specs.TimesTexts.{IsTextFault, TellsTimes}
use Rattle.time_text.specs.declared.fault.TimeTextFault.{TimeTextFault}
use Rattle.time_text.specs.declared.fault.TimeTextFault.TheVariants as text
use Rattle.time_text.specs.declared.line.RegionTimes.{RegionTimes}
use Rattle.time_text.specs.declared.line.SegmentTimes.{SegmentTimes}
use Rattle.large_documents.specs.AccountReports.{RefusesRun, text_refusal}
use Rattle.large_documents.specs.Times.{run_of}
use Rattle.large_documents.specs.declared.accounts.RunRead.{RunRead}
use Rattle.large_documents.specs.declared.accounts.RunRead.TheVariants.{Legal, Refused}

-- the lines have the times of a legal run
pub record ReadsRun (graph : RecordedGraph) (rest : List ℕ) (region : RegionTimes) (run : TimedRun)
    : Type 0 where
  pub segments : List SegmentTimes
  pub tells : TellsTimes (length graph.costs) (lines_of rest) region segments
  pub are : run ≡ run_of segments
  pub legal : IsTimedRun (length graph.costs) (Precedes graph) region.threads region.first region.last
      run
  pub within : IsRanged (length graph.costs) region.threads region.first region.last run

-- they have times, and not of a legal run
pub record ReadsNoRun (graph : RecordedGraph) (rest : List ℕ) (output : Report) : Type 0 where
  pub region : RegionTimes
  pub segments : List SegmentTimes
  pub tells : TellsTimes (length graph.costs) (lines_of rest) region segments
  pub refuses : RefusesRun graph region segments output

-- they have none
pub record ReadsNoTimes (graph : RecordedGraph) (before : ℕ) (rest : List ℕ) (output : Report) : Type
    0 where
  pub fault : TimeTextFault
  pub of_text : fault ≢ text.OutOfMemory
  pub is_fault : IsTextFault (length graph.costs) (lines_of rest) fault
  pub says : output ≡ text_refusal before fault

-- whether times are those of a legal run
abbrev pub IsJudged : RecordedGraph → RegionTimes → List SegmentTimes → RunRead → Type 0
IsJudged graph region segments (Legal given run) =
    (given ≡ region) × (run ≡ run_of segments)
    × IsTimedRun (length graph.costs) (Precedes graph) region.threads region.first region.last run
    × IsRanged (length graph.costs) region.threads region.first region.last run
IsJudged graph region segments (Refused output) = RefusesRun graph region segments output

abbrev pub IsRunRead : RecordedGraph → (before : ℕ) → (rest : List ℕ) → RunRead → Type 0
IsRunRead graph before rest (Legal region run) = ReadsRun graph rest region run
IsRunRead graph before rest (Refused output) =
    ReadsNoRun graph rest output ⊎ ReadsNoTimes graph before rest output

-- the report on a run that was read, or on why none was
abbrev pub TellsOfRead : (RecordedGraph → RegionTimes → TimedRun → Report → Type 0) → RecordedGraph
    → RunRead → Report → Type 0
TellsOfRead telling graph (Legal region run) output = telling graph region run output
TellsOfRead telling graph (Refused why) output = output ≡ why

-- a run that was read is legal and within the limits
abbrev pub MayTell : RecordedGraph → RunRead → Type 0
MayTell graph (Legal region run) =
    IsTimedRun (length graph.costs) (Precedes graph) region.threads region.first region.last run
    × IsRanged (length graph.costs) region.threads region.first region.last run
MayTell graph (Refused why) = ⊤

-- the lines have the times of a legal run, and this is the report on it
pub record TellsRead (telling : RecordedGraph → RegionTimes → TimedRun → Report → Type 0)
    (graph : RecordedGraph) (rest : List ℕ) (output : Report)
    : Type 0 where
  pub region : RegionTimes
  pub segments : List SegmentTimes
  pub told : TellsTimes (length graph.costs) (lines_of rest) region segments
  pub legal : IsTimedRun (length graph.costs) (Precedes graph) region.threads region.first region.last
      (run_of segments)
  pub within : IsRanged (length graph.costs) region.threads region.first region.last
      (run_of segments)
  pub says : telling graph region (run_of segments) output

-- the report on a graph, and on the lines of a run on it
abbrev pub SaysOfRead : (RecordedGraph → RegionTimes → TimedRun → Report → Type 0) → RecordedGraph
    → (before : ℕ) → (rest : List ℕ) → Report → Type 0
SaysOfRead telling graph before rest output =
    TellsRead telling graph rest output
    ⊎ (ReadsNoRun graph rest output ⊎ ReadsNoTimes graph before rest output)
