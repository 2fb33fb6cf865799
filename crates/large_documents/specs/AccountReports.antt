-- The report on the times of a run that stand behind its program.
use Rattle.std.specs.Prelude.{ℕ, ◌≡◌, ◌≢◌, ◌⊎◌, ◌++◌, ◌∷◌, List, length, codes}
use Rattle.std.specs.Fmt.{decimal}
use Rattle.command_words.specs.declared.large.AccountRequest.{AccountRequest}
use Rattle.dispatch_core.specs.Graph.{IsGraphOf}
use Rattle.dispatch_core.specs.RecordedGraph.{IsGraph, Precedes, RecordedGraph}
use Rattle.program_text.specs.Document.{lines_of}
use Rattle.task_segments.specs.Table.{Table}
use Rattle.time_accounts.specs.Faults.{IsRanged, IsTimesFault}
use Rattle.time_accounts.specs.TimedRun.{IsTimedRun, TimedRun}
use Rattle.time_accounts.specs.declared.fault.TimesFault.{TimesFault}
use Rattle.time_accounts.specs.declared.fault.TimesFault.TheVariants as times
use Rattle.time_text.specs.TimesTexts.{IsTextFault, TellsTimes}
use Rattle.time_text.specs.declared.fault.TimeTextFault.{TimeTextFault}
use Rattle.time_text.specs.declared.fault.TimeTextFault.TheVariants as text
use Rattle.time_text.specs.declared.line.RegionTimes.{RegionTimes}
use Rattle.time_text.specs.declared.line.SegmentTimes.{SegmentTimes}
use Rattle.spanprof_command.specs.Certificates.{refused_as, refused_pair}
use Rattle.spanprof_command.specs.Report.{Report, out_of_memory}
use Rattle.large_documents.specs.Accounts.{TellsRun}
use Rattle.large_documents.specs.Times.{ended, line_behind, run_of}

-- ---- error lines

abbrev pub of_segment : List ℕ → ℕ → Report
of_segment word s = refused_as (word ++ 32 ∷ decimal s)

-- a line of the document, and what is wrong with it
abbrev pub numbered : ℕ → List ℕ → Report
numbered number word = refused_as (codes "line " ++ (decimal number ++ (codes ": " ++ word)))

-- what is wrong with a line behind a divider, before which so many lines have ended
abbrev pub at_line : ℕ → ℕ → List ℕ → Report
at_line before i word = numbered (line_behind before i) word

-- why times are not read there
abbrev pub text_refusal : ℕ → TimeTextFault → Report
text_refusal before (text.BadForm i) = at_line before i (codes "BadForm")
text_refusal before (text.UnknownSegment i) = at_line before i (codes "UnknownSegment")
text_refusal before (text.TimedTwice i) = at_line before i (codes "TimedTwice")
text_refusal before (text.NotTimed s) = of_segment (codes "NotTimed") s
text_refusal before text.OutOfMemory = out_of_memory

-- why times are not those of a legal run
abbrev pub times_refusal : TimesFault → Report
times_refusal times.ThreadCount = refused_as (codes "ThreadCount")
times_refusal times.Moments = refused_as (codes "Moments")
times_refusal times.Count = refused_as (codes "Count")
times_refusal (times.NoThread s) = of_segment (codes "NoThread") s
times_refusal (times.EndsEarly s) = of_segment (codes "EndsEarly") s
times_refusal (times.OutOfTime s) = of_segment (codes "OutOfTime") s
times_refusal (times.TooSoon s r) = refused_pair (codes "TooSoon") s r
times_refusal (times.NotApart s) = of_segment (codes "NotApart") s
times_refusal times.OutOfMemory = out_of_memory

-- ---- the times of a run on a program

-- the times are those of a legal run, and this is the report on it
pub record AcceptsRun (telling : RecordedGraph → RegionTimes → TimedRun → Report → Type 0)
    (graph : RecordedGraph) (region : RegionTimes) (segments : List SegmentTimes) (output : Report)
    : Type 0 where
  pub legal : IsTimedRun (length graph.costs) (Precedes graph) region.threads region.first region.last
      (run_of segments)
  -- the number of threads and the moments are within the limits
  pub within : IsRanged (length graph.costs) region.threads region.first region.last
      (run_of segments)
  pub says : telling graph region (run_of segments) output

-- they are not, and this fault is reported
pub record RefusesRun (graph : RecordedGraph) (region : RegionTimes) (segments : List SegmentTimes)
    (output : Report)
    : Type 0 where
  pub fault : TimesFault
  pub of_run : fault ≢ times.OutOfMemory
  pub is_fault : IsTimesFault (length graph.costs) (Precedes graph) region.threads region.first
      region.last (run_of segments) fault
  pub says : output ≡ times_refusal fault

-- the text has times of the program's segments
pub record TakesTimes (telling : RecordedGraph → RegionTimes → TimedRun → Report → Type 0)
    (rest : List ℕ) (table : Table) (output : Report)
    : Type 0 where
  pub region : RegionTimes
  pub segments : List SegmentTimes
  pub tells : TellsTimes (length table.segments) (lines_of rest) region segments
  pub graph : RecordedGraph
  pub is_graph : IsGraph graph
  pub is_graph_of : IsGraphOf table graph
  pub answers : AcceptsRun telling graph region segments output
      ⊎ RefusesRun graph region segments output

-- it does not, and this fault is reported
pub record RefusesTimes (before : ℕ) (rest : List ℕ) (table : Table) (output : Report) : Type
    0 where
  pub fault : TimeTextFault
  pub of_text : fault ≢ text.OutOfMemory
  pub is_fault : IsTextFault (length table.segments) (lines_of rest) fault
  pub says : output ≡ text_refusal before fault

-- the report on a program with this table, and on the lines of a run behind a divider, before which
-- so many lines have ended
abbrev pub SaysOfTimes : (RecordedGraph → RegionTimes → TimedRun → Report → Type 0) → (before : ℕ)
    → (rest : List ℕ) → Table → Report → Type 0
SaysOfTimes telling before rest table output =
    TakesTimes telling rest table output ⊎ RefusesTimes before rest table output

-- and what is asked of an account
abbrev pub SaysOfAccount : AccountRequest → (program rest : List ℕ) → Table → Report → Type 0
SaysOfAccount asked program rest table output =
    SaysOfTimes (TellsRun asked) (ended program) rest table output
