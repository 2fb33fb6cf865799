-- How the program ends, over a reader and a writer.
use Rattle.std.specs.Prelude.{ℕ, ◌≡◌, ◌⊎◌, ◌≤◌, ◌+◌, List, Option, length, take, false, true}
use Rattle.std.specs.Io.KnownBytes.{Appends, Consumes, IsAtEnd}
use Rattle.std.specs.Process.{exit_status}
use Rattle.std.specs.declared.process.ExitCode.{ExitCode}
use Rattle.counted_io.specs.Counted.{failures_of, faults_of, inner_of, is_flushed}
use Rattle.counted_io.specs.Retries.{GivesUp}
use Rattle.counted_io.specs.declared.counted.Counted.{Counted}
use Rattle.counted_io.specs.declared.input.InputFault.TheVariants.{TooLong, ReadFailed, OutOfMemory}
use Rattle.counted_io.specs.declared.input.TheConstants.{LARGEST_INPUT}
use Rattle.spanprof_exclusion.specs.Report.{Answers, Report, fault_report}

-- so many interrupted reads and writes, together, are tried again
abbrev pub most_retries : ℕ
most_retries = 1000

-- ---- what was read

-- the whole input was read, and this answers it
pub record ReportsLog (left left_after : Option (List ℕ)) (report : Report) : Type 0 where
  pub log : List ℕ
  pub read : Consumes left left_after log
  pub whole : IsAtEnd left_after
  pub fits : length log ≤ LARGEST_INPUT
  pub answers : Answers log report

-- one byte more than a log may have was read
pub record ReportsTooLong (left left_after : Option (List ℕ)) (report : Report) : Type 0 where
  pub bytes : List ℕ
  pub read : Consumes left left_after bytes
  pub longer : length bytes ≡ LARGEST_INPUT + 1
  pub says : report ≡ fault_report TooLong

-- only interruptions were tried again, and each used up one of the retries
pub record ReportsInput {R : Type 0} (remaining : R → Option (List ℕ))
    (reader reader_after : Counted R) (retries retries_after : ℕ) (report : Report)
    : Type 0 where
  pub says :
      ReportsLog (remaining (inner_of reader)) (remaining (inner_of reader_after)) report
      ⊎ (ReportsTooLong (remaining (inner_of reader)) (remaining (inner_of reader_after)) report
      ⊎ (report ≡ fault_report OutOfMemory))
  pub paid : faults_of reader_after + retries_after ≡ faults_of reader + retries
  pub tried_again : failures_of reader_after ≡ failures_of reader

-- each fault but the last used up one of the retries
pub record ReportsReadFault {R : Type 0} (reader reader_after : Counted R)
    (retries retries_after : ℕ) (report : Report)
    : Type 0 where
  pub says : report ≡ fault_report ReadFailed
  pub paid : faults_of reader_after + retries_after ≡ faults_of reader + retries + 1
  pub gave_up : GivesUp (failures_of reader) (failures_of reader_after) retries_after

-- ---- what was written

-- the whole text was written and flushed, and the exit status is its own
pub record SendsWhole {W : Type 0} (contents : W → Option (List ℕ))
    (writer writer_after : Counted W) (retries retries_after : ℕ) (report : Report)
    (code : ExitCode)
    : Type 0 where
  pub wrote : Appends (contents (inner_of writer)) (contents (inner_of writer_after)) report.text
  pub flushed : is_flushed writer_after ≡ true
  pub exits : exit_status code ≡ report.status
  pub paid : faults_of writer_after + retries_after ≡ faults_of writer + retries
  pub tried_again : failures_of writer_after ≡ failures_of writer

-- the writer failed after some prefix of the text
pub record SendsPrefix {W : Type 0} (contents : W → Option (List ℕ))
    (writer writer_after : Counted W) (retries retries_after : ℕ) (report : Report)
    (code : ExitCode)
    : Type 0 where
  pub size : ℕ
  pub wrote :
      Appends (contents (inner_of writer)) (contents (inner_of writer_after))
      (take size report.text)
  pub unflushed : is_flushed writer_after ≡ false
  pub exits : exit_status code ≡ 3
  pub paid : faults_of writer_after + retries_after ≡ faults_of writer + retries + 1
  pub gave_up : GivesUp (failures_of writer) (failures_of writer_after) retries_after

abbrev pub Sends : {W : Type 0}
    → (contents : W → Option (List ℕ))
    → (writer writer_after : Counted W)
    → (retries retries_after : ℕ)
    → Report
    → ExitCode
    → Type 0
Sends contents writer writer_after retries retries_after report code =
    SendsWhole contents writer writer_after retries retries_after report code
    ⊎ SendsPrefix contents writer writer_after retries retries_after report code

-- an answer to a log was sent
pub record SendsAnswer {W : Type 0} (contents : W → Option (List ℕ))
    (writer writer_after : Counted W) (retries retries_after : ℕ) (log : List ℕ)
    (code : ExitCode)
    : Type 0 where
  pub report : Report
  pub answers : Answers log report
  pub sent : Sends contents writer writer_after retries retries_after report code

-- The report of what was read, or of a reader that failed, was sent, with the retries that reading
-- left.
pub record Ends {R W : Type 0} (remaining : R → Option (List ℕ)) (reader reader_after : Counted R)
    (contents : W → Option (List ℕ)) (writer writer_after : Counted W) (code : ExitCode)
    : Type 0 where
  pub report : Report
  pub retries : ℕ
  pub retries_after : ℕ
  pub few : retries ≤ most_retries
  pub fewer : retries_after ≤ retries
  pub reports :
      ReportsInput remaining reader reader_after most_retries retries report
      ⊎ ReportsReadFault reader reader_after most_retries retries report
  pub sent : Sends contents writer writer_after retries retries_after report code
