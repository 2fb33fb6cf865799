-- The end of a command: what is written for what was made, and how faults use up retries.
use Rattle.std.specs.Prelude.{◌≡◌, ◌≢◌, ◌≤◌, ℕ, Result, Ok, Err}
use Rattle.spanprof_command.specs.Command.{Counts, IsGivenUp, TriesAgain}
use Rattle.spanprof_command.specs.Report.{Report, out_of_memory, read_fault}
use Rattle.spanprof_command.specs.declared.sending.NoReport.{NoReport}
use Rattle.spanprof_command.specs.declared.sending.NoReport.TheVariants.{OutOfMemory, ReadFault}

-- the report, or the line of why there is none
abbrev pub told : Result Report NoReport → Report
told (Ok report) = report
told (Err OutOfMemory) = out_of_memory
told (Err ReadFault) = read_fault

-- After each fault the device was tried again; where the answer is that it failed, it was given up.
pub record SpendsRetries {T E : Type 0} (failure : E) (answer : Result T E) (device : Counts)
    (retries retries_after : ℕ)
    : Type 0 where
  pub retried : retries_after ≤ retries
  pub tries_again : answer ≢ Err failure → TriesAgain device retries retries_after
  pub failed : answer ≡ Err failure → IsGivenUp device retries retries_after
