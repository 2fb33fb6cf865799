-- The report of an input that was not read whole.
use Rattle.std.proofs.Common.{◌≡◌, ◌≢◌, ◌⊎◌, ◌+◌, ℕ, List, Option, Result, Err, inl, inr, length, refl}
use Rattle.std.specs.Io.KnownBytes.{Consumes}
use Rattle.counted_io.specs.Counted.{failures_of, faults_of, inner_of}
use Rattle.counted_io.specs.Retries.{GivesUp}
use Rattle.counted_io.specs.declared.counted.Counted.{Counted}
use Rattle.counted_io.specs.declared.input.InputFault.{InputFault}
use Rattle.counted_io.specs.declared.input.InputFault.TheVariants.{TooLong, ReadFailed, OutOfMemory}
use Rattle.counted_io.specs.declared.input.TheConstants.{LARGEST_INPUT}
use Rattle.spanprof_exclusion.specs.Ends.{ReportsInput, ReportsReadFault, most_retries}
use Rattle.spanprof_exclusion.specs.Report.{fault_report}

pub fault_reported : {T R : Type 0} (remaining : R → Option (List ℕ))
    (reader reader_after : Counted R) (left : ℕ) (read : Result T InputFault) (fault : InputFault)
    → read ≡ Err fault
    → (read ≢ Err ReadFailed → faults_of reader_after + left ≡ faults_of reader + most_retries)
    → (read ≢ Err ReadFailed → failures_of reader_after ≡ failures_of reader)
    → (read ≡ Err ReadFailed → faults_of reader_after + left ≡ faults_of reader + most_retries + 1)
    → (read ≡ Err ReadFailed → GivesUp (failures_of reader) (failures_of reader_after) left)
    → (read ≡ Err TooLong →
    (bytes : List ℕ)
    × Consumes (remaining (inner_of reader)) (remaining (inner_of reader_after)) bytes
    × (length bytes ≡ LARGEST_INPUT + 1))
    → ReportsInput remaining reader reader_after most_retries left (fault_report fault)
    ⊎ ReportsReadFault reader reader_after most_retries left (fault_report fault)
fault_reported remaining reader reader_after left read TooLong is paid tried failed gave_up too_long =
    let long = too_long is in inl (record {
      says = inr (inl (record { bytes = long.0; read = long.1; longer = long.2; says = refl }));
      paid = paid (λ e. cc);
      tried_again = tried (λ e. cc);
    })
fault_reported remaining reader reader_after left read ReadFailed is paid tried failed gave_up
    too_long =
    inr (record { says = refl; paid = failed is; gave_up = gave_up is })
fault_reported remaining reader reader_after left read OutOfMemory is paid tried failed gave_up
    too_long =
    inl (record {
      says = inr (inr refl);
      paid = paid (λ e. cc);
      tried_again = tried (λ e. cc);
    })
