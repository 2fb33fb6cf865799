-- A command ends as what it made says.
use Rattle.std.proofs.Common.{◌≡◌, ◌≤◌, ◌∙◌, ℕ, List, Option, Result, Ok, Err, ap}
use Rattle.std.proofs.Common.{inl, inr, refl, subst, sym}
use Rattle.std.specs.Prelude.{IfOk}
use Rattle.std.specs.Io.KnownBytes.{Appends}
use Rattle.csv_table.specs.Tables.{numbered_table}
use Rattle.spanprof_command.specs.Command.{Counts, EndsWith, Sends, SendsWithin}
use Rattle.spanprof_command.specs.Finished.{SpendsRetries, told}
use Rattle.spanprof_command.specs.Report.{Report, table_report}
use Rattle.spanprof_command.specs.declared.engine.TheConstants.{MOST_RETRIES}
use Rattle.spanprof_command.specs.declared.sending.NoReport.{NoReport}
use Rattle.spanprof_command.specs.declared.sending.NoReport.TheVariants.{OutOfMemory, ReadFault}
use Rattle.spanprof_command.specs.declared.report.Status.{Status}
use Rattle.spanprof_command.specs.declared.report.Status.TheVariants.{Done, Fault}

-- a report is its text and its status
pub same_report : (report : Report) (text : List ℕ) (status : Status)
    → text ≡ report.text
    → status ≡ report.status
    → report ≡ record { text = text; status = status }
same_report report text status e f =
    let of_text : List ℕ → Report = λ t. record { text = t; status = status } in
    let of_status : Status → Report = λ s. record { text = report.text; status = s } in
    sym (ap of_text e ∙ ap of_status f)

-- a report with a table
pub table_told : (header : List (List ℕ)) (row : ℕ → List (Option ℕ)) (count : ℕ)
    (text : List ℕ) (report : Report)
    → text ≡ numbered_table header row 0 count
    → report ≡ record { text = text; status = Done }
    → report ≡ table_report header row count
table_told header row count text report made is =
    let of_text : List ℕ → Report = λ t. record { text = t; status = Done } in
    is ∙ ap of_text made

-- the line of why there is no report
fault_told : (fault : NoReport)
    → told (Err fault) ≡ record { text = (told (Err fault)).text; status = Fault }
fault_told OutOfMemory = refl
fault_told ReadFault = refl

pub line_told : (made : Result Report NoReport) (fault : NoReport) (text : List ℕ)
    → made ≡ Err fault
    → text ≡ (told (Err fault)).text
    → told made ≡ record { text = text; status = Fault }
line_told made fault text is says =
    let of_text : List ℕ → Report = λ t. record { text = t; status = Fault } in
    ap told is ∙ fault_told fault ∙ ap of_text (sym says)

pub sends_told : (made : Result Report NoReport) (output : Report) (retries left : ℕ)
    (held held_after : Option (List ℕ)) (writer : Counts) (status : Status)
    → told made ≡ output
    → left ≤ retries
    → Sends output held held_after writer retries left status
    → SendsWithin retries (told made) held held_after writer status
sends_told made output retries left held held_after writer status is few sent = record {
  retries_after = left;
  fewer = few;
  sent = subst (λ (report : Report). Sends report held held_after writer retries left status)
      (sym is) sent;
}

pub appends_told : (made : Result Report NoReport) (output : Report)
    (held held_after : Option (List ℕ))
    → told made ≡ output
    → Appends held held_after output.text
    → Appends held held_after (told made).text
appends_told made output held held_after is appends =
    subst (λ (report : Report). Appends held held_after report.text) (sym is) appends

pub ends_as_made : (IsReport : Report → Type 0) (made : Result Report NoReport) (reader : Counts)
    (left : ℕ) (held held_after : Option (List ℕ)) (writer : Counts) (status : Status)
    → IfOk made IsReport
    → SpendsRetries ReadFault made reader MOST_RETRIES left
    → SendsWithin left (told made) held held_after writer status
    → EndsWith IsReport reader held held_after writer status
ends_as_made IsReport (Ok report) reader left held held_after writer status is spent sent = record {
  output = report;
  retries = left;
  few = spent.retried;
  intended = inl (record { faults = spent.tries_again (λ e. cc); says = inl is });
  sent = sent;
}
ends_as_made IsReport (Err OutOfMemory) reader left held held_after writer status is spent sent =
    record {
      output = told (Err OutOfMemory);
      retries = left;
      few = spent.retried;
      intended = inl (record { faults = spent.tries_again (λ e. cc); says = inr refl });
      sent = sent;
    }
ends_as_made IsReport (Err ReadFault) reader left held held_after writer status is spent sent =
    record {
      output = told (Err ReadFault);
      retries = left;
      few = spent.retried;
      intended = inr (record { faults = spent.failed refl; says = refl });
      sent = sent;
    }
