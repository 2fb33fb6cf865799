-- The report on a changed program that stands behind the old one.
use Rattle.std.specs.Prelude.{ℕ, ◌≡◌, ◌⊎◌, ◌+◌, List, codes}
use Rattle.large_text.specs.LargeTexts.{IsLargeFault}
use Rattle.large_text.specs.Measured.{IsTableOfText}
use Rattle.program_text.specs.declared.fault.ReadFault.{ReadFault}
use Rattle.relaxations.specs.Verdicts.{IsVerdict}
use Rattle.relaxations.specs.declared.verdict.Verdict.{Verdict}
use Rattle.relaxations.specs.declared.verdict.Verdict.TheVariants.{NewPair, OtherSegment}
use Rattle.relaxations.specs.declared.verdict.Verdict.TheVariants.{WaitsForNoMore, WrongCount}
use Rattle.task_segments.specs.Table.{Table}
use Rattle.spanprof_command.specs.Certificates.{refused_as, refused_pair}
use Rattle.spanprof_command.specs.Report.{Report, kind_name, line}
use Rattle.spanprof_command.specs.declared.report.Status.TheVariants.{Done}
use Rattle.large_documents.specs.AccountReports.{numbered, of_segment}
use Rattle.large_documents.specs.Times.{ended}

abbrev pub verdict_report : Verdict → Report
verdict_report WaitsForNoMore = record { text = line (codes "accepted"); status = Done }
verdict_report WrongCount = refused_as (codes "WrongCount")
verdict_report (OtherSegment s) = of_segment (codes "OtherSegment") s
verdict_report (NewPair s t) = refused_pair (codes "NewPair") s t

-- the report on two programs with these tables
pub record TellsVerdict (old new : Table) (output : Report) : Type 0 where
  pub verdict : Verdict
  pub is_verdict : IsVerdict old new verdict
  pub says : output ≡ verdict_report verdict

-- the text is that of a program
pub record JudgesChange (old : Table) (text : List ℕ) (output : Report) : Type 0 where
  pub new : Table
  pub is_table : IsTableOfText text new
  pub tells : TellsVerdict old new output

-- the first fault of a text behind a divider, before which so many lines have ended
abbrev pub changed_refusal : ℕ → ReadFault → Report
changed_refusal before fault = numbered (before + fault.line + 1) (kind_name fault.kind)

-- it is not, and this fault is reported
pub record RefusesChange (before : ℕ) (text : List ℕ) (output : Report) : Type 0 where
  pub fault : ReadFault
  pub is_fault : IsLargeFault text fault
  pub says : output ≡ changed_refusal before fault

-- the report on a program with this text and this table, and on the changed one behind it
abbrev pub SaysOfChange : (program rest : List ℕ) → Table → Report → Type 0
SaysOfChange program rest old output =
    JudgesChange old rest output ⊎ RefusesChange (ended program) rest output
