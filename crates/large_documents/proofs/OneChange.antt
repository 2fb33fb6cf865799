-- There is a report on a changed program, and no two.
use Rattle.std.proofs.Common.{◌≡◌, ◌∙◌, ℕ, List, ap, inl, inr, refl, subst, sym}
use Rattle.large_text.proofs.LoopReading.{one_reading}
use Rattle.large_text.proofs.ReadingTexts.{nested_of}
use Rattle.large_text.specs.Measured.{IsTableOfText}
use Rattle.relaxations.specs.Verdicts.{IsVerdict}
use Rattle.task_program.specs.ProgramMarks.{ProgramMarks}
use Rattle.task_segments.specs.InPlace.{IsReadInPlace}
use Rattle.task_segments.specs.Table.{Table, table_of}
use Rattle.spanprof_command.specs.Report.{Report}
use Rattle.large_documents.proofs.SomeVerdict.{one_verdict, some_verdict}
use Rattle.large_documents.specs.ChangeReports.{SaysOfChange, changed_refusal, verdict_report}
use Rattle.large_documents.specs.Times.{ended}

one_table : (text : List ℕ) (table other : Table) → IsTableOfText text table
    → IsTableOfText text other
    → table ≡ other
one_table text table other a b =
    a.is
    ∙ ap (λ (program : ProgramMarks). table_of program.marks)
    ((one_reading text).one_program a.program b.program a.stands b.stands)
    ∙ sym b.is

pub one_change : (program rest : List ℕ) (old : Table) (one other : Report)
    → SaysOfChange program rest old one
    → SaysOfChange program rest old other
    → one ≡ other
one_change program rest old one other (inl a) (inl b) =
    let tables : b.new ≡ a.new = one_table rest b.new a.new b.is_table a.is_table in
    let verdicts : a.tells.verdict ≡ b.tells.verdict =
    one_verdict old a.new a.tells.verdict b.tells.verdict a.tells.is_verdict
    (subst (λ (table : Table). IsVerdict old table b.tells.verdict) tables b.tells.is_verdict) in
    a.tells.says ∙ ap verdict_report verdicts ∙ sym b.tells.says
one_change program rest old one other (inl a) (inr b) =
    absurd ((one_reading rest).never_both a.is_table.right b.fault b.is_fault)
one_change program rest old one other (inr a) (inl b) =
    absurd ((one_reading rest).never_both b.is_table.right a.fault a.is_fault)
one_change program rest old one other (inr a) (inr b) =
    a.says
    ∙ ap (changed_refusal (ended program))
    ((one_reading rest).one a.fault b.fault a.is_fault b.is_fault)
    ∙ sym b.says

pub some_change : (program rest : List ℕ) (old : Table) → IsReadInPlace old
    → (output : Report) × SaysOfChange program rest old output
some_change program rest old in_place =
    let reading = one_reading rest in
    elim reading.some [
      | inl right ↦
          let found = reading.program right in
          let verdict = some_verdict old found.0.marks in_place (nested_of rest found.0 found.1) in (
            verdict_report verdict.0,
            inl (record {
              new = table_of found.0.marks;
              is_table = record {
                program = found.0;
                stands = found.1;
                right = right;
                is = refl;
              };
              tells = record { verdict = verdict.0; is_verdict = verdict.1; says = refl };
            }),
          )
      | inr wrong ↦ (
        changed_refusal (ended program) wrong.0,
        inr (record { fault = wrong.0; is_fault = wrong.1; says = refl }),
      )
    ]
