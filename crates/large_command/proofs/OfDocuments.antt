-- There is one report on a document.
use Rattle.std.proofs.Common.{◌≡◌, ◌∙◌, ℕ, List, Option, Some, None, refl, sym, inl, inr}
use Rattle.command_words.specs.declared.large.DocumentRequest.{DocumentRequest}
use Rattle.program_text.specs.Marks.{Mark}
use Rattle.task_program.specs.Nested.{IsNested}
use Rattle.task_segments.specs.Table.{table_of}
use Rattle.spanprof_command.specs.Replaying.{bad_form}
use Rattle.spanprof_command.specs.Report.{Report, out_of_memory}
use Rattle.large_documents.proofs.OneRest.{one_report, some_report}
use Rattle.large_command.proofs.OfTables.{fits_or_not, reading_of}
use Rattle.large_command.specs.DocumentReports.{TellsBehind}

pub one_of_document : (asked : DocumentRequest) (program : List ℕ) (rest : Option (List ℕ))
    (marks : List Mark) (one other : Report)
    → IsNested marks
    → TellsBehind asked program rest (table_of marks) one
    → TellsBehind asked program rest (table_of marks) other
    → one ≡ other
one_of_document asked program None marks one other nested a b = a ∙ sym b
one_of_document asked program (Some rest) marks one other nested (inl a) (inl b) =
    one_report asked program rest marks (reading_of marks nested a.fits) one other a.says b.says
one_of_document asked program (Some rest) marks one other nested (inl a) (inr b) =
    absurd (b.larger a.fits)
one_of_document asked program (Some rest) marks one other nested (inr a) (inl b) =
    absurd (a.larger b.fits)
one_of_document asked program (Some rest) marks one other nested (inr a) (inr b) =
    a.says ∙ sym b.says

pub some_of_document : (asked : DocumentRequest) (program : List ℕ) (rest : Option (List ℕ))
    (marks : List Mark)
    → IsNested marks
    → (output : Report) × TellsBehind asked program rest (table_of marks) output
some_of_document asked program None marks nested = (bad_form, refl)
some_of_document asked program (Some rest) marks nested = elim (fits_or_not (table_of marks)) [
  | inl fits ↦
      let told = some_report asked program rest marks (reading_of marks nested fits) in
      (told.0, inl (record { fits = fits; says = told.1 }))
  | inr larger ↦ (out_of_memory, inr (record { larger = larger; says = refl }))
]
