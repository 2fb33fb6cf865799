-- There is a report on a document, and no two.
use Rattle.std.specs.Prelude.{◌≡◌, ℕ, List}
use Rattle.command_words.specs.declared.large.DocumentRequest.{DocumentRequest}
use Rattle.program_text.specs.Marks.{Mark}
use Rattle.task_segments.specs.Table.{table_of}
use Rattle.spanprof_command.specs.Report.{Report}
use Rattle.large_documents.specs.RestReports.{SaysOfRest}

-- of a program with these marks
abbrev pub HasOneReport : DocumentRequest → (program rest : List ℕ) → List Mark → Type 0
HasOneReport asked program rest marks =
    (one other : Report) → SaysOfRest asked program rest (table_of marks) one
    → SaysOfRest asked program rest (table_of marks) other
    → one ≡ other

abbrev pub HasReport : DocumentRequest → (program rest : List ℕ) → List Mark → Type 0
HasReport asked program rest marks =
    (output : Report) × SaysOfRest asked program rest (table_of marks) output
