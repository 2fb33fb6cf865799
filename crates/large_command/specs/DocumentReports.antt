-- The report on a document: on its program, and on what stands behind the divider.
use Rattle.std.specs.Prelude.{◌≡◌, ◌⊎◌, ℕ, List, Option, Some, None}
use Rattle.command_words.specs.declared.large.DocumentRequest.{DocumentRequest}
use Rattle.program_text.specs.Document.{program_part, rest_part}
use Rattle.task_segments.specs.Table.{Table}
use Rattle.spanprof_command.specs.Replaying.{bad_form}
use Rattle.spanprof_command.specs.Report.{Report}
use Rattle.large_documents.specs.RestReports.{SaysOfRest}
use Rattle.large_command.specs.TableReports.{FitsRows, LacksRows}

-- the table of the program has no more rows than are numbered
pub record SaysOfDocument (asked : DocumentRequest) (program rest : List ℕ) (table : Table)
    (output : Report)
    : Type 0 where
  pub fits : FitsRows table
  pub says : SaysOfRest asked program rest table output

abbrev pub TellsRest : DocumentRequest → (program rest : List ℕ) → Table → Report → Type 0
TellsRest asked program rest table output =
    SaysOfDocument asked program rest table output ⊎ LacksRows table output

-- a document without a divider has a wrong form
abbrev pub TellsBehind : DocumentRequest → List ℕ → Option (List ℕ) → Table → Report → Type 0
TellsBehind asked program None table output = output ≡ bad_form
TellsBehind asked program (Some rest) table output = TellsRest asked program rest table output

abbrev pub TellsDocument : DocumentRequest → List ℕ → Table → Report → Type 0
TellsDocument asked document table output =
    TellsBehind asked (program_part document) (rest_part document) table output
