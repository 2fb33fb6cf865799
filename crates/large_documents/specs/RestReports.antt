-- The report on a document of any size, by the table of its program and what stands behind it.
use Rattle.std.specs.Prelude.{ℕ, List, Some}
use Rattle.command_words.specs.declared.large.DocumentRequest.{DocumentRequest}
use Rattle.command_words.specs.declared.large.DocumentRequest.TheVariants.{Account, Check}
use Rattle.command_words.specs.declared.large.DocumentRequest.TheVariants.{Places, Relaxation, Replay}
use Rattle.command_words.specs.declared.large.DocumentRequest.TheVariants.{WhatIf}
use Rattle.task_segments.specs.Table.{Table}
use Rattle.spanprof_command.specs.Certificates.{AnswersClaim}
use Rattle.spanprof_command.specs.Replaying.{SaysOfEvents}
use Rattle.spanprof_command.specs.Report.{Report}
use Rattle.large_documents.specs.AccountReports.{SaysOfAccount}
use Rattle.large_documents.specs.ChangeReports.{SaysOfChange}
use Rattle.large_documents.specs.ListReports.{SaysOfList}
use Rattle.large_documents.specs.PlaceReports.{SaysOfPlaces}
use Rattle.large_documents.specs.declared.rest.TheConstants.{MOST_LARGE_EVENTS}

-- of the program there is its text and its table, and behind the divider stands the rest
abbrev pub SaysOfRest : DocumentRequest → (program rest : List ℕ) → Table → Report → Type 0
SaysOfRest (Account asked) program rest table output = SaysOfAccount asked program rest table output
SaysOfRest Replay program rest table output = SaysOfEvents MOST_LARGE_EVENTS (Some rest) table output
SaysOfRest Check program rest table output = AnswersClaim table rest output
SaysOfRest WhatIf program rest table output = SaysOfList program rest table output
SaysOfRest Places program rest table output = SaysOfPlaces program rest table output
SaysOfRest Relaxation program rest table output = SaysOfChange program rest table output
