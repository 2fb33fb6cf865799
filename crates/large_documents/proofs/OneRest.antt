-- There is a report on a document, and no two.
use Rattle.std.proofs.Common.{ℕ, List, Some}
use Rattle.command_words.specs.declared.large.DocumentRequest.{DocumentRequest}
use Rattle.command_words.specs.declared.large.DocumentRequest.TheVariants.{Account, Check}
use Rattle.command_words.specs.declared.large.DocumentRequest.TheVariants.{Places, Relaxation, Replay}
use Rattle.command_words.specs.declared.large.DocumentRequest.TheVariants.{WhatIf}
use Rattle.dispatch_core.proofs.SomeGraph.{whole_marks}
use Rattle.program_text.specs.Marks.{Mark}
use Rattle.task_segments.specs.MarksTable.{IsReading}
use Rattle.task_segments.specs.Table.{table_of}
use Rattle.spanprof_command.proofs.OneReplay.{one_said}
use Rattle.spanprof_command.proofs.SomeReplay.{some_said}
use Rattle.spanprof_command.proofs.OneOfGraphs.{one_claim}
use Rattle.spanprof_command.proofs.SomeReport.{some_claim}
use Rattle.large_documents.proofs.OneAccount.{one_account}
use Rattle.large_documents.proofs.OneChange.{one_change, some_change}
use Rattle.large_documents.proofs.OneList.{one_list, some_list}
use Rattle.large_documents.proofs.OnePlaces.{one_places, some_places}
use Rattle.large_documents.proofs.SomeAccount.{some_account}
use Rattle.large_documents.specs.OneRest.{HasOneReport, HasReport}
use Rattle.large_documents.specs.declared.rest.TheConstants.{MOST_LARGE_EVENTS}

pub one_report : (asked : DocumentRequest) (program rest : List ℕ) (marks : List Mark)
    → IsReading marks → HasOneReport asked program rest marks
one_report (Account asked) program rest marks reading =
    one_account asked program rest (table_of marks)
one_report Replay program rest marks reading =
    one_said MOST_LARGE_EVENTS (Some rest) (table_of marks)
one_report Check program rest marks reading = one_claim (table_of marks) rest
one_report WhatIf program rest marks reading = one_list program rest marks
one_report Places program rest marks reading = one_places program rest (table_of marks)
one_report Relaxation program rest marks reading = one_change program rest (table_of marks)

pub some_report : (asked : DocumentRequest) (program rest : List ℕ) (marks : List Mark)
    → IsReading marks → HasReport asked program rest marks
some_report (Account asked) program rest marks reading =
    some_account asked program rest (table_of marks) (whole_marks marks reading)
some_report Replay program rest marks reading =
    some_said MOST_LARGE_EVENTS (Some rest) (table_of marks) (whole_marks marks reading).sound
some_report Check program rest marks reading =
    some_claim (table_of marks) rest (whole_marks marks reading).sound
some_report WhatIf program rest marks reading =
    some_list program rest marks (whole_marks marks reading)
some_report Places program rest marks reading =
    some_places program rest marks (whole_marks marks reading)
some_report Relaxation program rest marks reading =
    some_change program rest (table_of marks) (whole_marks marks reading).sound.in_place
