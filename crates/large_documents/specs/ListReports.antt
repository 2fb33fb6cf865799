-- The report on a list of changes of costs behind its program.
use Rattle.std.specs.Prelude.{ℕ, ◌≡◌, ◌⊎◌, List, Some, None, codes}
use Rattle.command_words.specs.declared.changes.Change.{Change}
use Rattle.program_text.specs.Document.{lines_of}
use Rattle.task_segments.specs.Table.{Table, costs_of}
use Rattle.whatif_costs.specs.declared.fault.WhatFault.TheVariants.{UnknownSegment, CostTooLarge}
use Rattle.whatif_costs.specs.declared.fault.WhatFault.TheVariants.{OutOfMemory, WorkTooLarge}
use Rattle.spanprof_command.specs.Report.{Report}
use Rattle.spanprof_command.specs.Trials.{TriesChanges}
use Rattle.large_documents.specs.AccountReports.{at_line}
use Rattle.large_documents.specs.ChangeLists.{first_wrong, listed}
use Rattle.large_documents.specs.Times.{ended}
use Rattle.large_documents.specs.declared.change_list.ListFault.{ListFault}
use Rattle.large_documents.specs.declared.change_list.ListFault.TheVariants.{Wrong}
use Rattle.large_documents.specs.declared.change_list.ListFault.TheVariants as of_list
use Rattle.large_documents.specs.declared.change_list.WrongLine.{WrongLine}
use Rattle.large_documents.specs.declared.change_list.WrongLine.TheVariants.{BadForm, Refused}

abbrev pub word_of : WrongLine → List ℕ
word_of BadForm = codes "BadForm"
word_of (Refused UnknownSegment) = codes "UnknownSegment"
word_of (Refused CostTooLarge) = codes "CostTooLarge"
word_of (Refused WorkTooLarge) = codes "WorkTooLarge"
word_of (Refused OutOfMemory) = codes "OutOfMemory"

-- the line of a fault; out of memory has none
abbrev pub TellsFault : List ℕ → ListFault → Report → Type 0
TellsFault program (Wrong i why) output = output ≡ at_line (ended program) i (word_of why)
TellsFault program of_list.OutOfMemory output = ⊥

-- no line is wrong: the report of `whatif` on these changes
pub record TakesList (rest : List ℕ) (table : Table) (output : Report) : Type 0 where
  pub right : first_wrong (costs_of table) (lines_of rest) ≡ None
  pub changes : List Change
  pub are_listed : listed (lines_of rest) ≡ Some changes
  pub tries : TriesChanges changes table output

-- some line is: the first one, and what is wrong with it
pub record RefusesList (program rest : List ℕ) (table : Table) (output : Report) : Type 0 where
  pub line : ℕ
  pub why : WrongLine
  pub is_first : first_wrong (costs_of table) (lines_of rest) ≡ Some (line, why)
  pub says : output ≡ at_line (ended program) line (word_of why)

-- the report on a program with this text and this table, and on the lines behind it
abbrev pub SaysOfList : (program rest : List ℕ) → Table → Report → Type 0
SaysOfList program rest table output =
    TakesList rest table output ⊎ RefusesList program rest table output
