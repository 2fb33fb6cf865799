-- What is written with the canonical text of a program.
use Rattle.std.specs.Prelude.{◌⊎◌}
use Rattle.command_words.specs.declared.large.TextRequest.{TextRequest}
use Rattle.command_words.specs.declared.large.TextRequest.TheVariants.{Certify, Show}
use Rattle.task_program.specs.ProgramMarks.{ProgramMarks}
use Rattle.task_segments.specs.Table.{table_of}
use Rattle.spanprof_command.specs.Certificates.{Certifies}
use Rattle.spanprof_command.specs.Report.{Report}
use Rattle.spanprof_command.specs.Reports.{Shows}
use Rattle.large_command.specs.TableReports.{FitsRows, LacksRows}

-- the table has no more rows than are numbered
pub record CertifiesRows (program : ProgramMarks) (output : Report) : Type 0 where
  pub fits : FitsRows (table_of program.marks)
  pub says : Certifies program output

-- what the command of the same name says of this program
abbrev pub TellsText : TextRequest → ProgramMarks → Report → Type 0
TellsText Show program output = Shows program output
TellsText Certify program output =
    CertifiesRows program output ⊎ LacksRows (table_of program.marks) output
