-- The report on the table of a text.
use Rattle.std.specs.Prelude.{◌≡◌, ◌⊎◌, ◌≤◌, length, sum}
use Rattle.command_words.specs.declared.large.TableRequest.{TableRequest}
use Rattle.command_words.specs.declared.large.TableRequest.TheVariants.{Curve, Graph, Greedy}
use Rattle.command_words.specs.declared.large.TableRequest.TheVariants.{Slack, WhatIf}
use Rattle.program_text.specs.declared.limits.TheConstants.{MOST_WORK}
use Rattle.task_segments.specs.Table.{Table, costs_of}
use Rattle.task_segments.specs.declared.limits.TheConstants.{MOST_ROWS}
use Rattle.spanprof_command.specs.GreedyRuns.{SaysCurve, SaysGreedyRun}
use Rattle.spanprof_command.specs.Report.{Report, out_of_memory}
use Rattle.spanprof_command.specs.Slacks.{TellsSlacks}
use Rattle.spanprof_command.specs.Trials.{TriesChanges}
use Rattle.large_command.specs.GraphReports.{TellsGraph}

-- the rows are no more than are numbered, and the work is within the limit of every text
pub record FitsRows (table : Table) : Type 0 where
  pub segments : length table.segments ≤ MOST_ROWS
  pub tasks : length table.tasks ≤ MOST_ROWS
  pub work : sum (costs_of table) ≤ MOST_WORK

-- What is said of a program with this table: its graph, or what the command of `spanprof` of the same
-- name says.
abbrev pub SaysOfTable : TableRequest → Table → Report → Type 0
SaysOfTable Slack table output = TellsSlacks table output
SaysOfTable (Greedy threads) table output = SaysGreedyRun threads table output
SaysOfTable (Curve upto) table output = SaysCurve upto table output
SaysOfTable (WhatIf changes) table output = TriesChanges changes table output
SaysOfTable Graph table output = TellsGraph table output

pub record TellsRows (asked : TableRequest) (table : Table) (output : Report) : Type 0 where
  pub fits : FitsRows table
  pub says : SaysOfTable asked table output

-- of a larger table there is only this report
pub record LacksRows (table : Table) (output : Report) : Type 0 where
  pub larger : ¬ FitsRows table
  pub says : output ≡ out_of_memory

abbrev pub TellsTable : TableRequest → Table → Report → Type 0
TellsTable asked table output = TellsRows asked table output ⊎ LacksRows table output
