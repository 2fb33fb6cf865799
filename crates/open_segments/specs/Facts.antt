-- Carried out: what holds of every table, as the steps of a run ask for it.
use Rattle.std.specs.Prelude.{◌<◌, ◌≤◌, length, sum}
use Rattle.program_text.specs.declared.limits.TheConstants.{MOST_WORK}
use Rattle.task_segments.specs.declared.limits.TheConstants.{MOST_ROWS}
use Rattle.task_segments.specs.Table.{Table, costs_of}
use Rattle.task_segments.specs.InPlace.{IsReadInPlace}
use Rattle.open_segments.specs.Counters.{GoesUp, KeepsChains}

pub record IsSoundTable (table : Table) : Type 0 where
  -- there is a segment, and there are not too many
  pub some_segment : 0 < length table.segments
  pub few_segments : length table.segments ≤ MOST_ROWS
  pub few_tasks : length table.tasks ≤ MOST_ROWS
  pub little_work : sum (costs_of table) ≤ MOST_WORK
  pub goes_up : GoesUp table
  pub chains : KeepsChains table
  pub in_place : IsReadInPlace table
