-- The report on the times of a legal run.
use Rattle.std.specs.Prelude.{ℕ, zero, suc, ◌-◌, ◌≡◌, ◌++◌, List, [], ◌∷◌, length, max, Option, Some}
use Rattle.std.specs.Prelude.{codes}
use Rattle.command_words.specs.declared.large.AccountRequest.{AccountRequest}
use Rattle.command_words.specs.declared.large.AccountRequest.TheVariants.{Sums, Rows, Path}
use Rattle.dispatch_core.specs.RecordedGraph.{Precedes, RecordedGraph}
use Rattle.task_segments.specs.Schedule.{at}
use Rattle.time_accounts.specs.OwnPath.{IsOwnPath}
use Rattle.time_accounts.specs.Shares.{Shares, ready_moments, shares_of}
use Rattle.time_accounts.specs.TimedRun.{TimedRun}
use Rattle.time_text.specs.declared.line.RegionTimes.{RegionTimes}
use Rattle.spanprof_command.specs.Report.{Report, number_line}
use Rattle.csv_table.specs.Tables.{numbered_table}
use Rattle.spanprof_command.specs.declared.report.Status.TheVariants.{Done}

-- ---- the sums

-- how many threads, for how long, and how long they ran segments
abbrev pub region_lines : (threads elapsed busy : ℕ) → List ℕ
region_lines threads elapsed busy =
    number_line (codes "threads") threads
    ++ (number_line (codes "elapsed") elapsed ++ number_line (codes "busy") busy)

-- how long they did not
abbrev pub idle_lines : (delayed starved outside : ℕ) → List ℕ
idle_lines delayed starved outside =
    number_line (codes "delayed") delayed
    ++ (number_line (codes "starved") starved ++ number_line (codes "outside") outside)

abbrev pub sums_report : (threads elapsed : ℕ) → Shares → Report
sums_report threads elapsed shares = record {
  text = region_lines threads elapsed shares.busy
      ++ idle_lines shares.delayed shares.starved shares.outside;
  status = Done;
}

abbrev pub sums_of : RecordedGraph → RegionTimes → TimedRun → Report
sums_of graph region run =
    sums_report region.threads (region.last - region.first)
    (shares_of graph region.threads region.first region.last run)

-- ---- a row for each segment

abbrev pub rows_header : List (List ℕ)
rows_header =
    codes "segment" ∷ codes "thread" ∷ codes "ready" ∷ codes "begin" ∷ codes "end" ∷ []

-- a segment, its thread, when it became ready, its begin and its end; the first segment is ready from
-- the first moment on
abbrev pub rows_row : (first : ℕ) → List ℕ → TimedRun → ℕ → List (Option ℕ)
rows_row first readies run s =
    Some s ∷ Some (at run.threads s) ∷ Some (max first (at readies s))
    ∷ Some (at run.begins s)
    ∷ Some (at run.ends s) ∷ []

abbrev pub rows_report : RecordedGraph → RegionTimes → TimedRun → Report
rows_report graph region run = record {
  text = numbered_table rows_header (rows_row region.first (ready_moments graph run) run) 0
      (length run.begins);
  status = Done;
}

-- ---- the run's own path

abbrev pub path_header : List (List ℕ)
path_header = codes "segment" ∷ codes "wait" ∷ codes "duration" ∷ []

-- from the end of the member before this one to its begin; before the first there is no wait
abbrev pub wait_at : TimedRun → List ℕ → ℕ → ℕ
wait_at run path zero = 0
wait_at run path (suc i) = at run.begins (at path (suc i)) - at run.ends (at path i)

-- a member, the wait before it and its duration
abbrev pub path_row : TimedRun → List ℕ → ℕ → List (Option ℕ)
path_row run path i =
    Some (at path i) ∷ Some (wait_at run path i)
    ∷ Some (at run.ends (at path i) - at run.begins (at path i)) ∷ []

abbrev pub path_table : TimedRun → List ℕ → Report
path_table run path = record {
  text = numbered_table path_header (path_row run path) 0 (length path);
  status = Done;
}

pub record TellsPath (graph : RecordedGraph) (run : TimedRun) (output : Report) : Type 0 where
  pub path : List ℕ
  pub is_path : IsOwnPath (length graph.costs) (Precedes graph) run path
  pub says : output ≡ path_table run path

-- what is asked of a legal run
abbrev pub TellsRun : AccountRequest → RecordedGraph → RegionTimes → TimedRun → Report → Type 0
TellsRun Sums graph region run output = output ≡ sums_of graph region run
TellsRun Rows graph region run output = output ≡ rows_report graph region run
TellsRun Path graph region run output = TellsPath graph run output
