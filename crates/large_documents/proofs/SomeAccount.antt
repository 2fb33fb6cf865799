-- There is a report on lines behind a program.
use Rattle.std.proofs.Common.{◌≡◌, ◌<◌, ◌⊎◌, ◌∙◌, ℕ, List, length, refl, sym, ap, arith, inl, inr}
use Rattle.std.proofs.lemmas.List.{length-map}
use Rattle.std.proofs.lemmas.List.Splits.{length-slice_split}
use Rattle.command_words.specs.declared.large.AccountRequest.{AccountRequest}
use Rattle.command_words.specs.declared.large.AccountRequest.TheVariants.{Sums, Rows, Path}
use Rattle.dispatch_core.proofs.SomeGraph.{IsWhole, some_graph}
use Rattle.dispatch_core.proofs.StartAndEnd.{graph_of_program}
use Rattle.dispatch_core.specs.Graph.{IsGraphOf}
use Rattle.dispatch_core.specs.RecordedGraph.{IsGraph, Precedes, RecordedGraph}
use Rattle.program_text.specs.Document.{lines_of}
use Rattle.program_text.specs.Tokens.{is_line_feed}
use Rattle.spanprof_command.specs.Report.{Report}
use Rattle.task_segments.specs.Table.{Table}
use Rattle.task_segments.specs.declared.table.Segment.{Segment}
use Rattle.time_accounts.proofs.SomePath.{some_path}
use Rattle.time_accounts.specs.Faults.{HasEach}
use Rattle.time_accounts.specs.TimedRun.{IsTimedRun, TimedRun}
use Rattle.time_text.proofs.OneReading.{some_reading}
use Rattle.time_text.specs.OneReading.{ToldTimes}
use Rattle.time_text.specs.declared.line.RegionTimes.{RegionTimes}
use Rattle.time_text.specs.declared.line.SegmentTimes.{SegmentTimes}
use Rattle.large_documents.proofs.SomeFault.{some_verdict}
use Rattle.large_documents.specs.AccountReports.{AcceptsRun, RefusesRun, SaysOfAccount}
use Rattle.large_documents.specs.AccountReports.{SaysOfTimes, TakesTimes}
use Rattle.large_documents.specs.AccountReports.{text_refusal, times_refusal}
use Rattle.large_documents.specs.Accounts.{TellsRun, path_table, rows_report, sums_of}
use Rattle.large_documents.specs.Times.{ended, run_of}

some_told : (asked : AccountRequest) (graph : RecordedGraph) (region : RegionTimes)
    (segments : List SegmentTimes)
    → IsGraph graph
    → IsTimedRun (length graph.costs) (Precedes graph) region.threads region.first region.last
    (run_of segments)
    → (output : Report) × TellsRun asked graph region (run_of segments) output
some_told Sums graph region segments is legal = (sums_of graph region (run_of segments), refl)
some_told Rows graph region segments is legal = (rows_report graph region (run_of segments), refl)
some_told Path graph region segments is legal =
    let path = some_path graph (record { up = is.smaller }) is.some legal in (
      path_table (run_of segments) path.0,
      record { path = path.0; is_path = path.1; says = refl },
    )

has_each : (n : ℕ) (segments : List SegmentTimes) → length segments ≡ n
    → HasEach n (run_of segments)
has_each n segments each = record {
  each_thread = length-map segments (λ (t : SegmentTimes). t.thread) ∙ each;
  each_begin = length-map segments (λ (t : SegmentTimes). t.begin) ∙ each;
  each_end = length-map segments (λ (t : SegmentTimes). t.end) ∙ each;
}

-- where there is a report on each legal run on a table's graph
module _ (table : Table) (tells : RecordedGraph → RegionTimes → TimedRun → Report → Type 0)
    (some : (graph : RecordedGraph) (region : RegionTimes) (segments : List SegmentTimes)
    → IsGraph graph → IsGraphOf table graph
    → IsTimedRun (length graph.costs) (Precedes graph) region.threads region.first region.last
    (run_of segments)
    → (output : Report) × tells graph region (run_of segments) output) where
  answer_run : (graph : RecordedGraph) (region : RegionTimes) (segments : List SegmentTimes)
      → IsGraph graph
      → IsGraphOf table graph
      → length segments ≡ length graph.costs
      → (output : Report) × (AcceptsRun tells graph region segments output
      ⊎ RefusesRun graph region segments output)
  answer_run graph region segments is of each =
      elim (some_verdict graph is region.threads region.first region.last (run_of segments)
      (has_each (length graph.costs) segments each)) [
        | inl accepted ↦
            let told = some graph region segments is of accepted.legal in (
              told.0,
              inl (record {
                legal = accepted.legal;
                within = accepted.within;
                says = told.1;
              }),
            )
        | inr refused ↦ (
          times_refusal refused.fault,
          inr (record {
            fault = refused.fault;
            of_run = refused.of_run;
            is_fault = refused.is_fault;
            says = refl;
          }),
        )
      ]

  take_times : (rest : List ℕ) → IsWhole table
      → ToldTimes (length table.segments) (lines_of rest)
      → (output : Report) × TakesTimes tells rest table output
  take_times rest whole told =
      let graph = some_graph table whole.sound in
      let is = graph_of_program table graph.0 whole.sound graph.1 in
      let each : length graph.0.costs ≡ length table.segments =
      ap length graph.1.costs ∙ length-map table.segments (λ (row : Segment). row.cost) in
      let answer = answer_run graph.0 told.region told.segments is graph.1
      (told.tells.each ∙ sym each) in (
        answer.0,
        record {
          region = told.region;
          segments = told.segments;
          tells = told.tells;
          graph = graph.0;
          is_graph = is;
          is_graph_of = graph.1;
          answers = answer.1;
        },
      )

  pub some_times : (before : ℕ) (rest : List ℕ) → IsWhole table
      → (output : Report) × SaysOfTimes tells before rest table output
  some_times before rest whole =
      let some_line : 0 < length (lines_of rest) =
      omega (arith, length-slice_split is_line_feed rest) in
      elim (some_reading (length table.segments) (lines_of rest) some_line) [
        | inl told ↦ let taken = take_times rest whole told in (taken.0, inl taken.1)
        | inr found ↦ (
          text_refusal before found.fault,
          inr (record {
            fault = found.fault;
            of_text = found.of_text;
            is_fault = found.is_fault;
            says = refl;
          }),
        )
      ]

pub some_account : (asked : AccountRequest) (program rest : List ℕ) (table : Table)
    → IsWhole table
    → (output : Report) × SaysOfAccount asked program rest table output
some_account asked program rest table whole =
    some_times table (TellsRun asked)
    (λ graph region segments is of legal. some_told asked graph region segments is legal)
    (ended program) rest whole
