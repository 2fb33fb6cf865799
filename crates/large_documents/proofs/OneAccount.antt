-- There is one report on the times of a run.
use Rattle.std.proofs.Common.{◌≡◌, ◌∙◌, ◌⊎◌, ℕ, List, length, subst, sym, ap, inl, inr}
use Rattle.command_words.specs.declared.large.AccountRequest.{AccountRequest}
use Rattle.command_words.specs.declared.large.AccountRequest.TheVariants.{Sums, Rows, Path}
use Rattle.dispatch_core.proofs.StartAndEnd.{one_graph}
use Rattle.dispatch_core.specs.RecordedGraph.{IsGraph, Precedes, RecordedGraph}
use Rattle.program_text.specs.Document.{lines_of}
use Rattle.spanprof_command.specs.Report.{Report}
use Rattle.task_segments.specs.Table.{Table}
use Rattle.time_accounts.specs.TimedRun.{TimedRun}
use Rattle.time_text.proofs.OneReading.{no_fault, one_fault, one_run}
use Rattle.time_text.specs.declared.line.RegionTimes.{RegionTimes}
use Rattle.time_text.specs.declared.line.SegmentTimes.{SegmentTimes}
use Rattle.large_documents.proofs.OneFault.{no_times_fault, one_times_fault}
use Rattle.large_documents.proofs.OnePath.{one_path}
use Rattle.large_documents.specs.AccountReports.{AcceptsRun, RefusesRun, RefusesTimes, SaysOfAccount}
use Rattle.large_documents.specs.AccountReports.{SaysOfTimes}
use Rattle.large_documents.specs.AccountReports.{TakesTimes, text_refusal, times_refusal}
use Rattle.large_documents.specs.Accounts.{TellsRun, path_table}
use Rattle.large_documents.specs.Times.{ended, run_of}

same_told : (x y one other : Report) → x ≡ y → one ≡ x → other ≡ y → one ≡ other
same_told x y one other same a b = a ∙ same ∙ sym b

one_told : (asked : AccountRequest) (graph : RecordedGraph) (region : RegionTimes) (run : TimedRun)
    (one other : Report)
    → TellsRun asked graph region run one
    → TellsRun asked graph region run other
    → one ≡ other
one_told Sums graph region run one other a b = a ∙ sym b
one_told Rows graph region run one other a b = a ∙ sym b
one_told Path graph region run one other a b =
    same_told (path_table run a.path) (path_table run b.path) one other
    (ap (path_table run)
    (one_path (length graph.costs) (Precedes graph) run a.path b.path a.is_path b.is_path))
    a.says b.says

-- where there is one report on a legal run
module _ (tells : RecordedGraph → RegionTimes → TimedRun → Report → Type 0)
    (single : (graph : RecordedGraph) (region : RegionTimes) (run : TimedRun) (one other : Report)
    → IsGraph graph → tells graph region run one → tells graph region run other → one ≡ other) where
  not_both : (graph : RecordedGraph) (region : RegionTimes) (segments : List SegmentTimes)
      (one other : Report)
      → AcceptsRun tells graph region segments one → RefusesRun graph region segments other → ⊥
  not_both graph region segments one other a b =
      no_times_fault (length graph.costs) (Precedes graph) region.threads region.first region.last
      (run_of segments) b.fault b.of_run a.legal a.within b.is_fault

  abbrev Answer : RecordedGraph → RegionTimes → List SegmentTimes → Report → Type 0
  Answer graph region segments output =
      AcceptsRun tells graph region segments output ⊎ RefusesRun graph region segments output

  one_answer : (graph : RecordedGraph) (region : RegionTimes) (segments : List SegmentTimes)
      (one other : Report)
      → IsGraph graph
      → Answer graph region segments one
      → Answer graph region segments other
      → one ≡ other
  one_answer graph region segments one other is (inl a) (inl b) =
      single graph region (run_of segments) one other is a.says b.says
  one_answer graph region segments one other is (inl a) (inr b) =
      absurd (not_both graph region segments one other a b)
  one_answer graph region segments one other is (inr a) (inl b) =
      absurd (not_both graph region segments other one b a)
  one_answer graph region segments one other is (inr a) (inr b) =
      same_told (times_refusal a.fault) (times_refusal b.fault) one other
      (ap times_refusal (one_times_fault (length graph.costs) (Precedes graph) region.threads
      region.first region.last (run_of segments) a.fault b.fault a.of_run b.of_run a.is_fault
      b.is_fault))
      a.says b.says

  one_taken : (rest : List ℕ) (table : Table) (one other : Report)
      → TakesTimes tells rest table one → TakesTimes tells rest table other → one ≡ other
  one_taken rest table one other a b =
      let told = one_run (length table.segments) (lines_of rest) b.region a.region b.segments
      a.segments b.tells a.tells in
      let graph = one_graph table b.graph a.graph b.is_graph_of a.is_graph_of in
      let by_graph = subst (λ (g : RecordedGraph). Answer g b.region b.segments other) graph
      b.answers in
      let by_region = subst (λ (r : RegionTimes). Answer a.graph r b.segments other) told.0
      by_graph in
      let by_segments = subst (λ (s : List SegmentTimes). Answer a.graph a.region s other)
      told.1 by_region in
      one_answer a.graph a.region a.segments one other a.is_graph a.answers by_segments

  not_taken : (before : ℕ) (rest : List ℕ) (table : Table) (one other : Report)
      → TakesTimes tells rest table one → RefusesTimes before rest table other → ⊥
  not_taken before rest table one other a b =
      no_fault (length table.segments) (lines_of rest) a.region a.segments b.fault b.of_text a.tells
      b.is_fault

  one_refused : (before : ℕ) (rest : List ℕ) (table : Table) (one other : Report)
      → RefusesTimes before rest table one → RefusesTimes before rest table other → one ≡ other
  one_refused before rest table one other a b =
      same_told (text_refusal before a.fault) (text_refusal before b.fault) one other
      (ap (text_refusal before) (one_fault (length table.segments) (lines_of rest) a.fault b.fault
      a.of_text b.of_text a.is_fault b.is_fault))
      a.says b.says

  pub one_times : (before : ℕ) (rest : List ℕ) (table : Table) (one other : Report)
      → SaysOfTimes tells before rest table one
      → SaysOfTimes tells before rest table other
      → one ≡ other
  one_times before rest table one other (inl a) (inl b) = one_taken rest table one other a b
  one_times before rest table one other (inl a) (inr b) =
      absurd (not_taken before rest table one other a b)
  one_times before rest table one other (inr a) (inl b) =
      absurd (not_taken before rest table other one b a)
  one_times before rest table one other (inr a) (inr b) =
      one_refused before rest table one other a b

pub one_account : (asked : AccountRequest) (program rest : List ℕ) (table : Table)
    (one other : Report)
    → SaysOfAccount asked program rest table one → SaysOfAccount asked program rest table other
    → one ≡ other
one_account asked program rest table one other a b =
    one_times (TellsRun asked)
    (λ graph region run x y is given also. one_told asked graph region run x y given also)
    (ended program) rest table one other a b
