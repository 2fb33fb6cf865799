-- Which times there are, and the reports on them.
use Rattle.std.proofs.Common.{◌≡◌, ◌-◌, ◌<◌, ℕ, zero, suc, List, length, arith, ap, sym, refl}
use Rattle.std.proofs.Common.{◌∙◌, inl, inr, subst}
use Rattle.std.proofs.lemmas.List.{get_or_default, length-map}
use Rattle.dispatch_core.specs.Graph.{IsGraphOf}
use Rattle.dispatch_core.specs.RecordedGraph.{IsGraph, Precedes, RecordedGraph}
use Rattle.program_text.specs.Document.{lines_of}
use Rattle.spanprof_command.specs.Report.{Report}
use Rattle.task_segments.specs.Schedule.{at}
use Rattle.task_segments.specs.Table.{Table}
use Rattle.task_segments.specs.declared.table.Segment.{Segment}
use Rattle.time_accounts.specs.Faults.{IsRanged}
use Rattle.time_accounts.specs.OwnPath.{IsOwnPath}
use Rattle.time_accounts.specs.TimedRun.{IsTimedRun, TimedRun}
use Rattle.time_text.specs.TimesTexts.{IsTextFault, TellsTimes}
use Rattle.time_text.specs.declared.line.RegionTimes.{RegionTimes}
use Rattle.large_documents.specs.AccountReports.{SaysOfTimes}
use Rattle.large_documents.specs.RunReading.{IsRunRead, MayTell, ReadsNoRun, ReadsNoTimes, ReadsRun, SaysOfRead}
use Rattle.large_documents.specs.RunReading.{TellsOfRead, TellsRead}
use Rattle.large_documents.specs.declared.accounts.RunRead.{RunRead}
use Rattle.large_documents.specs.declared.accounts.RunRead.TheVariants.{Legal, Refused}
use Rattle.large_documents.specs.Accounts.{wait_at}
use Rattle.large_documents.specs.TimesOfEach.{AreMembers, AreTimes}

pub times_of_legal : (n p first last : ℕ) (R : ℕ → ℕ → Type 0) (run : TimedRun)
    → IsTimedRun n R p first last run → AreTimes n run
times_of_legal n p first last R run legal = record {
  threads = legal.each_thread;
  begins = legal.each_begin;
  ends = legal.each_end;
}

member_below : (n : ℕ) (R : ℕ → ℕ → Type 0) (run : TimedRun) (path : List ℕ)
    → IsOwnPath n R run path → (k : ℕ) → k < length path → at path k < n
member_below n R run path is k inside =
    is.segments (at path k) (k, inside, get_or_default path k (at path k) 0 inside)

pub members_of_path : (n : ℕ) (R : ℕ → ℕ → Type 0) (run : TimedRun) (path : List ℕ)
    → AreTimes n run → IsOwnPath n R run path → AreMembers run path
members_of_path n R run path times is = record {
  begins = λ k inside. omega (arith, times.begins, member_below n R run path is k inside);
  ends = λ k inside. omega (arith, times.ends, member_below n R run path is k inside);
}

-- the wait before a member that is not the first
pub wait_before : (run : TimedRun) (path : List ℕ) (k : ℕ) → 0 < k
    → at run.begins (at path k) - at run.ends (at path (k - 1)) ≡ wait_at run path k
wait_before run path zero some = absurd (omega (arith, some))
wait_before run path (suc k) some =
    let before : suc k - 1 ≡ k = omega arith in
    ap (λ (j : ℕ). at run.begins (at path (suc k)) - at run.ends (at path j)) before

pub first_wait : (run : TimedRun) (path : List ℕ) (k : ℕ) → k ≡ 0 → 0 ≡ wait_at run path k
first_wait run path k none = rw none refl

-- as many costs as segments
pub same_count : (table : Table) (graph : RecordedGraph) → IsGraphOf table graph
    → length table.segments ≡ length graph.costs
same_count table graph of =
    sym (ap length of.costs ∙ length-map table.segments (λ (row : Segment). row.cost))

-- the report on a graph and lines behind it is that on its table
pub says_of_read : (tells : RecordedGraph → RegionTimes → TimedRun → Report → Type 0)
    (before : ℕ) (rest : List ℕ) (table : Table) (graph : RecordedGraph) (output : Report)
    → IsGraph graph
    → IsGraphOf table graph
    → SaysOfRead tells graph before rest output
    → SaysOfTimes tells before rest table output
says_of_read tells before rest table graph output is of (inl read) =
    let count = sym (same_count table graph of) in
    inl (record {
      region = read.region;
      segments = read.segments;
      tells = subst (λ (n : ℕ). TellsTimes n (lines_of rest) read.region read.segments) count
          read.told;
      graph = graph;
      is_graph = is;
      is_graph_of = of;
      answers = inl (record { legal = read.legal; within = read.within; says = read.says });
    })
says_of_read tells before rest table graph output is of (inr (inl read)) =
    let count = sym (same_count table graph of) in
    inl (record {
      region = read.region;
      segments = read.segments;
      tells = subst (λ (n : ℕ). TellsTimes n (lines_of rest) read.region read.segments) count
          read.tells;
      graph = graph;
      is_graph = is;
      is_graph_of = of;
      answers = inr read.refuses;
    })
says_of_read tells before rest table graph output is of (inr (inr read)) =
    let count = sym (same_count table graph of) in
    inr (record {
      fault = read.fault;
      of_text = read.of_text;
      is_fault = subst (λ (n : ℕ). IsTextFault n (lines_of rest) read.fault) count read.is_fault;
      says = read.says;
    })

-- the report on a run that was read
says_of_run : (tells : RecordedGraph → RegionTimes → TimedRun → Report → Type 0)
    (rest : List ℕ) (graph : RecordedGraph) (region : RegionTimes) (run : TimedRun) (output : Report)
    → ReadsRun graph rest region run
    → tells graph region run output
    → TellsRead tells graph rest output
says_of_run tells rest graph region run output read says = record {
  region = region;
  segments = read.segments;
  told = read.tells;
  legal = subst (λ (r : TimedRun). IsTimedRun (length graph.costs) (Precedes graph) region.threads
      region.first region.last r) read.are read.legal;
  within = subst (λ (r : TimedRun). IsRanged (length graph.costs) region.threads region.first
      region.last r) read.are read.within;
  says = subst (λ (r : TimedRun). tells graph region r output) read.are says;
}

pub may_tell : (graph : RecordedGraph) (before : ℕ) (rest : List ℕ) (read : RunRead)
    → IsRunRead graph before rest read → MayTell graph read
may_tell graph before rest (Legal region run) is = (is.legal, is.within)
may_tell graph before rest (Refused why) is = tt

pub says_of : (telling : RecordedGraph → RegionTimes → TimedRun → Report → Type 0)
    (graph : RecordedGraph) (before : ℕ) (rest : List ℕ) (read : RunRead) (output : Report)
    → IsRunRead graph before rest read
    → TellsOfRead telling graph read output
    → SaysOfRead telling graph before rest output
says_of telling graph before rest (Legal region run) output is told =
    inl (says_of_run telling rest graph region run output is told)
says_of telling graph before rest (Refused why) output (inl is) told =
    inr (inl (subst (ReadsNoRun graph rest) (sym told) is))
says_of telling graph before rest (Refused why) output (inr is) told =
    inr (inr (subst (ReadsNoTimes graph before rest) (sym told) is))
