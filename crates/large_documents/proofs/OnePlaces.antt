-- There is a report on the places of segments, and no two.
use Rattle.std.proofs.Common.{◌≡◌, ◌∙◌, ℕ, List, Option, Some, None, ap, [], inl, inr, length}
use Rattle.std.proofs.Common.{refl, subst, sym, codes}
use Rattle.std.proofs.lemmas.Bool.{cases_eq}
use Rattle.dispatch_core.proofs.SomeGraph.{IsWhole}
use Rattle.dispatch_core.proofs.StartAndEnd.{one_graph}
use Rattle.dispatch_core.specs.Graph.{IsGraphOf}
use Rattle.dispatch_core.specs.RecordedGraph.{IsGraph, Precedes, RecordedGraph}
use Rattle.program_text.specs.Document.{program_part, rest_part}
use Rattle.program_text.specs.Marks.{Mark}
use Rattle.span_analysis.proofs.Unique.{analysis-unique}
use Rattle.span_analysis.specs.Findings.{Findings, IsAnalysis}
use Rattle.task_program.specs.declared.version.Version.TheVariants.{One}
use Rattle.task_segments.specs.Table.{Table, table_of}
use Rattle.spanprof_command.proofs.SomeReport.{some_slacks}
use Rattle.spanprof_command.specs.Certificates.{refused_as}
use Rattle.spanprof_command.specs.Report.{Report}
use Rattle.spanprof_command.specs.Slacks.{AreAnalysed}
use Rattle.time_accounts.specs.TimedRun.{IsTimedRun, TimedRun}
use Rattle.time_text.specs.declared.line.RegionTimes.{RegionTimes}
use Rattle.time_text.specs.declared.line.SegmentTimes.{SegmentTimes}
use Rattle.large_documents.proofs.OneAccount.{one_times}
use Rattle.large_documents.proofs.SomeAccount.{some_times}
use Rattle.large_documents.specs.PlaceReports.{SaysOfPlaces, TakesPlaces, TellsFault, TellsOfPlaces}
use Rattle.large_documents.specs.PlaceReports.{TellsPlaces, places_of}
use Rattle.large_documents.specs.TimedPlaces.{TellsTimedSums, before_times, timed_places_of}
use Rattle.large_documents.specs.Times.{run_of}
use Rattle.large_documents.specs.Places.{IsPlacesFault, places_in}
use Rattle.large_documents.specs.declared.places.PlacesFault.{PlacesFault}
use Rattle.large_documents.specs.declared.places.PlacesFault.TheVariants.{BadForm, Count}
use Rattle.large_documents.specs.declared.places.PlacesFault.TheVariants.{OutOfMemory}

-- ---- no two things

same_places : (read : Option (List ℕ)) (a b : List ℕ) → read ≡ Some a → read ≡ Some b → a ≡ b
same_places read a b h g = cc

not_both : {P : Type 0} (read : Option (List ℕ)) (a : List ℕ) → read ≡ None → read ≡ Some a → P
not_both read a h g = let never : None ≡ Some a = sym h ∙ g in absurd (cc)

one_analysis : (table : Table) (graph other : RecordedGraph) (found others : Findings)
    → AreAnalysed table graph found
    → AreAnalysed table other others
    → (graph ≡ other) × (found ≡ others)
one_analysis table graph other found others a b =
    let same = one_graph table other graph b.is_graph_of a.is_graph_of in (
      sym same,
      analysis-unique graph a.is_graph found others a.is_analysis
          (subst (λ (g : RecordedGraph). IsAnalysis g others) same b.is_analysis),
    )

one_sums : (table : Table) (places : List ℕ) (one other : Report) → TellsPlaces table places one
    → TellsPlaces table places other → one ≡ other
one_sums table places one other a b =
    let same = one_analysis table a.graph b.graph a.found b.found a.are_analysed b.are_analysed in
    a.says
    ∙ ap (λ (g : RecordedGraph). places_of g.costs a.found places) same.0
    ∙ ap (λ (f : Findings). places_of b.graph.costs f places) same.1
    ∙ sym b.says

one_timed : (places : List ℕ) (graph : RecordedGraph) (region : RegionTimes) (run : TimedRun)
    (one other : Report)
    → IsGraph graph
    → TellsTimedSums places graph region run one
    → TellsTimedSums places graph region run other
    → one ≡ other
one_timed places graph region run one other is a b =
    a.says
    ∙ ap (λ (f : Findings). timed_places_of graph region run f places)
    (analysis-unique graph is a.found b.found a.is_analysis b.is_analysis)
    ∙ sym b.says

one_of : (before : ℕ) (table : Table) (places : List ℕ) (times : Option (List ℕ))
    (one other : Report)
    → TellsOfPlaces before table places times one
    → TellsOfPlaces before table places times other
    → one ≡ other
one_of before table places None one other a b = one_sums table places one other a b
one_of before table places (Some times) one other a b =
    one_times (TellsTimedSums places) (one_timed places) before times table one other a b

one_taken : (program rest : List ℕ) (table : Table) (one other : Report)
    → TakesPlaces program rest table one
    → TakesPlaces program rest table other
    → one ≡ other
one_taken program rest table one other a b =
    let before = before_times program rest in
    let places = same_places _ b.places a.places b.are_places.told a.are_places.told in
    one_of before table a.places (rest_part rest) one other a.says
    (subst (λ (xs : List ℕ). TellsOfPlaces before table xs (rest_part rest) other) places b.says)

-- a text that gives places has no fault to report
not_refused : {P : Type 0} (n : ℕ) (text places : List ℕ) (fault : PlacesFault) (output : Report)
    → places_in n text ≡ Some places
    → length places ≡ n
    → IsPlacesFault n text fault
    → TellsFault fault output
    → P
not_refused n text places BadForm output told each is says = not_both _ places is told
not_refused n text places Count output told each is says =
    absurd (is.other (ap length (same_places _ is.places places is.told told) ∙ each))
not_refused n text places OutOfMemory output told each is says = absurd says

one_refusal : (n : ℕ) (text : List ℕ) (fault others : PlacesFault) (one other : Report)
    → IsPlacesFault n text fault
    → IsPlacesFault n text others
    → TellsFault fault one
    → TellsFault others other
    → one ≡ other
one_refusal n text BadForm BadForm one other a b h g = h ∙ sym g
one_refusal n text BadForm Count one other a b h g = not_both _ b.places a b.told
one_refusal n text BadForm OutOfMemory one other a b h g = absurd g
one_refusal n text Count BadForm one other a b h g = not_both _ a.places b a.told
one_refusal n text Count Count one other a b h g = h ∙ sym g
one_refusal n text Count OutOfMemory one other a b h g = absurd g
one_refusal n text OutOfMemory others one other a b h g = absurd h

pub one_places : (program rest : List ℕ) (table : Table) (one other : Report)
    → SaysOfPlaces program rest table one
    → SaysOfPlaces program rest table other
    → one ≡ other
one_places program rest table one other (inl a) (inl b) =
    one_taken program rest table one other a b
one_places program rest table one other (inl a) (inr b) =
    not_refused (length table.segments) (program_part rest) a.places b.fault other
    a.are_places.told a.are_places.each b.is_fault b.says
one_places program rest table one other (inr a) (inl b) =
    not_refused (length table.segments) (program_part rest) b.places a.fault one
    b.are_places.told b.are_places.each a.is_fault a.says
one_places program rest table one other (inr a) (inr b) =
    one_refusal (length table.segments) (program_part rest) a.fault b.fault one other a.is_fault
    b.is_fault a.says b.says

-- ---- something

-- the analysis of a program's segments
analysed : (marks : List Mark) → IsWhole (table_of marks)
    → (graph : RecordedGraph) × (found : Findings) × AreAnalysed (table_of marks) graph found
analysed marks whole =
    let told = (some_slacks (record { version = One; marks = marks; names = [] }) whole).1 in
    (told.graph, told.found, told.are_analysed)

some_timed : (marks : List Mark) (places : List ℕ) → IsWhole (table_of marks)
    → (graph : RecordedGraph) (region : RegionTimes) (segments : List SegmentTimes)
    → IsGraph graph
    → IsGraphOf (table_of marks) graph
    → IsTimedRun (length graph.costs) (Precedes graph) region.threads region.first region.last
    (run_of segments)
    → (output : Report) × TellsTimedSums places graph region (run_of segments) output
some_timed marks places whole graph region segments is of legal =
    let known = analysed marks whole in
    let same = one_graph (table_of marks) known.0 graph known.2.is_graph_of of in (
      timed_places_of graph region (run_of segments) known.1 places,
      record {
        found = known.1;
        is_analysis = subst (λ (g : RecordedGraph). IsAnalysis g known.1) same known.2.is_analysis;
        says = refl;
      },
    )

some_of : (before : ℕ) (marks : List Mark) (places : List ℕ) (times : Option (List ℕ))
    → IsWhole (table_of marks)
    → (output : Report) × TellsOfPlaces before (table_of marks) places times output
some_of before marks places None whole =
    let known = analysed marks whole in (
      places_of known.0.costs known.1 places,
      record { graph = known.0; found = known.1; are_analysed = known.2; says = refl },
    )
some_of before marks places (Some times) whole =
    some_times (table_of marks) (TellsTimedSums places) (some_timed marks places whole) before times
    whole

by_places : (program rest : List ℕ) (marks : List Mark) (read : Option (List ℕ))
    → IsWhole (table_of marks)
    → places_in (length (table_of marks).segments) (program_part rest) ≡ read
    → (output : Report) × SaysOfPlaces program rest (table_of marks) output
by_places program rest marks None whole is = (
  refused_as (codes "BadForm"),
  inr (record { fault = BadForm; is_fault = is; says = refl }),
)
by_places program rest marks (Some places) whole is =
    elim (cases_eq (length places) (length (table_of marks).segments)) [
      | inl each ↦
          let told = some_of (before_times program rest) marks places (rest_part rest) whole in (
            told.0,
            inl (record {
              places = places;
              are_places = record { told = is; each = each };
              says = told.1;
            }),
          )
      | inr other ↦ (
        refused_as (codes "Count"),
        inr (record {
          fault = Count;
          is_fault = record { places = places; told = is; other = other };
          says = refl;
        }),
      )
    ]

pub some_places : (program rest : List ℕ) (marks : List Mark) → IsWhole (table_of marks)
    → (output : Report) × SaysOfPlaces program rest (table_of marks) output
some_places program rest marks whole =
    by_places program rest marks (places_in (length (table_of marks).segments) (program_part rest))
    whole refl
