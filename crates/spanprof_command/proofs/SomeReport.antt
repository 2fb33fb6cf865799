-- Each words and input have a report.
use Rattle.std.proofs.Common.{ℕ, zero, suc, ◌+◌, ◌<◌, ◌≤◌, ◌≡◌, ◌⊎◌, ◌∙◌, Bool, true, false, List}
use Rattle.std.proofs.Common.{[], ◌∷◌, ◌++◌, Option, Some, None, Result, Ok, Err, length, sum}
use Rattle.std.proofs.Common.{get_or, refl, sym, subst, arith, inl, inr}
use Rattle.std.specs.Prelude.{if◌then◌else◌, nat_le, nat_lt}
use Rattle.std.proofs.lemmas.Bool.{cases_lt, ltb-false}
use Rattle.std.proofs.lemmas.List.{get_or_append_left, get_or_push, length-set, length_push}
use Rattle.std.proofs.lemmas.Option.{get_or_from_slice_get, slice_get_within}
use Rattle.command_words.specs.Request.{request_of}
use Rattle.command_words.specs.declared.changes.Change.{Change}
use Rattle.command_words.specs.declared.request.Request.{Request}
use Rattle.command_words.specs.declared.request.Request.TheVariants.{Certify, Check, Curve, Greedy}
use Rattle.command_words.specs.declared.request.Request.TheVariants.{Replay, Run, Show, Slack, Span}
use Rattle.command_words.specs.declared.request.Request.TheVariants.{WhatIf}
use Rattle.task_program.proofs.ReadWhole.{found_tree_of, tree_is_program}
use Rattle.task_program.proofs.Readings.{read_as}
use Rattle.task_program.specs.Canonical.{canonical_text}
use Rattle.task_program.specs.Document.{program_part, rest_part}
use Rattle.task_program.specs.ProgramMarks.{ProgramMarks}
use Rattle.task_program.specs.ReadInVersion.{program_of}
use Rattle.task_program.specs.Trees.{HasTree}
use Rattle.program_text.specs.declared.fault.ReadFault.{ReadFault}
use Rattle.program_text.specs.declared.limits.TheConstants.{MOST_WORK}
use Rattle.task_segments.proofs.SameSchedules.{same_legal, same_span}
use Rattle.task_segments.proofs.StartsAndTails.{IsSpan-earliest}
use Rattle.task_segments.specs.Precedence.{MustPrecede}
use Rattle.task_segments.specs.Schedule.{IsSpan, end_of}
use Rattle.task_segments.specs.Table.{Table, costs_of, table_of}
use Rattle.depend_table.proofs.Chains.{edge_reaches}
use Rattle.depend_table.specs.KeptEdges.{IsKeptEdge}
use Rattle.dispatch_core.proofs.Carried.{graph_ways, graph_within}
use Rattle.dispatch_core.proofs.StartAndEnd.{graph_of_program}
use Rattle.dispatch_core.specs.Facts.{IsSoundTable}
use Rattle.dispatch_core.specs.Graph.{IsGraphOf}
use Rattle.dispatch_core.specs.Mix.{mix_value}
use Rattle.dispatch_core.specs.RecordedGraph.{IsGraph, Precedes, RecordedGraph}
use Rattle.dispatch_core.specs.Values.{IsValue}
use Rattle.greedy_sim.proofs.Existence.{some_run}
use Rattle.greedy_sim.proofs.SameGreedy.{same_run}
use Rattle.greedy_sim.specs.Greedy.{IsCurve, IsGreedyEnd, IsGreedyRun}
use Rattle.greedy_sim.specs.declared.greedy.TheConstants.{MOST_THREADS}
use Rattle.span_analysis.proofs.Existence.{earliest_exists}
use Rattle.span_analysis.proofs.PassSteps.{IsAscending-graph}
use Rattle.span_cert.proofs.SomeVerdict.{some_verdict, some_verdict_of}
use Rattle.span_cert.specs.Analysed.{claim_of}
use Rattle.span_cert.specs.Written.{certificate}
use Rattle.whatif_costs.specs.Changed.{with_cost, refusal_of}
use Rattle.whatif_costs.specs.declared.fault.WhatFault.{WhatFault}
use Rattle.whatif_costs.specs.declared.fault.WhatFault.TheVariants.{CostTooLarge, UnknownSegment}
use Rattle.whatif_costs.specs.declared.fault.WhatFault.TheVariants.{WorkTooLarge}
use Rattle.worker_run.specs.AllValues.{AreAllValues}
use Rattle.worker_run.specs.Answer.{IsWorkerCount}
use Rattle.dispatch_core.proofs.Decisions.{IsDecided, decided_by_equivalent, decide_both}
use Rattle.dispatch_core.proofs.Decisions.{decide_most}
use Rattle.spanprof_command.proofs.Bounds.{carried_run}
use Rattle.spanprof_command.proofs.OneReport.{span_output}
use Rattle.spanprof_command.proofs.SomeAnalysis.{IsAnalysed, some_analysed}
use Rattle.dispatch_core.proofs.SomeGraph.{IsWhole, first_values, some_graph}
use Rattle.dispatch_core.proofs.SomeGraph.{whole_table}
use Rattle.dispatch_core.specs.declared.event.TheConstants.{MOST_WORKERS}
use Rattle.spanprof_command.proofs.SomeReplay.{some_said}
use Rattle.spanprof_command.specs.declared.events.TheConstants.{MOST_EVENTS}
use Rattle.spanprof_command.proofs.TriedSpans.{same_as, tells_trial}
use Rattle.spanprof_command.specs.Certificates.{AnswersCheck, AnswersClaim, Certifies, report_of}
use Rattle.spanprof_command.specs.GreedyRuns.{Curves, GreedyRuns, IsThreadCount, curve_header}
use Rattle.spanprof_command.specs.GreedyRuns.{curve_row, greedy_header, greedy_row, thread_count}
use Rattle.spanprof_command.specs.OnProgram.{OnProgram}
use Rattle.spanprof_command.specs.OneReport.{HasReport}
use Rattle.spanprof_command.specs.Report.{Report, input_too_long, program_refusal, wrong_words}
use Rattle.spanprof_command.specs.Replaying.{SaysOfEvents}
use Rattle.spanprof_command.specs.Reports.{Answers, AnswersWithin, ReportsBy, Shows, Spans}
use Rattle.spanprof_command.specs.Slacks.{Slacks, slack_header, slack_row}
use Rattle.csv_table.specs.Tables.{numbered_table}
use Rattle.spanprof_command.specs.Trials.{Trials, TriesChanges, after_changes, change_refusal}
use Rattle.spanprof_command.specs.Trials.{spans_told, unless_refused}
use Rattle.spanprof_command.specs.WorkerRuns.{WorkerRuns, run_told, worker_count}
use Rattle.spanprof_command.specs.declared.report.Status.TheVariants.{Done}
use Rattle.counted_io.specs.declared.input.TheConstants.{LARGEST_INPUT}

-- of each program a command says something
abbrev pub SaysSome : (ProgramMarks → Report → Type 0) → Type 0
SaysSome Says =
    (program : ProgramMarks) → IsWhole (table_of program.marks)
    → (output : Report) × Says program output

on_read : (Says : ProgramMarks → Report → Type 0) → SaysSome Says
    → (input : List ℕ) (read : Result ProgramMarks ReadFault) → program_of input ≡ read
    → (output : Report) × OnProgram Says input output
on_read Says some input (Ok program) is =
    let tree : HasTree input program = found_tree_of input program is in
    let said = some program (whole_table program (tree_is_program input program tree)) in
    (said.0, inl (record { program = program; tree = tree; says = said.1 }))
on_read Says some input (Err fault) is = (
  program_refusal fault,
  inr (record { fault = fault; is_fault = read_as input (Err fault) is; says = refl }),
)

on_program : (Says : ProgramMarks → Report → Type 0) → SaysSome Says → (input : List ℕ)
    → (output : Report) × OnProgram Says input output
on_program Says some input = on_read Says some input (program_of input) refl

-- ---- span, show, slack and certify

-- every program has an answer to `span`
some_spans : SaysSome Spans
some_spans program whole =
    let table : Table = table_of program.marks in
    let analysed : IsAnalysed table = some_analysed table whole in
    let are = analysed.are_analysed.are_findings in (
      span_output table analysed.found.span,
      record {
        span = analysed.found.span;
        is_span = are.greatest_sum;
        is_least_end = are.least_end;
        says = refl;
      },
    )

some_show : SaysSome Shows
some_show program whole = (record { text = canonical_text program; status = Done }, refl)

-- and to `slack`
pub some_slacks : SaysSome Slacks
some_slacks program whole =
    let table : Table = table_of program.marks in
    let analysed : IsAnalysed table = some_analysed table whole in (
      record {
        text = numbered_table slack_header (slack_row table analysed.found) 0
            (length table.segments);
        status = Done;
      },
      record {
        graph = analysed.graph;
        found = analysed.found;
        are_analysed = analysed.are_analysed;
        says = refl;
      },
    )

-- and to `certify`
pub some_certificate : SaysSome Certifies
some_certificate program whole =
    let analysed = some_analysed (table_of program.marks) whole in (
      record { text = certificate program (claim_of analysed.found); status = Done },
      record {
        graph = analysed.graph;
        found = analysed.found;
        are_analysed = analysed.are_analysed;
        says = refl;
      },
    )

-- ---- check

some_check : (document : List ℕ) → (output : Report) × AnswersCheck document output
some_check document =
    let v = some_verdict document in
    (report_of v.0, record { verdict = v.0; judged = v.2; is_one = v.1; says = refl })

pub some_claim : (table : Table) (text : List ℕ) → IsSoundTable table
    → (output : Report) × AnswersClaim table text output
some_claim table text sound =
    let v = some_verdict_of table text sound in
    (report_of v.0, record { verdict = v.0; judged = v.2; is_one = v.1; says = refl })

-- ---- run

-- a value for each segment
all_values : (table : Table) (value_of : ℕ → ℕ → ℕ → ℕ) → IsSoundTable table
    → (values : List ℕ) × AreAllValues table value_of values
all_values table value_of sound =
    let count : ℕ = length table.segments in
    let all = first_values table value_of sound count
    (omega arith) in (
      all.0,
      record {
        each = all.1.each;
        are_values = λ s value is.
            let within : s < length all.0 = slice_get_within all.0 s value is in
            let same : get_or all.0 s 0 ≡ value = get_or_from_slice_get all.0 s value 0 is in
            subst (λ (v : ℕ). IsValue table value_of s v) same
            (all.1.are s (omega (arith, within, all.1.each)));
      },
    )

decide_workers : (workers : ℕ) → IsDecided (IsWorkerCount workers)
decide_workers workers =
    decided_by_equivalent ((1 ≤ workers) × (workers ≤ MOST_WORKERS)) (IsWorkerCount workers)
    (λ h. h) (λ h. h)
    (decide_both (1 ≤ workers) (workers ≤ MOST_WORKERS) (decide_most 1 workers)
    (decide_most workers MOST_WORKERS))

-- every program has an answer to a run on worker threads
some_worker_run : (workers : ℕ) → SaysSome (WorkerRuns workers)
some_worker_run workers program whole =
    let table : Table = table_of program.marks in
    elim (decide_workers workers) [
      | inr outside ↦ (worker_count, inl (record { outside = outside; says = refl }))
      | inl within ↦
          let graph = some_graph table whole.sound in
          let values = all_values table mix_value whole.sound in (
            run_told graph.0 values.0,
            inr
                (record {
                  within = within;
                  graph = graph.0;
                  is_graph_of = graph.1;
                  values = values.0;
                  are_values = values.1;
                  says = refl;
                }),
          )
    ]

-- ---- greedy and curve

-- a number of threads is in range, or is refused
thread_count_or_not : (threads : ℕ)
    → ((threads < 1) ⊎ (MOST_THREADS < threads)) ⊎ IsThreadCount threads
thread_count_or_not threads = elim (cases_lt threads 1) [
  | inl none ↦ inl (inl none)
  | inr some ↦ elim (cases_lt MOST_THREADS threads) [
    | inl many ↦ inl (inr many)
    | inr few ↦ inr (record { some = some; few = few })
  ]
]

-- the greedy run of a program's graph is that of the program
of_graph : (table : Table) (graph : RecordedGraph) (p : ℕ) (starts : List ℕ)
    (threads : List (Option ℕ))
    → IsSoundTable table
    → IsGraphOf table graph
    → IsGreedyRun graph.costs (Precedes graph) p starts threads
    → IsGreedyRun (costs_of table) (MustPrecede table) p starts threads
of_graph table graph p starts threads sound of run =
    let within = graph_within table graph sound of in
    let ways = graph_ways table graph sound of in
    carried_run table graph p starts threads of
    (λ q xs ts is. (same_run graph.costs (MustPrecede table) (Precedes graph)
    sound.goes_up.ascending within ways
    (same_legal (MustPrecede table) (Precedes graph) sound.goes_up.ascending within ways
    graph.costs) q xs ts).1 is)
    run

some_greedy_run : (table : Table) (p : ℕ)
    → IsWhole table
    → 0 < p
    → (starts : List ℕ)
    × (threads : List (Option ℕ))
    × IsGreedyRun (costs_of table) (MustPrecede table) p starts threads
some_greedy_run table p whole some =
    let graph : (graph : RecordedGraph) × IsGraphOf table graph = some_graph table whole.sound in
    let run = some_run graph.0 p (graph_of_program table graph.0 whole.sound graph.1) some in
    (run.0, run.1, of_graph table graph.0 p run.0 run.1 whole.sound graph.1 run.2)

-- and to a greedy run
pub some_greedy : (count : ℕ) → SaysSome (GreedyRuns count)
some_greedy count program whole =
    let table : Table = table_of program.marks in
    elim (thread_count_or_not count) [
      | inl outside ↦ (thread_count, inl (record { outside = outside; says = refl }))
      | inr within ↦
          let run = some_greedy_run table count whole (omega (arith, within.some)) in (
            record {
              text = numbered_table greedy_header (greedy_row (costs_of table) run.0 run.1) 0
                  (length table.segments);
              status = Done;
            },
            inr (record {
              within = within;
              starts = run.0;
              threads = run.1;
              is_run = run.2;
              says = refl;
            }),
          )
    ]

some_end : (table : Table) (p : ℕ) → IsWhole table → 0 < p
    → (end : ℕ) × IsGreedyEnd (costs_of table) (MustPrecede table) p end
some_end table p whole some =
    let run = some_greedy_run table p whole some in
    (end_of (costs_of table) run.0, (run.0, run.1, run.2, refl))

-- where each number of threads has an end there is a curve
some_ends : (costs : List ℕ) (R : ℕ → ℕ → Type 0) (upto : ℕ)
    → ((p : ℕ) → 0 < p → (end : ℕ) × IsGreedyEnd costs R p end)
    → (ends : List ℕ) × IsCurve costs R upto ends
some_ends costs R zero some_end_on =
    ([], record { each = refl; at_each = λ k less. absurd (omega (arith, less)) })
some_ends costs R (suc n) some_end_on =
    let before : (ends : List ℕ) × IsCurve costs R n ends = some_ends costs R n some_end_on in
    let next : (end : ℕ) × IsGreedyEnd costs R (n + 1) end = some_end_on (n + 1) (omega arith) in
    let each = before.1.each in (
      before.0 ++ next.0 ∷ [],
      record {
        each = length_push before.0 next.0 ∙ omega (arith, each);
        at_each = λ k less. elim (cases_lt k n) [
          | inl below ↦
              let same = get_or_append_left before.0 (next.0 ∷ []) 0 k (omega (arith, below, each))
              in
              subst (λ (e : ℕ). IsGreedyEnd costs R (k + 1) e) (sym same)
              (before.1.at_each k below)
          | inr last ↦
              let is_last : n ≡ k = omega (arith, less, last) in
              let same = get_or_push before.0 next.0 0 n each in
              let P : ℕ → Type 0 =
              λ j. IsGreedyEnd costs R (j + 1) (get_or (before.0 ++ next.0 ∷ []) j 0) in
              subst P is_last (subst (λ (e : ℕ). IsGreedyEnd costs R (n + 1) e) (sym same) next.1)
        ];
      },
    )

-- every program has an answer to `curve`
pub some_curve : (upto : ℕ) → SaysSome (Curves upto)
some_curve upto program whole =
    let table : Table = table_of program.marks in
    elim (thread_count_or_not upto) [
      | inl outside ↦ (thread_count, inl (record { outside = outside; says = refl }))
      | inr within ↦
          let analysed : IsAnalysed table = some_analysed table whole in
          let span : ℕ = analysed.found.span in
          let ends = some_ends (costs_of table) (MustPrecede table) upto
          (λ p some. some_end table p whole some) in (
            record {
              text = numbered_table curve_header
                  (curve_row (sum (costs_of table)) span ends.0) 1 upto;
              status = Done;
            },
            inr (record {
              within = within;
              ends = ends.0;
              is_curve = ends.1;
              span = span;
              is_span = analysed.are_analysed.are_findings.greatest_sum;
              says = refl;
            }),
          )
    ]

-- ---- whatif

-- a change that is not refused leaves no more work than a program may have
within_work : (unknown large heavy : Bool)
    → (if unknown then Some UnknownSegment else
    (if large then Some CostTooLarge else (if heavy then Some WorkTooLarge else None))) ≡ None
    → heavy ≡ false
within_work false false false is = refl
within_work false false true is = absurd cc
within_work false true heavy is = absurd cc
within_work true large heavy is = absurd cc

-- a graph stays one with a cost that may be put in
changed_graph : (graph : RecordedGraph) (s cost : ℕ)
    → IsGraph graph
    → refusal_of graph s cost ≡ None
    → IsGraph (with_cost graph s cost)
changed_graph graph s cost is allowed =
    let each = length-set graph.costs s cost in
    let some = is.some in
    let few = is.few in
    record {
      each = is.each ∙ sym each;
      some = omega (arith, each, some);
      few = omega (arith, each, few);
      small = ltb-false MOST_WORK (sum (with_cost graph s cost).costs)
          (within_work (nat_le (length graph.costs) s) (nat_lt MOST_WORK cost)
          (nat_lt MOST_WORK (sum (with_cost graph s cost).costs)) allowed);
      smaller = is.smaller;
      ascending = is.ascending;
      reached = λ t later known. is.reached t later (omega (arith, known, each));
    }

none_refused : (refusal : Option WhatFault) (next : Result RecordedGraph WhatFault)
    (tried : RecordedGraph)
    → unless_refused refusal next ≡ Ok tried → (refusal ≡ None) × (next ≡ Ok tried)
none_refused None next tried is = (refl, is)
none_refused (Some why) next tried is = absurd cc

tried_graph : (graph tried : RecordedGraph) (changes : List Change) → IsGraph graph
    → after_changes graph changes ≡ Ok tried → IsGraph tried
tried_graph graph tried [] is all = subst IsGraph (same_as graph tried all) is
tried_graph graph tried (change ∷ changes) is all =
    let next : RecordedGraph = with_cost graph change.segment change.cost in
    let step = none_refused (refusal_of graph change.segment change.cost)
    (after_changes next changes) tried all in
    tried_graph next tried changes (changed_graph graph change.segment change.cost is step.0) step.1

some_span : (graph : RecordedGraph)
    → IsGraph graph
    → (span : ℕ) × IsSpan graph.costs (Precedes graph) span
some_span graph is =
    let starts = earliest_exists graph is in (
      end_of graph.costs starts.0,
      IsSpan-earliest graph.costs (Precedes graph) starts.0
          (IsAscending-graph graph is) starts.1 is.some,
    )

-- changes that are not refused have spans before and after
tries : (table : Table) (graph : RecordedGraph) (changes : List Change)
    (tried : Result RecordedGraph WhatFault)
    → IsWhole table
    → IsGraphOf table graph
    → after_changes graph changes ≡ tried
    → (output : Report) × TriesChanges changes table output
tries table graph changes (Err why) whole of all = (
  change_refusal why,
  record {
    graph = graph;
    is_graph_of = of;
    says = inl (record { why = why; refused = all; says = refl });
  },
)
tries table graph changes (Ok tried) whole of all =
    let is : IsGraph graph = graph_of_program table graph whole.sound of in
    let span = some_span tried (tried_graph graph tried changes is all) in
    let was : (span : ℕ) × IsSpan graph.costs (Precedes graph) span = some_span graph is in
    let spans =
    same_span (MustPrecede table) (IsKeptEdge table) whole.sound.goes_up.ascending
    whole.sound.chains.within
    (edge_reaches table whole.nested whole.grouped) in
    let output : Report = spans_told (sum tried.costs) span.0 was.0 in (
      output,
      tells_trial table graph graph tried changes
          (sum tried.costs) span.0 was.0 of refl all spans span.1 was.1 refl output refl,
    )

pub some_trial : (changes : List Change) → SaysSome (Trials changes)
some_trial changes program whole =
    let table : Table = table_of program.marks in
    let graph : (graph : RecordedGraph) × IsGraphOf table graph = some_graph table whole.sound in
    tries table graph.0 changes (after_changes graph.0 changes) whole graph.1 refl

-- ---- each command

some_answer : (asked : Request) (input : List ℕ) → (output : Report) × Answers asked input output
some_answer Span input = on_program Spans some_spans input
some_answer Show input = on_program Shows some_show input
some_answer Replay input =
    on_program (λ program. SaysOfEvents MOST_EVENTS (rest_part input) (table_of program.marks))
    (λ program whole. some_said MOST_EVENTS (rest_part input) (table_of program.marks) whole.sound)
    (program_part input)
some_answer (Run workers) input = on_program (WorkerRuns workers) (some_worker_run workers) input
some_answer Slack input = on_program Slacks some_slacks input
some_answer Certify input = on_program Certifies some_certificate input
some_answer Check input = some_check input
some_answer (Greedy threads) input = on_program (GreedyRuns threads) (some_greedy threads) input
some_answer (Curve upto) input = on_program (Curves upto) (some_curve upto) input
some_answer (WhatIf changes) input = on_program (Trials changes) (some_trial changes) input

some_within : (asked : Request) (input : List ℕ)
    → (output : Report) × AnswersWithin asked input output
some_within asked input = elim (cases_lt LARGEST_INPUT (length input)) [
  | inl longer ↦ (input_too_long, inl (record { longer = longer; says = refl }))
  | inr fits ↦
      let answer : (output : Report) × Answers asked input output = some_answer asked input in
      (answer.0, inr (record { fits = fits; answers = answer.1 }))
]

some_by : (asked : Option Request) (input : List ℕ)
    → (output : Report) × ReportsBy asked input output
some_by None input = (wrong_words, refl)
some_by (Some asked) input = some_within asked input

pub some_report : (words : List (List ℕ)) (input : List ℕ) → HasReport words input
some_report words input = some_by (request_of words) input
