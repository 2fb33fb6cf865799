-- There is one report on a table.
use Rattle.std.proofs.Common.{◌≡◌, ◌∙◌, ◌≤◌, ℕ, List, [], false, length, sum, refl, sym, inl, inr}
use Rattle.std.proofs.Common.{ap, arith, ◌∷◌}
use Rattle.command_words.specs.declared.large.TableRequest.{TableRequest}
use Rattle.command_words.specs.declared.large.TableRequest.TheVariants.{Curve, Graph, Greedy}
use Rattle.command_words.specs.declared.large.TableRequest.TheVariants.{Slack, WhatIf}
use Rattle.dispatch_core.proofs.Decisions.{IsDecided, decide_both, decide_most}
use Rattle.dispatch_core.proofs.Decisions.{decided_by_equivalent}
use Rattle.dispatch_core.proofs.SomeGraph.{IsWhole, some_graph, whole_marks}
use Rattle.dispatch_core.proofs.StartAndEnd.{one_graph}
use Rattle.dispatch_core.specs.RecordedGraph.{RecordedGraph}
use Rattle.program_text.specs.Marks.{Mark}
use Rattle.program_text.specs.Marks.Mark.{Begins}
use Rattle.program_text.specs.declared.limits.TheConstants.{MOST_WORK}
use Rattle.task_program.specs.Nested.{IsNested}
use Rattle.task_program.specs.ProgramMarks.{ProgramMarks}
use Rattle.task_program.specs.declared.version.Version.TheVariants.{One}
use Rattle.task_segments.proofs.Facts.{segments-at, tasks-at}
use Rattle.task_segments.proofs.LastMoment.{count_read}
use Rattle.task_segments.proofs.Work.{work_read}
use Rattle.task_segments.specs.MarksTable.{IsReading}
use Rattle.task_segments.specs.Moments.{begins_task, last_moment, opens}
use Rattle.task_segments.specs.Table.{Table, costs_of, table_of}
use Rattle.task_segments.specs.declared.limits.TheConstants.{MOST_ROWS}
use Rattle.spanprof_command.proofs.OneOfGraphs.{one_curve, one_greedy, one_slacks, one_trial}
use Rattle.spanprof_command.proofs.SomeReport.{some_curve, some_greedy, some_slacks, some_trial}
use Rattle.spanprof_command.specs.Report.{Report, out_of_memory}
use Rattle.large_command.proofs.Bounds.{all_work_of}
use Rattle.large_command.specs.GraphReports.{TellsGraph, graph_report}
use Rattle.large_command.specs.TableReports.{FitsRows, SaysOfTable, TellsTable}

-- nested marks with a table that fits can be cut
pub reading_of : (marks : List Mark) → IsNested marks → FitsRows (table_of marks) → IsReading marks
reading_of marks nested fits =
    let start : List Mark = Begins false [] ∷ [] in
    let e : List Mark = last_moment marks in
    record {
      nested = nested;
      tasks = omega (arith, fits.tasks, tasks-at e, count_read begins_task start marks);
      segments = omega (arith, fits.segments, segments-at e, count_read opens start marks);
      work = omega (arith, fits.work, all_work_of marks nested, work_read start marks);
    }

pub whole_of : (marks : List Mark) → IsNested marks → FitsRows (table_of marks)
    → IsWhole (table_of marks)
whole_of marks nested fits = whole_marks marks (reading_of marks nested fits)

-- a program with these marks
abbrev program_of : List Mark → ProgramMarks
program_of marks = record { version = One; marks = marks; names = [] }

-- ---- not two

one_graph_told : (table : Table) (one other : Report)
    → TellsGraph table one
    → TellsGraph table other
    → one ≡ other
one_graph_told table one other a b =
    let told : RecordedGraph → Report = λ graph. graph_report table graph in
    a.says ∙ (ap told (one_graph table a.graph b.graph a.is_graph_of b.is_graph_of) ∙ sym b.says)

one_said : (asked : TableRequest) (marks : List Mark) (one other : Report)
    → IsWhole (table_of marks)
    → SaysOfTable asked (table_of marks) one
    → SaysOfTable asked (table_of marks) other
    → one ≡ other
one_said Slack marks one other whole a b = one_slacks (program_of marks) one other a b
one_said (Greedy threads) marks one other whole a b =
    one_greedy threads (program_of marks) whole one other a b
one_said (Curve upto) marks one other whole a b =
    one_curve upto (program_of marks) whole one other a b
one_said (WhatIf changes) marks one other whole a b =
    one_trial changes (program_of marks) one other a b
one_said Graph marks one other whole a b = one_graph_told (table_of marks) one other a b

pub one_of_table : (asked : TableRequest) (marks : List Mark) (one other : Report)
    → IsNested marks
    → TellsTable asked (table_of marks) one
    → TellsTable asked (table_of marks) other
    → one ≡ other
one_of_table asked marks one other nested (inl a) (inl b) =
    one_said asked marks one other (whole_of marks nested a.fits) a.says b.says
one_of_table asked marks one other nested (inl a) (inr b) = absurd (b.larger a.fits)
one_of_table asked marks one other nested (inr a) (inl b) = absurd (a.larger b.fits)
one_of_table asked marks one other nested (inr a) (inr b) = a.says ∙ sym b.says

-- ---- and one

pub fits_or_not : (table : Table) → IsDecided (FitsRows table)
fits_or_not table =
    let segments : ℕ = length table.segments in
    let tasks : ℕ = length table.tasks in
    let work : ℕ = sum (costs_of table) in
    decided_by_equivalent
    ((segments ≤ MOST_ROWS) × ((tasks ≤ MOST_ROWS) × (work ≤ MOST_WORK))) (FitsRows table)
    (λ h. record { segments = h.0; tasks = h.1.0; work = h.1.1 })
    (λ h. (h.segments, (h.tasks, h.work)))
    (decide_both (segments ≤ MOST_ROWS) ((tasks ≤ MOST_ROWS) × (work ≤ MOST_WORK))
    (decide_most segments MOST_ROWS)
    (decide_both (tasks ≤ MOST_ROWS) (work ≤ MOST_WORK) (decide_most tasks MOST_ROWS)
    (decide_most work MOST_WORK)))

some_said : (asked : TableRequest) (marks : List Mark) → IsWhole (table_of marks)
    → (output : Report) × SaysOfTable asked (table_of marks) output
some_said Slack marks whole = some_slacks (program_of marks) whole
some_said (Greedy threads) marks whole = some_greedy threads (program_of marks) whole
some_said (Curve upto) marks whole = some_curve upto (program_of marks) whole
some_said (WhatIf changes) marks whole = some_trial changes (program_of marks) whole
some_said Graph marks whole =
    let table : Table = table_of marks in
    let found = some_graph table whole.sound in (
      graph_report table found.0,
      record { graph = found.0; is_graph_of = found.1; says = refl },
    )

pub some_of_table : (asked : TableRequest) (marks : List Mark)
    → IsNested marks
    → (output : Report) × TellsTable asked (table_of marks) output
some_of_table asked marks nested = elim (fits_or_not (table_of marks)) [
  | inl fits ↦
      let said = some_said asked marks (whole_of marks nested fits) in
      (said.0, inl (record { fits = fits; says = said.1 }))
  | inr larger ↦ (out_of_memory, inr (record { larger = larger; says = refl }))
]
