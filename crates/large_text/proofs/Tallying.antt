-- What a tally holds after one more mark.
use Rattle.std.proofs.Common.{ℕ, ◌≡◌, arith, ◌≤◌, length, subst, List, Option, Some, None, ◌∙◌, false, [], ◌∷◌}
use Rattle.std.specs.Option.{IfSome, is_some}
use Rattle.task_program.specs.Nested.{IsNested}
use Rattle.task_segments.specs.Moments.{last_moment}
use Rattle.task_segments.specs.Table.{Table, table_of}
use Rattle.large_text.specs.declared.tally.Tally.{Tally}
use Rattle.std.specs.String.{string_bytes}
use Rattle.task_program.specs.Canonical.{canonical_text}
use Rattle.large_text.specs.declared.printer.Printer.{Printer}
use Rattle.large_text.specs.Measured.{FitsTable, IsCanonicalOf, MeasuresText, TalliesText}
use Rattle.large_text.specs.Measured.{IsTableOfText}
use Rattle.program_text.specs.Marks.{Mark}
use Rattle.program_text.specs.Marks.Mark.{Begins}
use Rattle.task_segments.specs.MarkCutting.{AreWithin, CanTake, HasRoomForOne, Tables}
use Rattle.task_segments.specs.declared.mark_cutter.MarkCutter.{MarkCutter}
use Rattle.task_segments.proofs.MarkCutting.{room_for_one}
use Rattle.online_span.specs.Measuring.{Measures}
use Rattle.std.specs.Prelude.{IsTrue, nat_le}
use Rattle.std.proofs.lemmas.Bool.Decides.{nat_tests}
use Rattle.program_text.specs.Limits.{work_of}
use Rattle.program_text.specs.declared.limits.TheConstants.{MOST_WORK}
use Rattle.task_segments.proofs.Work.{work_read}
use Rattle.large_text.proofs.ReadingTexts.{nested_of}
use Rattle.large_text.specs.Tallied.{CanEnter, Tallies, IsWholeTally, keeps_rows}
use Rattle.std.proofs.Common.{ap}
use Rattle.task_segments.specs.MarksTable.{IsReading}
use Rattle.task_segments.specs.Moments.{begins_task, opens}
use Rattle.task_segments.specs.declared.table.Segment.{Segment}
use Rattle.task_segments.proofs.Rows.{rows-length}
use Rattle.task_segments.proofs.Cuts.{tasks-count}
use Rattle.task_segments.proofs.LastMoment.{count_read}

-- the rows can take a mark where there is room
pub can_enter : (rows : MarkCutter) (mark : Mark) → CanEnter rows mark → HasRoomForOne rows
    → CanTake rows mark
can_enter rows mark can room = record {
  moment = can.moment;
  tables = can.tables;
  some_open = can.fits.fits.some_open;
  grouped = can.fits.fits.grouped;
  room = room_for_one rows can.moment mark can.tables room can.fits.work;
}

-- ---- a whole text

pub of_tally : (text : List ℕ) (tally : Tally)
    → TalliesText text tally
    → MeasuresText text tally.meter
of_tally text tally h = record {
  program = h.program;
  stands = h.stands;
  right = h.right;
  measures = h.measures.measures;
}

pub whole_tally : (text : List ℕ) (tally : Tally)
    → TalliesText text tally
    → IsWholeTally tally
whole_tally text tally h = record {
  marks = h.program.marks;
  nested = nested_of text h.program h.stands;
  tallies = h.measures;
}

pub told_table : (text : List ℕ) (tally : Tally) (found : Option Table)
    → TalliesText text tally
    → IfSome found (λ (table : Table). (marks : List Mark) → IsNested marks
    → Tallies tally (last_moment marks) → table ≡ table_of marks)
    → IfSome found (IsTableOfText text)
told_table text tally None h is = tt
told_table text tally (Some table) h is = record {
  program = h.program;
  stands = h.stands;
  right = h.right;
  is = is h.program.marks (nested_of text h.program h.stands) h.measures;
}

-- the rows that are kept have the marks too
pub rows_of : (tally : Tally) (rows : MarkCutter) (marks : List Mark)
    → tally.rows ≡ Some rows
    → Tallies tally (last_moment marks)
    → Tables rows (last_moment marks)
rows_of tally rows marks is h =
    subst
    (λ (found : Option MarkCutter).
    IfSome found (λ (rows : MarkCutter). Tables rows (last_moment marks)))
    is h.rows

-- the work that the meter answers is that of the marks
pub within_work : (tally : Tally) (marks : List Mark) (total : ℕ)
    → Tallies tally (last_moment marks)
    → ((moment : List Mark) → Measures tally.meter moment → total ≡ work_of moment)
    → IsTrue (nat_le total MOST_WORK)
    → work_of marks ≤ MOST_WORK
within_work tally marks total h told is =
    let same = told (last_moment marks) h.measures in
    let read = work_read (Begins false [] ∷ []) marks in
    let little : total ≤ MOST_WORK = grind (arith, nat_tests) in
    omega (arith, same, read, little)

pub told_rows : (tally : Tally) (rows : MarkCutter) (total : ℕ) (found : Option Table)
    → tally.rows ≡ Some rows
    → ((moment : List Mark) → Measures tally.meter moment → total ≡ work_of moment)
    → IfSome found (λ (table : Table). (marks : List Mark) → IsNested marks
    → Tables rows (last_moment marks)
    → (IsTrue (nat_le total MOST_WORK) → work_of marks ≤ MOST_WORK) → table ≡ table_of marks)
    → IfSome found (λ (table : Table). (marks : List Mark) → IsNested marks
    → Tallies tally (last_moment marks) → table ≡ table_of marks)
told_rows tally rows total None is told h = tt
told_rows tally rows total (Some table) is told h = λ marks nested tallies.
    h marks nested (rows_of tally rows marks is tallies) (within_work tally marks total tallies told)

-- the work that the meter answers is within the limit where that of the marks is
pub work_within : (tally : Tally) (marks : List Mark) (total : ℕ)
    → Tallies tally (last_moment marks)
    → ((moment : List Mark) → Measures tally.meter moment → total ≡ work_of moment)
    → work_of marks ≤ MOST_WORK
    → IsTrue (nat_le total MOST_WORK)
work_within tally marks total h told few =
    let same = told (last_moment marks) h.measures in
    let read = work_read (Begins false [] ∷ []) marks in
    let little : total ≤ MOST_WORK = omega (arith, same, read, few) in
    grind (arith, nat_tests)

-- the rows are within the limit where the marks are
pub rows_within : (rows : MarkCutter) (marks : List Mark)
    → IsReading marks
    → Tables rows (last_moment marks)
    → AreWithin rows
rows_within rows marks reading h =
    let e = last_moment marks in
    let segments = ap (λ (rows : List Segment). length rows) h.cuts.segments ∙ rows-length e in
    let start : List Mark = Begins false [] ∷ [] in
    record {
      tasks = omega (
        arith,
        reading.tasks,
        tasks-count rows.cutter e h.cuts,
        count_read begins_task start marks,
      );
      segments = omega (arith, reading.segments, segments, count_read opens start marks);
    }

pub told_some : (text : List ℕ) (tally : Tally) (found : Option Table)
    → TalliesText text tally
    → (IsTrue (keeps_rows tally) → (marks : List Mark) → IsReading marks
    → Tallies tally (last_moment marks) → IsTrue (is_some found))
    → IsTrue (keeps_rows tally)
    → FitsTable text
    → IsTrue (is_some found)
told_some text tally found h some kept fits =
    some kept h.program.marks (fits h.program h.stands) h.measures

pub told_text : {V : Type 0} (text : List ℕ) (tally : Tally) (found : Option V)
    (bytes : V → List ℕ)
    → TalliesText text tally
    → IfSome found (λ (written : V). (wanted : List ℕ)
    → IfSome tally.printer (λ (printer : Printer). string_bytes printer.text ≡ wanted)
    → bytes written ≡ wanted)
    → IfSome found (λ (written : V). IsCanonicalOf text (bytes written))
told_text text tally None bytes h is = tt
told_text text tally (Some written) bytes h is = record {
  program = h.program;
  stands = h.stands;
  right = h.right;
  is = is (canonical_text h.program) h.prints;
}
