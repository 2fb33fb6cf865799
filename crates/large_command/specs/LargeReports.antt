-- The report of a text or a document of any size: one text and one status.
use Rattle.std.specs.Prelude.{◌≡◌, ◌⊎◌, ◌+◌, ℕ, List, [], ◌∷◌, ◌++◌, codes}
use Rattle.std.specs.Prelude.{Option, Some}
use Rattle.command_words.specs.declared.large.LargeRequest.{LargeRequest}
use Rattle.command_words.specs.declared.large.LargeRequest.TheVariants.{OfDocument, OfMeter, OfTable}
use Rattle.command_words.specs.declared.large.LargeRequest.TheVariants.{OfText}
use Rattle.command_words.specs.declared.large.MeterRequest.{MeterRequest}
use Rattle.command_words.specs.declared.large.MeterRequest.TheVariants.{Bounds, Numbers}
use Rattle.program_text.specs.declared.fault.ReadFault.{ReadFault}
use Rattle.program_text.specs.Document.{program_part}
use Rattle.program_text.specs.Marks.{Mark}
use Rattle.task_program.specs.Nested.{IsNested}
use Rattle.task_program.specs.ProgramMarks.{ProgramMarks}
use Rattle.task_program.specs.Limits.{work_of}
use Rattle.task_segments.specs.Moments.{last_moment, segments_so_far, tasks_so_far}
use Rattle.task_segments.specs.Table.{table_of}
use Rattle.online_span.specs.declared.meter.Meter.{Meter}
use Rattle.online_span.specs.Measuring.{Measures}
use Rattle.online_span.specs.Spans.{IsSpanOf}
use Rattle.large_text.specs.LargeTexts.{FitsText, IsLargeFault, IsLargeRight, StandsForLarge}
use Rattle.spanprof_command.specs.GreedyRuns.{bound_of, least_of}
use Rattle.csv_table.specs.Tables.{numbered_table}
use Rattle.spanprof_command.specs.Report.{Report, input_too_long, number_line}
use Rattle.spanprof_command.specs.Report.{program_refusal}
use Rattle.spanprof_command.specs.declared.report.Status.TheVariants.{Done}
use Rattle.large_command.specs.DocumentReports.{TellsDocument}
use Rattle.large_command.specs.Lengths.{IsTooLong}
use Rattle.large_command.specs.TableReports.{TellsTable}
use Rattle.large_command.specs.TextReports.{TellsText}

-- a number each for the tasks besides the root, the segments, the work and the span
abbrev pub numbers_report : (tasks segments work span : ℕ) → Report
numbers_report
    tasks
    segments
    work
    span = record {
      text = number_line (codes "tasks") tasks
          ++ (number_line (codes "segments") segments
          ++ (number_line (codes "work") work ++ number_line (codes "span") span));
      status = Done;
    }

-- the numbers of a program with these marks
pub record TellsNumbers (marks : List Mark) (output : Report) : Type 0 where
  pub tasks : ℕ
  pub span : ℕ
  -- the root has begun too
  pub all_tasks : tasks + 1 ≡ tasks_so_far (last_moment marks)
  -- the greatest sum of a chain of segments, each of which has to precede the next; some legal
  -- schedule ends there, and none ends sooner
  pub is_span : IsSpanOf marks span
  pub says : output
      ≡ numbers_report tasks (segments_so_far (last_moment marks)) (work_of (last_moment marks))
      span

-- ---- bounds

abbrev pub bounds_header : List (List ℕ)
bounds_header = codes "threads" ∷ codes "least" ∷ codes "bound" ∷ []

-- a number of threads, an end before which no legal schedule on them ends, and one after which no
-- greedy schedule does
abbrev pub bounds_row : (work span p : ℕ) → List (Option ℕ)
bounds_row work span p =
    Some p ∷ Some (least_of work span p) ∷ Some (bound_of work span p) ∷ []

-- a row for one thread, two, and so on
abbrev pub bounds_report : (upto work span : ℕ) → Report
bounds_report upto work span = record {
  text = numbered_table bounds_header (bounds_row work span) 1 upto;
  status = Done;
}

-- the bounds of a program with these marks
pub record TellsBounds (upto : ℕ) (marks : List Mark) (output : Report) : Type 0 where
  pub span : ℕ
  pub is_span : IsSpanOf marks span
  pub says : output ≡ bounds_report upto (work_of (last_moment marks)) span

-- ---- what is asked of an input

abbrev pub TellsMarks : MeterRequest → List Mark → Report → Type 0
TellsMarks Numbers marks output = TellsNumbers marks output
TellsMarks (Bounds upto) marks output = TellsBounds upto marks output

-- the text of the program, which is all of the input but of a document
abbrev pub text_of : LargeRequest → List ℕ → List ℕ
text_of (OfMeter asked) input = input
text_of (OfTable asked) input = input
text_of (OfText asked) input = input
text_of (OfDocument asked) input = program_part input

-- the report on this program, and on a document that begins with it
abbrev pub Tells : LargeRequest → List ℕ → ProgramMarks → Report → Type 0
Tells (OfMeter asked) input program output = TellsMarks asked program.marks output
Tells (OfTable asked) input program output = TellsTable asked (table_of program.marks) output
Tells (OfText asked) input program output = TellsText asked program output
Tells (OfDocument asked) input program output =
    TellsDocument asked input (table_of program.marks) output

-- a meter has taken the marks of a whole program
pub record IsOfProgram (meter : Meter) : Type 0 where
  pub marks : List Mark
  pub nested : IsNested marks
  pub measures : Measures meter (last_moment marks)

-- the report on the marks that a meter has taken
abbrev pub TellsMeter : MeterRequest → Meter → Report → Type 0
TellsMeter asked meter output =
    (marks : List Mark) → (nested : IsNested marks)
    → Measures meter (last_moment marks) → TellsMarks asked marks output

-- the text stands for a program, and no token of it is wrong: what is asked is answered
pub record AcceptsText (asked : LargeRequest) (input : List ℕ) (output : Report) : Type 0 where
  pub program : ProgramMarks
  pub stands : StandsForLarge (text_of asked input) program
  pub right : IsLargeRight (text_of asked input)
  pub says : Tells asked input program output

-- something is wrong with it, and the line of its first fault is written
pub record RefusesText (text : List ℕ) (output : Report) : Type 0 where
  pub fault : ReadFault
  pub is_fault : IsLargeFault text fault
  pub says : output ≡ program_refusal fault

abbrev pub Answers : LargeRequest → List ℕ → Report → Type 0
Answers asked input output = AcceptsText asked input output
    ⊎ RefusesText (text_of asked input) output

-- an input that is too long is refused, whatever it holds
pub record RefusesLength (input : List ℕ) (output : Report) : Type 0 where
  pub too_long : IsTooLong input
  pub says : output ≡ input_too_long

pub record AnswersLength (asked : LargeRequest) (input : List ℕ) (output : Report) : Type 0 where
  pub fits : FitsText input
  pub answers : Answers asked input output

abbrev pub AnswersWithin : LargeRequest → List ℕ → Report → Type 0
AnswersWithin asked input output = RefusesLength input output ⊎ AnswersLength asked input output
