-- The report has what a meter's calls answer.
use Rattle.std.proofs.Common.{◌≡◌, ◌+◌, ◌∙◌, ℕ, List, [], Option, Some, None, inl, inr, ap}
use Rattle.std.specs.Option.{IfSome}
use Rattle.std.proofs.Common.{append-nil, arith, subst, sym}
use Rattle.program_text.specs.Document.{program_part, rest_part}
use Rattle.program_text.specs.declared.fault.ReadFault.{ReadFault}
use Rattle.program_text.specs.Marks.{Mark}
use Rattle.program_text.specs.Limits.{work_of}
use Rattle.task_program.specs.Nested.{IsNested}
use Rattle.task_segments.specs.Moments.{last_moment, segments_so_far, tasks_so_far}
use Rattle.task_segments.specs.Table.{Table, table_of}
use Rattle.online_span.specs.declared.meter.Meter.{Meter}
use Rattle.online_span.specs.Measuring.{Measures}
use Rattle.online_span.specs.Spans.{IsSpanOf}
use Rattle.large_text.specs.Measured.{IsCanonicalOf, IsTableOfText, MeasuresText}
use Rattle.large_text.specs.LargeTexts.{FitsText, IsLargeFault, StandsForLarge}
use Rattle.large_text.specs.Streamed.{CanTakeBytes, HasTaken, KeepsText}
use Rattle.large_text.specs.declared.stream.TextMeter.{TextMeter}
use Rattle.spanprof_command.specs.Report.{Report, input_too_long, program_refusal}
use Rattle.command_words.specs.declared.large.DocumentRequest.{DocumentRequest}
use Rattle.command_words.specs.declared.large.LargeRequest.{LargeRequest}
use Rattle.command_words.specs.declared.large.LargeRequest.TheVariants.{OfDocument, OfMeter, OfTable}
use Rattle.command_words.specs.declared.large.LargeRequest.TheVariants.{OfText}
use Rattle.command_words.specs.declared.large.MeterRequest.{MeterRequest}
use Rattle.command_words.specs.declared.large.MeterRequest.TheVariants.{Bounds, Numbers}
use Rattle.command_words.specs.declared.large.TableRequest.{TableRequest}
use Rattle.command_words.specs.declared.large.TextRequest.{TextRequest}
use Rattle.task_program.specs.Canonical.{canonical_text}
use Rattle.task_program.specs.ProgramMarks.{ProgramMarks}
use Rattle.large_text.proofs.LoopReading.{one_reading}
use Rattle.large_text.proofs.ReadingTexts.{nested_of}
use Rattle.large_command.proofs.Lengths.{is_in_time, not_both}
use Rattle.large_command.specs.DocumentReports.{TellsBehind, TellsDocument}
use Rattle.large_command.specs.LargeCommand.{AnswersText}
use Rattle.large_command.specs.LargeReports.{Answers, IsOfProgram, RefusesText, TellsMeter}
use Rattle.large_command.specs.LargeReports.{bounds_report, numbers_report}
use Rattle.large_command.specs.TableReports.{TellsTable}
use Rattle.large_command.specs.TextReports.{TellsText}
use Rattle.large_command.specs.TextInput.{KeepsFor, ReadsTooLong, ReadsWhole, TakesText}

pub tells_meter : (meter : Meter) (tasks segments work span : ℕ) (report : Report)
    → ((moment : List Mark) → Measures meter moment → tasks + 1 ≡ tasks_so_far moment)
    → ((moment : List Mark) → Measures meter moment → segments ≡ segments_so_far moment)
    → ((moment : List Mark) → Measures meter moment → work ≡ work_of moment)
    → ((body : List Mark) → IsNested body → Measures meter (last_moment body) → IsSpanOf body span)
    → report ≡ numbers_report tasks segments work span
    → TellsMeter Numbers meter report
tells_meter meter tasks segments work span report all_tasks all_segments all_work whole says =
    λ marks nested measures.
    let e = all_segments (last_moment marks) measures in
    let f = all_work (last_moment marks) measures in
    record {
      tasks = tasks;
      span = span;
      all_tasks = all_tasks (last_moment marks) measures;
      is_span = whole marks nested measures;
      says = says
          ∙ (ap (λ s. numbers_report tasks s work span) e
          ∙ ap (λ w. numbers_report tasks (segments_so_far (last_moment marks)) w span) f);
    }

pub tells_bounds : (meter : Meter) (upto work span : ℕ) (report : Report)
    → ((moment : List Mark) → Measures meter moment → work ≡ work_of moment)
    → ((body : List Mark) → IsNested body → Measures meter (last_moment body) → IsSpanOf body span)
    → report ≡ bounds_report upto work span
    → TellsMeter (Bounds upto) meter report
tells_bounds meter upto work span report all_work whole says =
    λ marks nested measures. record {
      span = span;
      is_span = whole marks nested measures;
      says = says ∙ ap (λ w. bounds_report upto w span) (all_work (last_moment marks) measures);
    }

-- ---- a text that a meter has taken

pub is_of_program : (text : List ℕ) (meter : Meter) → MeasuresText text meter → IsOfProgram meter
is_of_program text meter h = record {
  marks = h.program.marks;
  nested = nested_of text h.program h.stands;
  measures = h.measures;
}

pub accepts : (asked : MeterRequest) (text : List ℕ) (meter : Meter) (report : Report)
    → MeasuresText text meter
    → TellsMeter asked meter report
    → Answers (OfMeter asked) text report
accepts asked text meter report h tells = inl (record {
  program = h.program;
  stands = h.stands;
  right = h.right;
  says = tells h.program.marks (nested_of text h.program h.stands) h.measures;
})

pub accepts_table : (asked : TableRequest) (text : List ℕ) (table : Table) (report : Report)
    → IsTableOfText text table
    → TellsTable asked table report
    → Answers (OfTable asked) text report
accepts_table asked text table report h tells = inl (record {
  program = h.program;
  stands = h.stands;
  right = h.right;
  says = subst (λ (t : Table). TellsTable asked t report) h.is tells;
})

same_table : (text : List ℕ) (program : ProgramMarks) (found : Option Table)
    → StandsForLarge text program
    → IfSome found (IsTableOfText text)
    → IfSome found (λ (t : Table). t ≡ table_of program.marks)
same_table text program None stands of = tt
same_table text program (Some table) stands of =
    of.is
    ∙ ap (λ (p : ProgramMarks). table_of p.marks)
    ((one_reading text).one_program of.program program of.stands stands)

pub accepts_text : {V : Type 0} (asked : TextRequest) (text : List ℕ) (found : Option V)
    (written : V) (bytes : V → List ℕ) (table : Option Table) (report : Report)
    → found ≡ Some written
    → IfSome found (λ (v : V). IsCanonicalOf text (bytes v))
    → IfSome table (IsTableOfText text)
    → ((program : ProgramMarks) → bytes written ≡ canonical_text program
    → IfSome table (λ (t : Table). t ≡ table_of program.marks)
    → TellsText asked program report)
    → Answers (OfText asked) text report
accepts_text asked text found written bytes table report is has of tells =
    let h : IsCanonicalOf text (bytes written) =
    subst (λ v. IfSome v (λ w. IsCanonicalOf text (bytes w))) is has in
    inl (record {
      program = h.program;
      stands = h.stands;
      right = h.right;
      says = tells h.program h.is (same_table text h.program table h.stands of);
    })

-- a table that was found
pub found_table : (text : List ℕ) (found : Option Table) (table : Table)
    → found ≡ Some table
    → IfSome found (IsTableOfText text)
    → IsTableOfText text table
found_table text found table is h =
    subst (λ (t : Option Table). IfSome t (IsTableOfText text)) is h

pub refuses : (text : List ℕ) (fault : ReadFault) (report : Report)
    → IsLargeFault text fault
    → report ≡ program_refusal fault
    → RefusesText text report
refuses text fault report is_fault says = record {
  fault = fault;
  is_fault = is_fault;
  says = says;
}

-- the parts of a document, of which the first is the program's text
pub accepts_document : (asked : DocumentRequest) (document program : List ℕ)
    (rest : Option (List ℕ)) (table : Table) (report : Report)
    → program ≡ program_part document
    → rest ≡ rest_part document
    → IsTableOfText program table
    → TellsBehind asked program rest table report
    → Answers (OfDocument asked) document report
accepts_document asked document program rest table report is behind h tells =
    let of : IsTableOfText (program_part document) table =
    subst (λ (text : List ℕ). IsTableOfText text table) is h in
    let told : TellsBehind asked (program_part document) rest table report =
    subst (λ (text : List ℕ). TellsBehind asked text rest table report) is tells in
    let of_document : TellsDocument asked document table report =
    subst (λ (part : Option (List ℕ)). TellsBehind asked (program_part document) part table report)
    behind told in
    inl (record {
      program = of.program;
      stands = of.stands;
      right = of.right;
      says = subst (λ (t : Table). TellsDocument asked document t report) of.is of_document;
    })

-- ---- a text that was read to its end

pub can_finish : (before after : Option (List ℕ)) (text_meter : TextMeter)
    → TakesText before after text_meter
    → CanTakeBytes [] text_meter
can_finish before after text_meter h = record {
  bytes = h.text;
  taken = h.taken;
  fits = subst (λ (bytes : List ℕ). FitsText bytes) (sym (append-nil h.text)) h.taken.fits;
}

pub still_keeps : (asked : LargeRequest) (before after : TextMeter)
    → (KeepsText before → KeepsText after)
    → KeepsFor asked before
    → KeepsFor asked after
still_keeps (OfText asked) before after keeps h = keeps h
still_keeps _ before after keeps h = tt

pub answers_text : (asked : LargeRequest) (before after : Option (List ℕ)) (text_meter : TextMeter)
    (report : Report)
    → TakesText before after text_meter
    → ((bytes : List ℕ) → HasTaken bytes text_meter → Answers asked bytes report)
    → AnswersText asked before after report
answers_text asked before after text_meter report h answers = record {
  text = h.text;
  read = record {
    read = h.read;
    most = omega (arith, h.taken.fits.short);
    to_the_end = λ fits. h.to_the_end;
    in_time = is_in_time h.text h.taken.fits;
  };
  answers = inr (record { fits = h.taken.fits; answers = answers h.text h.taken });
}

-- a text that is too long
pub answers_length : (asked : LargeRequest) (before after : Option (List ℕ)) (report : Report)
    → ReadsTooLong before after
    → report ≡ input_too_long
    → AnswersText asked before after report
answers_length asked before after report h says = record {
  text = h.text;
  read = record {
    read = h.read;
    most = h.most;
    to_the_end = λ fits. absurd (not_both h.text fits h.too_long);
    in_time = h.in_time;
  };
  answers = inl (record { too_long = h.too_long; says = says });
}

-- a document that was read whole
pub answers_whole : (asked : DocumentRequest) (before after : Option (List ℕ)) (document : List ℕ)
    (report : Report)
    → ReadsWhole before after document
    → Answers (OfDocument asked) document report
    → AnswersText (OfDocument asked) before after report
answers_whole asked before after document report h answers = record {
  text = document;
  read = record {
    read = h.read;
    most = omega (arith, h.fits.short);
    to_the_end = λ fits. h.to_the_end;
    in_time = is_in_time document h.fits;
  };
  answers = inr (record { fits = h.fits; answers = answers });
}
