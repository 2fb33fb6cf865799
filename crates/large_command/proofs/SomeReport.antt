-- All words and every input have a report.
use Rattle.std.proofs.Common.{◌≡◌, ◌+◌, ◌-◌, ◌≤◌, ◌<◌, ℕ, false, List, [], ◌∷◌, ◌++◌, length}
use Rattle.std.proofs.Common.{Option, Some, None, inl, inr, sym, refl, subst, arith, append_assoc}
use Rattle.std.proofs.Common.{append-nil, length-append}
use Rattle.command_words.specs.About.{about_of}
use Rattle.command_words.specs.LargeWords.{large_request_of}
use Rattle.command_words.specs.declared.about.About.{About}
use Rattle.command_words.specs.declared.large.LargeRequest.{LargeRequest}
use Rattle.command_words.specs.declared.large.LargeRequest.TheVariants.{OfDocument, OfMeter, OfTable}
use Rattle.command_words.specs.declared.large.MeterRequest.{MeterRequest}
use Rattle.command_words.specs.declared.large.LargeRequest.TheVariants.{OfText}
use Rattle.command_words.specs.declared.large.MeterRequest.TheVariants.{Bounds, Numbers}
use Rattle.command_words.specs.declared.large.TextRequest.{TextRequest}
use Rattle.command_words.specs.declared.large.TextRequest.TheVariants.{Certify, Show}
use Rattle.program_text.proofs.Bools.{bool_cases}
use Rattle.program_text.specs.Document.{program_part, rest_part}
use Rattle.program_text.specs.Limits.{work_of}
use Rattle.program_text.specs.Marks.{Mark}
use Rattle.program_text.specs.Marks.Mark.{Begins}
use Rattle.task_program.specs.Canonical.{canonical_text}
use Rattle.task_program.specs.Nested.{IsNested}
use Rattle.task_program.specs.ProgramMarks.{ProgramMarks}
use Rattle.task_segments.proofs.Steps.{count-cons, tasks_begins}
use Rattle.task_segments.specs.Moments.{begins_task, last_moment, moment_after, segments_so_far}
use Rattle.task_segments.specs.Moments.{tasks_so_far}
use Rattle.task_segments.specs.Table.{table_of}
use Rattle.online_span.proofs.Program.{span_exists}
use Rattle.large_text.proofs.LoopReading.{one_reading}
use Rattle.large_text.proofs.ReadingTexts.{nested_of}
use Rattle.large_text.specs.LargeTexts.{FitsText}
use Rattle.large_text.specs.declared.limits.TheConstants.{LARGEST_TEXT}
use Rattle.spanprof_command.proofs.SomeReport.{some_certificate}
use Rattle.spanprof_command.specs.GreedyRuns.{thread_count}
use Rattle.spanprof_command.specs.Report.{Report, input_too_long, out_of_memory, program_refusal, wrong_words}
use Rattle.large_command.specs.AboutReports.{about_report}
use Rattle.large_command.specs.LargeCommand.{AnswersText, IsReportOfText, is_in_range}
use Rattle.large_command.specs.LargeReports.{Answers, Tells, TellsMarks, bounds_report}
use Rattle.large_command.specs.LargeReports.{numbers_report, text_of}
use Rattle.large_command.specs.TextReports.{TellsText}
use Rattle.spanprof_command.specs.declared.report.Status.TheVariants.{Done}
use Rattle.large_command.specs.Lengths.{IsReadInTime, IsTooLong}
use Rattle.large_command.specs.OneReport.{HasReport}
use Rattle.large_command.proofs.Lengths.{fits_none, fits_or_too_long, is_in_time, not_both}
use Rattle.large_command.proofs.Lengths.{piece_in_time}
use Rattle.large_command.proofs.OfDocuments.{some_of_document}
use Rattle.large_command.proofs.OfTables.{fits_or_not, some_of_table, whole_of}

-- ---- of a text

some_begun : (marks moment : List Mark)
    → 0 < tasks_so_far moment
    → 0 < tasks_so_far (moment_after moment marks)
some_begun [] moment some = some
some_begun (mark ∷ marks) moment some =
    some_begun marks (mark ∷ moment) (omega (arith, count-cons begins_task mark moment, some))

-- the root has begun
root_begun : (marks : List Mark) → 0 < tasks_so_far (last_moment marks)
root_begun marks =
    some_begun marks (Begins false [] ∷ []) (omega (arith, tasks_begins false [] []))

some_of_marks : (asked : MeterRequest) (marks : List Mark)
    → IsNested marks
    → (output : Report) × TellsMarks asked marks output
some_of_marks Numbers marks nested =
    let last = last_moment marks in
    let span : ℕ = (span_exists marks nested).0 in
    let tasks : ℕ = tasks_so_far last - 1 in (
      numbers_report tasks (segments_so_far last) (work_of last) span,
      record {
        tasks = tasks;
        span = span;
        all_tasks = omega (arith, root_begun marks);
        is_span = (span_exists marks nested).1;
        says = refl;
      },
    )
some_of_marks (Bounds upto) marks nested =
    let span : ℕ = (span_exists marks nested).0 in (
      bounds_report upto (work_of (last_moment marks)) span,
      record { span = span; is_span = (span_exists marks nested).1; says = refl },
    )

some_of_text : (asked : TextRequest) (program : ProgramMarks)
    → IsNested program.marks
    → (output : Report) × TellsText asked program output
some_of_text Show program nested =
    (record { text = canonical_text program; status = Done }, refl)
some_of_text Certify program nested = elim (fits_or_not (table_of program.marks)) [
  | inl fits ↦
      let said = some_certificate program (whole_of program.marks nested fits) in
      (said.0, inl (record { fits = fits; says = said.1 }))
  | inr larger ↦ (out_of_memory, inr (record { larger = larger; says = refl }))
]

some_tells : (asked : LargeRequest) (input : List ℕ) (program : ProgramMarks)
    → IsNested program.marks
    → (output : Report) × Tells asked input program output
some_tells (OfMeter asked) input program nested = some_of_marks asked program.marks nested
some_tells (OfTable asked) input program nested = some_of_table asked program.marks nested
some_tells (OfText asked) input program nested = some_of_text asked program nested
some_tells (OfDocument asked) input program nested =
    some_of_document asked (program_part input) (rest_part input) program.marks nested

some_answer : (asked : LargeRequest) (input : List ℕ)
    → (output : Report) × Answers asked input output
some_answer asked input =
    let text : List ℕ = text_of asked input in
    let reading = one_reading text in
    elim reading.some [
      | inl right ↦
          let found = reading.program right in
          let tells = some_tells asked input found.0 (nested_of text found.0 found.1) in (
            tells.0,
            inl (record {
              program = found.0;
              stands = found.1;
              right = right;
              says = tells.1;
            }),
          )
      | inr wrong ↦
          (program_refusal wrong.0, inr (record { fault = wrong.0; is_fault = wrong.1; says = refl }))
    ]

-- ---- of what is read of an input

-- what is read of an input that is too long: no more than shows it
record Stops (input : List ℕ) : Type 0 where
  text : List ℕ
  rest : List ℕ
  all : input ≡ text ++ rest
  too_long : IsTooLong text
  most : length text ≤ LARGEST_TEXT + 1
  in_time : IsReadInTime text

-- these bytes fit, and what follows them makes the input too long
stops_after : (front rest : List ℕ) → FitsText front → IsTooLong (front ++ rest)
    → Stops (front ++ rest)
stops_after front [] fits long = absurd
    (not_both front fits (subst (λ (bytes : List ℕ). IsTooLong bytes) (append-nil front) long))
stops_after front (b ∷ rest) fits long =
    let more : List ℕ = front ++ b ∷ [] in
    let all : more ++ rest ≡ front ++ (b ∷ rest) = append_assoc front (b ∷ []) rest in
    elim (fits_or_too_long more) [
      | inl longer ↦ subst (λ (bytes : List ℕ). Stops bytes) all
          (stops_after more rest longer
          (subst (λ (bytes : List ℕ). IsTooLong bytes) (sym all) long))
      | inr stops ↦ record {
        text = more;
        rest = rest;
        all = sym all;
        too_long = stops;
        most = omega (arith, length-append front (b ∷ []), fits.short);
        in_time = piece_in_time front (b ∷ []) fits (omega arith);
      }
    ]

some_text : (asked : LargeRequest) (input : List ℕ)
    → (output : Report) × (rest : List ℕ) × AnswersText asked (Some input) (Some rest) output
some_text asked input = elim (fits_or_too_long input) [
  | inl fits ↦
      let answer = some_answer asked input in (
        answer.0,
        [],
        record {
          text = input;
          read = record {
            read = sym (append-nil input);
            most = omega (arith, fits.short);
            to_the_end = λ whole. refl;
            in_time = is_in_time input fits;
          };
          answers = inr (record { fits = fits; answers = answer.1 });
        },
      )
  | inr long ↦
      let stops = stops_after [] input fits_none long in (
        input_too_long,
        stops.rest,
        record {
          text = stops.text;
          read = record {
            read = stops.all;
            most = stops.most;
            to_the_end = λ fits. absurd (not_both stops.text fits stops.too_long);
            in_time = stops.in_time;
          };
          answers = inl (record { too_long = stops.too_long; says = refl });
        },
      )
]

-- ---- of words

some_of_words : (words : List (List ℕ)) (wanted : Option LargeRequest) (input : List ℕ)
    → large_request_of words ≡ wanted
    → (output : Report) × (rest : List ℕ) × IsReportOfText words (Some input) (Some rest) output
some_of_words words None input asks = (
  wrong_words,
  input,
  inl (record { none = asks; kept = refl; says = refl }),
)
some_of_words words (Some asked) input asks =
    bool_cases (is_in_range asked)
    (λ inside.
    let answer = some_text asked input in (
      answer.0,
      answer.1,
      inr (inr (record { asked = asked; asks = asks; inside = inside; answers = answer.2 })),
    ))
    (λ outside. (
      thread_count,
      input,
      inr (inl (record {
        asked = asked;
        asks = asks;
        outside = outside;
        kept = refl;
        says = refl;
      })),
    ))

some_by : (words : List (List ℕ)) (wanted : Option About) (input : List ℕ)
    → about_of words ≡ wanted
    → HasReport words input
some_by words (Some about) input asks = (
  about_report about,
  record {
    rest = input;
    report = inl (record { about = about; asks = asks; kept = refl; says = refl });
  },
)
some_by words None input none =
    let told = some_of_words words (large_request_of words) input refl in (
      told.0,
      record { rest = told.1; report = inr (record { not_about = none; report = told.2 }) },
    )

pub some_report : (words : List (List ℕ)) (input : List ℕ) → HasReport words input
some_report words input = some_by words (about_of words) input refl
