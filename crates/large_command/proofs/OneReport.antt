-- No words and input have two reports.
use Rattle.std.proofs.Common.{◌≡◌, ◌∙◌, ℕ, true, false, List, ◌++◌, Option, Some, None, inl}
use Rattle.std.proofs.Common.{inr, ap, sym, subst, arith, append-nil}
use Rattle.command_words.specs.About.{about_of}
use Rattle.command_words.specs.LargeWords.{large_request_of}
use Rattle.command_words.specs.declared.about.About.{About}
use Rattle.command_words.specs.declared.large.LargeRequest.{LargeRequest}
use Rattle.command_words.specs.declared.large.LargeRequest.TheVariants.{OfDocument, OfMeter, OfTable}
use Rattle.command_words.specs.declared.large.MeterRequest.{MeterRequest}
use Rattle.command_words.specs.declared.large.LargeRequest.TheVariants.{OfText}
use Rattle.command_words.specs.declared.large.MeterRequest.TheVariants.{Bounds, Numbers}
use Rattle.command_words.specs.declared.large.TextRequest.{TextRequest}
use Rattle.command_words.specs.declared.large.TextRequest.TheVariants.{Certify, Show}
use Rattle.program_text.specs.Document.{program_part, rest_part}
use Rattle.program_text.specs.Limits.{work_of}
use Rattle.program_text.specs.Marks.{Mark}
use Rattle.task_program.specs.Nested.{IsNested}
use Rattle.task_program.specs.ProgramMarks.{ProgramMarks}
use Rattle.task_segments.proofs.Schedules.{span-unique}
use Rattle.task_segments.specs.Moments.{last_moment, segments_so_far}
use Rattle.task_segments.specs.Precedence.{MustPrecede}
use Rattle.task_segments.specs.Table.{costs_of, table_of}
use Rattle.online_span.specs.Spans.{IsSpanOf}
use Rattle.large_text.proofs.LoopReading.{one_reading}
use Rattle.large_text.proofs.ReadingTexts.{nested_of}
use Rattle.large_text.specs.LargeTexts.{FitsText}
use Rattle.spanprof_command.proofs.OneOfGraphs.{one_certificate}
use Rattle.spanprof_command.specs.Report.{Report, program_refusal}
use Rattle.large_command.specs.AboutReports.{about_report}
use Rattle.large_command.specs.LargeCommand.{AnswersWords, IsReport, IsReportOfText, ReadsText}
use Rattle.large_command.specs.LargeCommand.{is_in_range}
use Rattle.large_command.specs.LargeReports.{AcceptsText, Answers, AnswersWithin, RefusesText}
use Rattle.large_command.specs.LargeReports.{Tells, TellsMarks, bounds_report}
use Rattle.large_command.specs.LargeReports.{numbers_report, text_of}
use Rattle.large_command.specs.TextReports.{TellsText}
use Rattle.large_command.specs.Lengths.{IsTooLong}
use Rattle.large_command.specs.OneReport.{HasOneReport}
use Rattle.large_command.proofs.Lengths.{not_both, stays_too_long}
use Rattle.large_command.proofs.OfDocuments.{one_of_document}
use Rattle.large_command.proofs.OfTables.{one_of_table}

same_told : (a b one other : Report) → a ≡ b → one ≡ a → other ≡ b → one ≡ other
same_told a b one other same h g = h ∙ (same ∙ sym g)

-- ---- of a program

one_span : (marks : List Mark) (a b : ℕ) → IsSpanOf marks a → IsSpanOf marks b → a ≡ b
one_span marks a b h g =
    span-unique (costs_of (table_of marks)) (MustPrecede (table_of marks)) a b h.greatest_sum
    g.greatest_sum

one_of_marks : (asked : MeterRequest) (marks : List Mark) (one other : Report)
    → TellsMarks asked marks one
    → TellsMarks asked marks other
    → one ≡ other
one_of_marks Numbers marks one other a b =
    let last = last_moment marks in
    let told : ℕ → ℕ → Report = λ tasks span.
    numbers_report tasks (segments_so_far last) (work_of last) span in
    let tasks : a.tasks ≡ b.tasks = omega (arith, a.all_tasks, b.all_tasks) in
    let spans : a.span ≡ b.span = one_span marks a.span b.span a.is_span b.is_span in
    same_told (told a.tasks a.span) (told b.tasks b.span) one other
    (ap (λ (n : ℕ). told n a.span) tasks ∙ ap (λ (n : ℕ). told b.tasks n) spans) a.says b.says
one_of_marks (Bounds upto) marks one other a b =
    let told : ℕ → Report = λ span. bounds_report upto (work_of (last_moment marks)) span in
    same_told (told a.span) (told b.span) one other
    (ap told (one_span marks a.span b.span a.is_span b.is_span)) a.says b.says

one_of_text : (asked : TextRequest) (program : ProgramMarks) (one other : Report)
    → TellsText asked program one
    → TellsText asked program other
    → one ≡ other
one_of_text Show program one other a b = a ∙ sym b
one_of_text Certify program one other (inl a) (inl b) =
    one_certificate program one other a.says b.says
one_of_text Certify program one other (inl a) (inr b) = absurd (b.larger a.fits)
one_of_text Certify program one other (inr a) (inl b) = absurd (a.larger b.fits)
one_of_text Certify program one other (inr a) (inr b) = a.says ∙ sym b.says

-- the report on the same program is the same
one_told : (asked : LargeRequest) (input : List ℕ) (program : ProgramMarks) (one other : Report)
    → IsNested program.marks
    → Tells asked input program one
    → Tells asked input program other
    → one ≡ other
one_told (OfMeter asked) input program one other nested a b =
    one_of_marks asked program.marks one other a b
one_told (OfTable asked) input program one other nested a b =
    one_of_table asked program.marks one other nested a b
one_told (OfText asked) input program one other nested a b =
    one_of_text asked program one other a b
one_told (OfDocument asked) input program one other nested a b =
    one_of_document asked (program_part input) (rest_part input) program.marks one other nested a b

-- ---- of an input

one_accepted : (asked : LargeRequest) (input : List ℕ) (one other : Report)
    → AcceptsText asked input one
    → AcceptsText asked input other
    → one ≡ other
one_accepted asked input one other a b =
    let text : List ℕ = text_of asked input in
    let same : b.program ≡ a.program =
    (one_reading text).one_program b.program a.program b.stands a.stands in
    one_told asked input a.program one other (nested_of text a.program a.stands) a.says
    (subst (λ (program : ProgramMarks). Tells asked input program other) same b.says)

one_refused : (text : List ℕ) (one other : Report)
    → RefusesText text one
    → RefusesText text other
    → one ≡ other
one_refused text one other a b =
    same_told (program_refusal a.fault) (program_refusal b.fault) one other
    (ap program_refusal ((one_reading text).one a.fault b.fault a.is_fault b.is_fault))
    a.says b.says

accepted_or_refused : (asked : LargeRequest) (input : List ℕ) (one other : Report)
    → AcceptsText asked input one
    → RefusesText (text_of asked input) other
    → ⊥
accepted_or_refused asked input one other a b =
    (one_reading (text_of asked input)).never_both a.right b.fault b.is_fault

one_answer : (asked : LargeRequest) (input : List ℕ) (one other : Report)
    → Answers asked input one
    → Answers asked input other
    → one ≡ other
one_answer asked input one other (inl a) (inl b) = one_accepted asked input one other a b
one_answer asked input one other (inl a) (inr b) =
    absurd (accepted_or_refused asked input one other a b)
one_answer asked input one other (inr a) (inl b) =
    absurd (accepted_or_refused asked input other one b a)
one_answer asked input one other (inr a) (inr b) =
    one_refused (text_of asked input) one other a b

-- ---- of what is read of an input

-- a text that fits is all of the input
all_read : (input rest text : List ℕ)
    → ReadsText (Some input) (Some rest) text
    → FitsText text
    → text ≡ input
all_read input rest text h fits =
    sym (h.read ∙ (ap (λ (bytes : List ℕ). text ++ bytes) (h.to_the_end fits) ∙ append-nil text))

-- so it is not read where another reading stops at a text that is too long
fits_or_stops : (input rest left text other : List ℕ)
    → ReadsText (Some input) (Some rest) text
    → ReadsText (Some input) (Some left) other
    → FitsText text
    → IsTooLong other
    → ⊥
fits_or_stops input rest left text other h g fits too_long =
    not_both input
    (subst (λ (bytes : List ℕ). FitsText bytes) (all_read input rest text h fits) fits)
    (subst (λ (bytes : List ℕ). IsTooLong bytes) (sym g.read) (stays_too_long other left too_long))

one_within : (asked : LargeRequest) (input rest left text other : List ℕ) (one two : Report)
    → ReadsText (Some input) (Some rest) text
    → ReadsText (Some input) (Some left) other
    → AnswersWithin asked text one
    → AnswersWithin asked other two
    → one ≡ two
one_within asked input rest left text other one two h g (inl a) (inl b) = a.says ∙ sym b.says
one_within asked input rest left text other one two h g (inl a) (inr b) =
    absurd (fits_or_stops input left rest other text g h b.fits a.too_long)
one_within asked input rest left text other one two h g (inr a) (inl b) =
    absurd (fits_or_stops input rest left text other h g a.fits b.too_long)
one_within asked input rest left text other one two h g (inr a) (inr b) =
    let same : other ≡ text =
    all_read input left other g b.fits ∙ sym (all_read input rest text h a.fits) in
    one_answer asked text one two a.answers
    (subst (λ (bytes : List ℕ). Answers asked bytes two) same b.answers)

-- ---- of words

same_request : {T : Type 0} (wanted : Option T) (one other : T) → wanted ≡ Some one
    → wanted ≡ Some other → one ≡ other
same_request wanted one other h g = cc

no_request : {T : Type 0} (wanted : Option T) (asked : T) → wanted ≡ None
    → wanted ≡ Some asked → ⊥
no_request wanted asked h g = absurd cc

in_range_or_not : (wanted : Option LargeRequest) (one other : LargeRequest)
    → wanted ≡ Some one
    → wanted ≡ Some other
    → is_in_range one ≡ false
    → is_in_range other ≡ true
    → ⊥
in_range_or_not wanted one other h g outside inside =
    let same : is_in_range one ≡ is_in_range other =
    ap (λ (asked : LargeRequest). is_in_range asked) (same_request wanted one other h g) in
    let both : false ≡ true = sym outside ∙ (same ∙ inside) in
    absurd cc

one_words : (words : List (List ℕ)) (input rest left : List ℕ) (one other : Report)
    → AnswersWords words (Some input) (Some rest) one
    → AnswersWords words (Some input) (Some left) other
    → one ≡ other
one_words words input rest left one other a b =
    let same : b.asked ≡ a.asked =
    same_request (large_request_of words) b.asked a.asked b.asks a.asks in
    one_within a.asked input rest left a.answers.text b.answers.text one other a.answers.read
    b.answers.read a.answers.answers
    (subst (λ (asked : LargeRequest). AnswersWithin asked b.answers.text other) same
    b.answers.answers)

one_of_words : (words : List (List ℕ)) (input rest left : List ℕ) (one other : Report)
    → IsReportOfText words (Some input) (Some rest) one
    → IsReportOfText words (Some input) (Some left) other
    → one ≡ other
one_of_words words input rest left one other (inl a) (inl b) = a.says ∙ sym b.says
one_of_words words input rest left one other (inl a) (inr (inl b)) =
    absurd (no_request (large_request_of words) b.asked a.none b.asks)
one_of_words words input rest left one other (inl a) (inr (inr b)) =
    absurd (no_request (large_request_of words) b.asked a.none b.asks)
one_of_words words input rest left one other (inr (inl a)) (inl b) =
    absurd (no_request (large_request_of words) a.asked b.none a.asks)
one_of_words words input rest left one other (inr (inr a)) (inl b) =
    absurd (no_request (large_request_of words) a.asked b.none a.asks)
one_of_words words input rest left one other (inr (inl a)) (inr (inl b)) = a.says ∙ sym b.says
one_of_words words input rest left one other (inr (inl a)) (inr (inr b)) =
    absurd (in_range_or_not (large_request_of words) a.asked b.asked a.asks b.asks a.outside b.inside)
one_of_words words input rest left one other (inr (inr a)) (inr (inl b)) =
    absurd (in_range_or_not (large_request_of words) b.asked a.asked b.asks a.asks b.outside a.inside)
one_of_words words input rest left one other (inr (inr a)) (inr (inr b)) =
    one_words words input rest left one other a b

-- of words about the program, and of others
one_by : (words : List (List ℕ)) (input rest left : List ℕ) (one other : Report)
    → IsReport words (Some input) (Some rest) one
    → IsReport words (Some input) (Some left) other
    → one ≡ other
one_by words input rest left one other (inl a) (inl b) =
    same_told (about_report a.about) (about_report b.about) one other
    (ap (λ (about : About). about_report about)
    (same_request (about_of words) a.about b.about a.asks b.asks))
    a.says b.says
one_by words input rest left one other (inl a) (inr b) =
    absurd (no_request (about_of words) a.about b.not_about a.asks)
one_by words input rest left one other (inr a) (inl b) =
    absurd (no_request (about_of words) b.about a.not_about b.asks)
one_by words input rest left one other (inr a) (inr b) =
    one_of_words words input rest left one other a.report b.report

pub one_report : (words : List (List ℕ)) (input : List ℕ) → HasOneReport words input
one_report words input one other h g = one_by words input h.rest g.rest one other h.report g.report
