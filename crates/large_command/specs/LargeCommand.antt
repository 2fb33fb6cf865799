-- How the program ends, over a reader and a writer.
use Rattle.std.specs.Prelude.{◌≡◌, ◌⊎◌, ◌&&◌, ℕ, Bool, true, false, List, Option, Some, None}
use Rattle.std.specs.Prelude.{nat_le, ◌+◌, ◌≤◌, length}
use Rattle.std.specs.Io.KnownBytes.{Consumes, IsAtEnd, Keeps}
use Rattle.command_words.specs.About.{about_of}
use Rattle.command_words.specs.LargeWords.{large_request_of}
use Rattle.command_words.specs.declared.about.About.{About}
use Rattle.command_words.specs.declared.large.LargeRequest.{LargeRequest}
use Rattle.command_words.specs.declared.large.LargeRequest.TheVariants.{OfDocument, OfMeter, OfTable}
use Rattle.command_words.specs.declared.large.LargeRequest.TheVariants.{OfText}
use Rattle.command_words.specs.declared.large.MeterRequest.{MeterRequest}
use Rattle.command_words.specs.declared.large.MeterRequest.TheVariants.{Bounds, Numbers}
use Rattle.command_words.specs.declared.large.TableRequest.{TableRequest}
use Rattle.command_words.specs.declared.large.TableRequest.TheVariants.{Curve, Graph, Greedy}
use Rattle.command_words.specs.declared.large.TableRequest.TheVariants.{Slack, WhatIf}
use Rattle.greedy_sim.specs.declared.greedy.TheConstants.{MOST_THREADS}
use Rattle.large_text.specs.declared.limits.TheConstants.{LARGEST_TEXT}
use Rattle.large_text.specs.LargeTexts.{FitsText}
use Rattle.spanprof_command.specs.GreedyRuns.{thread_count}
use Rattle.spanprof_command.specs.Report.{Report, wrong_words}
use Rattle.large_command.specs.AboutReports.{about_report}
use Rattle.large_command.specs.LargeReports.{AnswersWithin}
use Rattle.large_command.specs.Lengths.{IsReadInTime}

-- there are 1 to MOST_THREADS threads
abbrev pub is_thread_count : ℕ → Bool
is_thread_count threads = nat_le 1 threads && nat_le threads MOST_THREADS

abbrev pub is_meter_in_range : MeterRequest → Bool
is_meter_in_range Numbers = true
is_meter_in_range (Bounds upto) = is_thread_count upto

abbrev pub is_table_in_range : TableRequest → Bool
is_table_in_range Slack = true
is_table_in_range (Greedy threads) = is_thread_count threads
is_table_in_range (Curve upto) = is_thread_count upto
is_table_in_range (WhatIf changes) = true
is_table_in_range Graph = true

-- what is asked names no other number of threads
abbrev pub is_in_range : LargeRequest → Bool
is_in_range (OfMeter asked) = is_meter_in_range asked
is_in_range (OfTable asked) = is_table_in_range asked
is_in_range (OfText asked) = true
is_in_range (OfDocument asked) = true

-- the words ask for something of a text
abbrev pub wants_text : Option LargeRequest → Bool
wants_text None = false
wants_text (Some asked) = is_in_range asked

-- the words ask for nothing, and nothing is read
pub record RefusesWords (words : List (List ℕ)) (before after : Option (List ℕ)) (output : Report)
    : Type 0 where
  pub none : large_request_of words ≡ None
  pub kept : Keeps before after
  pub says : output ≡ wrong_words

-- they name a number of threads that is out of range, and nothing is read
pub record RefusesCount (words : List (List ℕ)) (before after : Option (List ℕ)) (output : Report)
    : Type 0 where
  pub asked : LargeRequest
  pub asks : large_request_of words ≡ Some asked
  pub outside : is_in_range asked ≡ false
  pub kept : Keeps before after
  pub says : output ≡ thread_count

-- a text was read: one that is not too long to its end, and of another hardly more than shows it
pub record ReadsText (before after : Option (List ℕ)) (text : List ℕ) : Type 0 where
  pub read : Consumes before after text
  pub most : length text ≤ LARGEST_TEXT + 1
  pub to_the_end : FitsText text → IsAtEnd after
  pub in_time : IsReadInTime text

-- what was read is a text of which the program answers this
pub record AnswersText (asked : LargeRequest) (before after : Option (List ℕ)) (output : Report)
    : Type 0 where
  pub text : List ℕ
  pub read : ReadsText before after text
  pub answers : AnswersWithin asked text output

pub record AnswersWords (words : List (List ℕ)) (before after : Option (List ℕ)) (output : Report)
    : Type 0 where
  pub asked : LargeRequest
  pub asks : large_request_of words ≡ Some asked
  pub inside : is_in_range asked ≡ true
  pub answers : AnswersText asked before after output

-- what is to be written is the report of words for a text, and of what was read
abbrev pub IsReportOfText : List (List ℕ) → Option (List ℕ) → Option (List ℕ) → Report → Type 0
IsReportOfText words before after output =
    RefusesWords words before after output
    ⊎ (RefusesCount words before after output ⊎ AnswersWords words before after output)

-- the words ask about the program, and nothing is read
pub record TellsAbout (words : List (List ℕ)) (before after : Option (List ℕ)) (output : Report)
    : Type 0 where
  pub about : About
  pub asks : about_of words ≡ Some about
  pub kept : Keeps before after
  pub says : output ≡ about_report about

-- they do not
pub record TellsOfText (words : List (List ℕ)) (before after : Option (List ℕ)) (output : Report)
    : Type 0 where
  pub not_about : about_of words ≡ None
  pub report : IsReportOfText words before after output

-- what is to be written is the report of the words and of what was read
abbrev pub IsReport : List (List ℕ) → Option (List ℕ) → Option (List ℕ) → Report → Type 0
IsReport words before after output =
    TellsAbout words before after output ⊎ TellsOfText words before after output
