-- What the program writes: the verdict on a log, or why there is none.
use Rattle.std.specs.Prelude.{ℕ, ◌≡◌, ◌⊎◌, ◌++◌, ◌∷◌, [], List, codes}
use Rattle.counted_io.specs.declared.input.InputFault.{InputFault}
use Rattle.counted_io.specs.declared.input.InputFault.TheVariants.{TooLong, ReadFailed, OutOfMemory}
use Rattle.program_text.specs.Document.{lines_of}
use Rattle.exclusive_tasks.specs.Verdicts.{IsVerdict, verdict_text}
use Rattle.exclusive_tasks.specs.declared.verdict.Verdict.{Verdict}
use Rattle.exclusive_tasks.specs.declared.verdict.Verdict.TheVariants.{Apart, Overlapping, BadForm}

-- a whole text, and the exit status
pub record Report : Type 0 where
  pub text : List ℕ
  pub status : ℕ

-- the exit status after a verdict
abbrev pub status_of : Verdict → ℕ
status_of Apart = 0
status_of (Overlapping overlap) = 1
status_of (BadForm line) = 1

-- the verdict on a log
pub record Judges (log : List ℕ) (report : Report) : Type 0 where
  pub verdict : Verdict
  pub judged : IsVerdict (lines_of log) verdict
  pub text : report.text ≡ verdict_text verdict
  pub status : report.status ≡ status_of verdict

-- a line ends in LF (10)
abbrev pub fault_report : InputFault → Report
fault_report TooLong = record { text = codes "error: input too long" ++ 10 ∷ []; status = 1 }
fault_report ReadFailed = record { text = codes "error: read fault" ++ 10 ∷ []; status = 3 }
fault_report OutOfMemory = record { text = codes "error: out of memory" ++ 10 ∷ []; status = 3 }

-- the verdict, or that memory ran out
abbrev pub Answers : List ℕ → Report → Type 0
Answers log report = Judges log report ⊎ (report ≡ fault_report OutOfMemory)
