-- What a text is read as: its tree, or its first fault. No machine is in it.
use Rattle.std.specs.Prelude.{◌≡◌, ℕ, nat_lt, MatchBool, List, length, Result, Ok, Err}
use Rattle.program_text.specs.declared.fault.ReadKind.TheVariants.{TooLong}
use Rattle.program_text.specs.declared.limits.TheConstants.{MOST_TEXT_BYTES}
use Rattle.program_text.specs.declared.fault.ReadFault.{ReadFault}
use Rattle.program_text.specs.Tokens.{tokens_of, line_at_end}
use Rattle.task_program.specs.ProgramMarks.{ProgramMarks}
use Rattle.task_program.specs.Versions.{begins_version_two}
use Rattle.task_program.specs.Trees.{HasTree}
use Rattle.task_program.specs.FirstFault.{IsFirstFault}
use Rattle.task_program.specs.FirstPlainFault.{program_rules}
use Rattle.task_program.specs.FirstLoopFault.{HasLoopFault}

-- The first fault of a text: it is too long, or else its tokens have one, in the version that its
-- header names.
abbrev pub HasFirstFault : List ℕ → ReadFault → Type 0
HasFirstFault text fault =
    MatchBool (nat_lt MOST_TEXT_BYTES (length text)) (fault ≡ record { kind = TooLong; line = 1 })
    (MatchBool (begins_version_two (tokens_of text)) (HasLoopFault text fault)
    (IsFirstFault program_rules (tokens_of text) (line_at_end 1 text) fault))

-- its tree, or its first fault
abbrev pub IsReading : List ℕ → Result ProgramMarks ReadFault → Type 0
IsReading text (Ok program) = HasTree text program
IsReading text (Err fault) = HasFirstFault text fault

-- each text is read as one thing, and as no other
pub record HasOneReading (text : List ℕ) : Type 0 where
  pub reading : Result ProgramMarks ReadFault
  pub is_reading : IsReading text reading
  pub one : (other : Result ProgramMarks ReadFault) → IsReading text other → other ≡ reading
