-- What the machines of reading read and refuse, said without them.
use Rattle.std.specs.Prelude.{◌≡◌, ℕ, ◌↔◌, true, false, nat_lt, MatchBool, List, length, Ok, Err}
use Rattle.program_text.specs.declared.fault.ReadKind.TheVariants.{TooLong}
use Rattle.program_text.specs.declared.limits.TheConstants.{MOST_TEXT_BYTES}
use Rattle.program_text.specs.declared.fault.ReadFault.{ReadFault}
use Rattle.program_text.specs.Tokens.{tokens_of, line_at_end}
use Rattle.task_program.specs.ProgramMarks.{ProgramMarks}
use Rattle.task_program.specs.ReadInVersion.{program_of}
use Rattle.task_program.specs.Versions.{begins_version_two}
use Rattle.loop_text.specs.Loops.{Tree}
use Rattle.task_program.specs.FirstFault.{AreRightWhole, IsFirstFault}
use Rattle.task_program.specs.FirstPlainFault.{program_rules}
use Rattle.task_program.specs.Versions.{body_of}
use Rattle.task_program.specs.FirstLoopFault.{loop_rules, HasLoopFault, IsTreeOf}
use Rattle.task_program.specs.RightTexts.{IsRightWhole, IsRightLoopText}

-- the fault of a text of too many bytes, or else this
abbrev pub UnlessTooLong : List ℕ → ReadFault → Type 0 → Type 0
UnlessTooLong text fault Else =
    MatchBool (nat_lt MOST_TEXT_BYTES (length text)) (fault ≡ record { kind = TooLong; line = 1 }) Else

abbrev pub HasPlainFault : List ℕ → ReadFault → Type 0
HasPlainFault text fault =
    IsFirstFault program_rules (tokens_of text) (line_at_end 1 text) fault

-- What is read is a sentence within the limits, each token right, and each such text is read. What
-- is refused has this fault, and no other.
pub record IsToldApart (text : List ℕ) : Type 0 where
  pub read : ((program : ProgramMarks) × (program_of text ≡ Ok program)) ↔ IsRightWhole text
  pub refused : (fault : ReadFault) → (program_of text ≡ Err fault)
      ↔ UnlessTooLong text fault (HasPlainFault text fault)

-- the header is not that of version 2
abbrev pub FaultIsFirst : List ℕ → Type 0
FaultIsFirst text = begins_version_two (tokens_of text) ≡ false → IsToldApart text

-- What is read is a sentence within the limits, each token right, of which the expansion is the
-- program, and each such text is read. What is refused has this fault, and no other.
pub record IsToldInLoops (text : List ℕ) : Type 0 where
  pub read : (program : ProgramMarks)
      → (program_of text ≡ Ok program) ↔ IsRightLoopText text program
  pub refused : (fault : ReadFault) → (program_of text ≡ Err fault)
      ↔ UnlessTooLong text fault (HasLoopFault text fault)
  -- and a sentence of right tokens has a tree
  pub has_tree : AreRightWhole loop_rules (body_of text)
      → (tree : Tree) × IsTreeOf (body_of text) tree

-- the header is that of version 2
abbrev pub LoopFaultIsFirst : List ℕ → Type 0
LoopFaultIsFirst text = begins_version_two (tokens_of text) ≡ true → IsToldInLoops text
