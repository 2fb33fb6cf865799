-- A text has a tree exactly where nothing is wrong with it.
use Rattle.std.specs.Prelude.{◌≡◌, ℕ, ◌≤◌, ◌↔◌, true, false, List, length}
use Rattle.program_text.specs.declared.limits.TheConstants.{MOST_TEXT_BYTES}
use Rattle.program_text.specs.Tokens.{tokens_of}
use Rattle.task_program.specs.declared.version.Version.TheVariants.{Two}
use Rattle.task_program.specs.ProgramMarks.{ProgramMarks}
use Rattle.task_program.specs.Versions.{begins_version_two}
use Rattle.task_program.specs.Trees.{HasTree}
use Rattle.loop_text.specs.Loops.{Tree}
use Rattle.task_program.specs.ExpandsTo.{ExpandsTo}
use Rattle.task_program.specs.FirstFault.{AreRightWhole}
use Rattle.task_program.specs.FirstPlainFault.{program_rules}
use Rattle.task_program.specs.Versions.{body_of}
use Rattle.task_program.specs.FirstLoopFault.{loop_rules, IsTreeOf}

-- a text of version 1 without a fault: a sentence within the limits, each token right
pub record IsRightWhole (text : List ℕ) : Type 0 where
  pub text_fits : length text ≤ MOST_TEXT_BYTES
  pub whole : AreRightWhole program_rules (tokens_of text)

-- a text of version 1 has a tree exactly where it has no fault
abbrev pub IsReadWhereRight : List ℕ → Type 0
IsReadWhereRight text =
    begins_version_two (tokens_of text) ≡ false
    → ((program : ProgramMarks) × HasTree text program) ↔ IsRightWhole text

-- a text of version 2 without a fault, the expansion of which is this program
pub record IsRightLoopText (text : List ℕ) (program : ProgramMarks) : Type 0 where
  pub text_fits : length text ≤ MOST_TEXT_BYTES
  pub tree : Tree
  pub whole : IsTreeOf (body_of text) tree
  pub expanded : ExpandsTo Two tree program

-- A text of version 2 has a program as its tree exactly where the tokens after its header are a
-- sentence, each token right, whose tree expands to that program; and each sentence of right tokens
-- has a tree.
pub record AreLoopsReadWhereRight (text : List ℕ) : Type 0 where
  pub read : (program : ProgramMarks) → HasTree text program ↔ IsRightLoopText text program
  pub has_tree : AreRightWhole loop_rules (body_of text)
      → (tree : Tree) × IsTreeOf (body_of text) tree

abbrev pub IsReadWhereRightInLoops : List ℕ → Type 0
IsReadWhereRightInLoops text =
    begins_version_two (tokens_of text) ≡ true → AreLoopsReadWhereRight text
