-- Parts of a statement: the clauses of a task that has none yet, and the number of an index.
use Rattle.std.specs.Prelude.{ℕ, false, List, [], min}
use Rattle.program_text.specs.Words.{value_of}
use Rattle.program_text.specs.declared.limits.TheConstants.{LARGEST_STEP}
use Rattle.loop_text.specs.declared.loop_reader.LoopHead.{LoopHead}

abbrev pub no_clauses : LoopHead
no_clauses = record {
  has_if = false;
  undeferred = false;
  has_final = false;
  is_final = false;
  items = [];
}

-- every larger number is out of range for each value of a variable
abbrev pub step_of : List ℕ → ℕ
step_of text = min (value_of text) LARGEST_STEP
