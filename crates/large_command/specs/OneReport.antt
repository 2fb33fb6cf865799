-- All words and every input have a report, and no two, wherever the reading of a text that is too
-- long stops.
use Rattle.std.specs.Prelude.{◌≡◌, ℕ, List, Some}
use Rattle.spanprof_command.specs.Report.{Report}
use Rattle.large_command.specs.LargeCommand.{IsReport}

-- the report where the reader has this input and leaves some rest of it
pub record Reports (words : List (List ℕ)) (input : List ℕ) (output : Report) : Type 0 where
  pub rest : List ℕ
  pub report : IsReport words (Some input) (Some rest) output

abbrev pub HasOneReport : List (List ℕ) → List ℕ → Type 0
HasOneReport words input =
    (one other : Report) → Reports words input one → Reports words input other → one ≡ other

abbrev pub HasReport : List (List ℕ) → List ℕ → Type 0
HasReport words input = (output : Report) × Reports words input output
