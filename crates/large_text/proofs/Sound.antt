-- What a reader of marks holds of the tokens that it has taken and the marks that it has handed on.
use Rattle.std.proofs.Common.{◌≡◌, ◌≤◌, List, length}
use Rattle.std.specs.Prelude.{drop}
use Rattle.program_text.specs.Limits.{work_of}
use Rattle.program_text.specs.Marks.{Mark}
use Rattle.program_text.specs.Tokens.{Token, texts}
use Rattle.task_program.specs.FirstFault.{AreRight}
use Rattle.task_program.specs.Faults.{State}
use Rattle.task_program.proofs.FoundPlaces.{Explained}
use Rattle.task_program.proofs.Begun.{Began}
use Rattle.task_program.proofs.Tallies.{NoItems, tally_of, tally_now}
use Rattle.large_text.specs.declared.reader.MarkReader.{MarkReader}
use Rattle.large_text.specs.LargeReading.{state_of, IsLargeWithin}
use Rattle.large_text.specs.LargeTrees.{large_rules}
use Rattle.large_text.specs.LoopMarked.{AreOpen}
use Rattle.large_text.proofs.Items.{AreCounted}

-- what is so of a state of the reading behind these tokens
pub record IsBehind (tokens : List Token) (state : State) : Type 0 where
  pub explained : Explained (texts tokens) state
  pub began : Began (texts tokens) state
  pub tally_is : tally_of (drop 2 tokens) ≡ tally_now state
  pub no_items : NoItems state.place state.head.items
  pub open_are : AreOpen state.tree.blocks state.tree.marks

-- what is so of a reader that has taken these tokens and handed on these marks
pub record IsSound (tokens : List Token) (marks : List Mark) (reader : MarkReader) : Type 0 where
  pub behind : IsBehind tokens (state_of reader marks)
  pub right : AreRight large_rules tokens
  pub work_is : reader.work ≡ work_of marks
  pub counted : AreCounted tokens reader.place reader.all_items
  pub few : length marks ≤ reader.bytes
  pub within : IsLargeWithin reader
