-- Carried out: what a line of a list adds to those before it.
use Rattle.std.specs.Prelude.{ℕ, ◌+◌, ◌-◌, ◌<◌, ◌≤◌, ◌≡◌, ⊤, List, [], ◌∷◌, Option, Some, None}
use Rattle.std.specs.Prelude.{length, slice_index_or, slice_set, sum}
use Rattle.command_words.specs.declared.changes.Change.{Change}
use Rattle.program_text.specs.declared.limits.TheConstants.{MOST_WORK}
use Rattle.large_documents.specs.ChangeLists.{wrong_with}
use Rattle.large_documents.specs.declared.change_list.ChangeLine.{ChangeLine}
use Rattle.large_documents.specs.declared.change_list.ChangeLine.TheVariants.{Blank, Puts}
use Rattle.large_documents.specs.declared.change_list.ListFault.{ListFault}
use Rattle.large_documents.specs.declared.change_list.ListFault.TheVariants.{OutOfMemory, Wrong}

-- its change, if it has one
abbrev pub changes_on : Option ChangeLine → List Change
changes_on None = []
changes_on (Some Blank) = []
changes_on (Some (Puts change)) = change ∷ []

-- what is wrong with the line of this index; out of memory says nothing of it
abbrev pub IsFaultOfLine : List ℕ → ℕ → Option ChangeLine → ListFault → Type 0
IsFaultOfLine costs i said (Wrong line why) = (line ≡ i) × (wrong_with costs said ≡ Some why)
IsFaultOfLine costs i said OutOfMemory = ⊤

-- the same of a line that has a change
abbrev pub IsFaultOfChange : List ℕ → ℕ → Change → ListFault → Type 0
IsFaultOfChange costs i change fault = IsFaultOfLine costs i (Some (Puts change)) fault

-- costs with this sum take a change: its segment is there, and their sum stays within the limit
pub record FitsPut (costs : List ℕ) (work : ℕ) (change : Change) : Type 0 where
  pub inside : change.segment < length costs
  pub within : slice_index_or costs change.segment 0 ≤ work
  pub work_after : work - slice_index_or costs change.segment 0 + change.cost
      ≡ sum (slice_set costs change.segment change.cost)
  pub small : work - slice_index_or costs change.segment 0 + change.cost ≤ MOST_WORK
