-- Which changes of costs a list behind a program names, one on a line, and what is wrong with others.
use Rattle.std.specs.Prelude.{ℕ, ◌≡◌, ◌+◌, ⊤, List, [], ◌∷◌, Option, Some, None, option_map}
use Rattle.std.specs.Prelude.{slice_set}
use Rattle.command_words.specs.Changes.{change_of}
use Rattle.command_words.specs.declared.changes.Change.{Change}
use Rattle.program_text.specs.PlainWords.{words_of}
use Rattle.whatif_costs.specs.Changed.{refusal_of}
use Rattle.whatif_costs.specs.declared.fault.WhatFault.{WhatFault}
use Rattle.large_documents.specs.declared.change_list.ChangeLine.{ChangeLine}
use Rattle.large_documents.specs.declared.change_list.ChangeLine.TheVariants.{Blank, Puts}
use Rattle.large_documents.specs.declared.change_list.ListFault.{ListFault}
use Rattle.large_documents.specs.declared.change_list.ListFault.TheVariants.{OutOfMemory, Wrong}
use Rattle.large_documents.specs.declared.change_list.WrongLine.{WrongLine}
use Rattle.large_documents.specs.declared.change_list.WrongLine.TheVariants.{BadForm, Refused}

-- a line has no words, or one: a change, as the command line spells it
abbrev pub words_say : List (List ℕ) → Option ChangeLine
words_say [] = Some Blank
words_say (word ∷ []) = option_map Puts (change_of word)
words_say (a ∷ b ∷ rest) = None

abbrev pub line_says : List ℕ → Option ChangeLine
line_says line = words_say (words_of line)

-- the changes of a line and of those behind it
abbrev pub with_line : Option ChangeLine → Option (List Change) → Option (List Change)
with_line None changes = None
with_line (Some Blank) changes = changes
with_line (Some (Puts change)) changes = option_map (λ more. change ∷ more) changes

-- the changes that lines list, in their order, where each line may stand there
abbrev pub listed : List (List ℕ) → Option (List Change)
listed [] = Some []
listed (line ∷ lines) = with_line (line_says line) (listed lines)

-- ---- what is wrong with a list

-- why a change is refused where these are the costs, if it is
abbrev pub refused_with : List ℕ → Change → Option WhatFault
refused_with costs change =
    refusal_of (record { costs = costs; predecessors = [] }) change.segment change.cost

-- what is wrong with a line, where the changes before it have led to these costs
abbrev pub wrong_with : List ℕ → Option ChangeLine → Option WrongLine
wrong_with costs None = Some BadForm
wrong_with costs (Some Blank) = None
wrong_with costs (Some (Puts change)) = option_map Refused (refused_with costs change)

-- the costs after its change
abbrev pub costs_behind : List ℕ → Option ChangeLine → List ℕ
costs_behind costs None = costs
costs_behind costs (Some Blank) = costs
costs_behind costs (Some (Puts change)) = slice_set costs change.segment change.cost

-- the line with this index, where something is wrong with it, or else a later one
abbrev pub or_later : ℕ → Option WrongLine → Option (ℕ × WrongLine) → Option (ℕ × WrongLine)
or_later i None later = later
or_later i (Some why) later = Some (i, why)

-- the first wrong line from the i-th on, and what is wrong with it
abbrev pub wrong_from : List ℕ → ℕ → List (List ℕ) → Option (ℕ × WrongLine)
wrong_from costs i [] = None
wrong_from costs i (line ∷ lines) =
    or_later i (wrong_with costs (line_says line))
    (wrong_from (costs_behind costs (line_says line)) (i + 1) lines)

abbrev pub first_wrong : List ℕ → List (List ℕ) → Option (ℕ × WrongLine)
first_wrong costs lines = wrong_from costs 0 lines

-- ---- what a fault says

-- out of memory says nothing of the list
abbrev pub IsListFault : List ℕ → List (List ℕ) → ListFault → Type 0
IsListFault costs lines (Wrong i why) = first_wrong costs lines ≡ Some (i, why)
IsListFault costs lines OutOfMemory = ⊤
