-- What a tally holds of a text of version 2: the marks of its expansion.
use Rattle.std.specs.Prelude.{◌≡◌, ◌≤◌, ◌⊎◌, ℕ, false, List, [], None}
use Rattle.std.specs.Option.{IfSome}
use Rattle.std.specs.String.{string_bytes}
use Rattle.program_text.specs.declared.limits.TheConstants.{MOST_WORK}
use Rattle.program_text.specs.declared.fault.ReadFault.{ReadFault}
use Rattle.program_text.specs.Limits.{work_of}
use Rattle.program_text.specs.Tokens.{Token}
use Rattle.loop_text.specs.Loops.{Tree}
use Rattle.task_program.specs.Canonical.{canonical_text}
use Rattle.task_program.specs.declared.version.Version.TheVariants.{Two}
use Rattle.task_program.specs.Expanded.{empty_expansion}
use Rattle.task_program.specs.ExpandsTo.{program_of_state, state_after_tree}
use Rattle.task_program.specs.Expansion.{expansion}
use Rattle.task_program.specs.ExpansionFault.{HasExpansionFaultBy, first_fault_by}
use Rattle.task_program.specs.FirstFault.{IsFirstFault}
use Rattle.task_program.specs.FirstLoopFault.{IsTreeOf, loop_rules}
use Rattle.task_program.specs.Nested.{IsNested}
use Rattle.task_segments.specs.Moments.{last_moment}
use Rattle.large_text.specs.LoopFaults.{large_fault_of}
use Rattle.large_text.specs.Tallied.{Tallies}
use Rattle.large_text.specs.declared.printer.Printer.{Printer}
use Rattle.large_text.specs.declared.tally.Tally.{Tally}

-- no piece of the tree's expansion is at fault, and all of its marks have been taken
pub record TalliesTree (tree : Tree) (tally : Tally) : Type 0 where
  pub right : first_fault_by large_fault_of empty_expansion (expansion [] false tree) ≡ None
  pub nested : IsNested (state_after_tree tree).tree.marks
  pub little : work_of (state_after_tree tree).tree.marks ≤ MOST_WORK
  pub tallies : Tallies tally (last_moment (state_after_tree tree).tree.marks)
  pub prints : IfSome tally.printer (λ (printer : Printer). string_bytes printer.text
      ≡ canonical_text (program_of_state Two (state_after_tree tree)))

-- the first fault of the tokens behind the header, where the text ends on this line, or else that of
-- the expansion of the tree that they spell
abbrev pub HasLoopFaultOf : List Token → (end_line : ℕ) → ReadFault → Type 0
HasLoopFaultOf tokens end_line fault =
    IsFirstFault loop_rules tokens end_line fault
    ⊎ ((tree : Tree) × IsTreeOf tokens tree × HasExpansionFaultBy large_fault_of tree fault)
