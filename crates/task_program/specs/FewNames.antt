-- Carried out: how many names an expansion has: a task mentions so many at most.
use Rattle.std.specs.Prelude.{◌≡◌, ◌+◌, ◌*◌, ◌≤◌, length}
use Rattle.program_text.specs.Limits.{tasks_of}
use Rattle.program_text.specs.declared.limits.TheConstants.{MOST_ITEMS}
use Rattle.task_program.specs.Expanded.{ExpansionState}

pub record HasFewNames (state : ExpansionState) : Type 0 where
  pub items : length state.items ≤ MOST_ITEMS
  pub names : length state.names ≤ (MOST_ITEMS * tasks_of state.tree.marks) + length state.items

-- what stands at one state
abbrev pub IsAt : (here state : ExpansionState) → Type 0
IsAt here state = (here ≡ state) × HasFewNames here
