-- The reading of a program: the flat list of its marks.
use Rattle.std.specs.Prelude.{ℕ, Bool, List}
use Rattle.program_text.specs.declared.statement.Item.{Item}

-- A task or a group begins and ends, a task works, and a task waits for its children.
pub data Mark : Type 0 where
  Begins : (undeferred : Bool) (items : List Item) → Mark
  Ends : Mark
  Works : (cost : ℕ) → Mark
  Waits : Mark
  GroupBegins : Mark
  GroupEnds : Mark
