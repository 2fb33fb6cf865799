-- What the pieces of an expansion amount to, one after another.
use Rattle.std.specs.Prelude.{ℕ, ◌+◌, List, [], ◌∷◌, ◌++◌, fold}
use Rattle.program_text.specs.declared.statement.Item.{Item}
use Rattle.program_text.specs.Marks.{Mark}
use Rattle.program_text.specs.Marks.Mark.{Begins, Works, Waits, GroupBegins}
use Rattle.task_program.specs.Names.{number_of_name, with_name}
use Rattle.task_program.specs.Canonical.{header_line, line_of_mark, solid_bytes}
use Rattle.task_program.specs.declared.version.Version.TheVariants.{Two}
use Rattle.task_program.specs.TreeSoFar.{TreeSoFar, with_mark, with_block, without_innermost}
use Rattle.task_program.specs.TreeSoFar.Block.{TaskBlock, GroupBlock}
use Rattle.task_program.specs.Expansion.{Place, Piece}
use Rattle.task_program.specs.Expansion.Piece.{TurnBegins, TaskComes, ItemComes, TaskOpens}
use Rattle.task_program.specs.Expansion.Piece.{GroupComes, GroupOpens, BlockEnds, WorkIs, WaitIs}

-- What was expanded: the iterations of all loops; the bytes outside blanks of the canonical text so far,
-- with one `}` for each block that is open; the names of the locations in the order of their first
-- mention; the items of the task that comes; and the tree.
pub record ExpansionState : Type 0 where
  pub turns : ℕ
  pub bytes : ℕ
  pub names : List (List ℕ)
  pub items : List Item
  pub tree : TreeSoFar

-- the bytes with this line more, and so many `}`
abbrev pub bytes_after : ExpansionState → Mark → (braces : ℕ) → ℕ
bytes_after state mark braces = (state.bytes + solid_bytes (line_of_mark state.names mark)) + braces

abbrev pub empty_expansion : ExpansionState
empty_expansion = record {
  turns = 0;
  bytes = solid_bytes (header_line Two);
  names = [];
  items = [];
  tree = record { blocks = []; marks = [] };
}

abbrev pub with_place : ExpansionState → Place → ExpansionState
with_place state place = record state {
  names = with_name state.names place.location;
  items = state.items
      ++ record { kind = place.kind; name = number_of_name state.names place.location } ∷ [];
}

abbrev pub after_piece : ExpansionState → Piece → ExpansionState
after_piece state (TurnBegins line) = record state { turns = state.turns + 1 }
after_piece state (TaskComes line) = state
after_piece state (ItemComes place) = with_place state place
after_piece state (TaskOpens undeferred line) = record state {
  bytes = bytes_after state (Begins undeferred state.items) 1;
  tree = with_block state.tree (TaskBlock line) (Begins undeferred state.items);
  items = [];
}
after_piece state (GroupComes line) = state
after_piece state (GroupOpens line) = record state {
  bytes = bytes_after state GroupBegins 1;
  tree = with_block state.tree (GroupBlock line) GroupBegins;
}
after_piece state BlockEnds = record state { tree = without_innermost state.tree }
after_piece state (WorkIs cost line) = record state {
  bytes = bytes_after state (Works cost) 0;
  tree = with_mark state.tree (Works cost);
}
after_piece state (WaitIs line) = record state {
  bytes = bytes_after state Waits 0;
  tree = with_mark state.tree Waits;
}

abbrev pub after_pieces : ExpansionState → List Piece → ExpansionState
after_pieces state pieces = fold after_piece state pieces
