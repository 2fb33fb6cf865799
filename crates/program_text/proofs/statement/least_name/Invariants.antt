use Rattle.std.proofs.Common.{ℕ, ◌<◌, ◌≤◌, slice_index_or}
use Rattle.program_text.specs.declared.statement.Item.{Item}
use Rattle.program_text.proofs.statement.least_name.Given as goal

-- of the items so far
abbrev pub invariant-loop-item : goal.invariant-loop-item
invariant-loop-item l =
    (k : ℕ) (other : Item) → k < l.item-index → l.least ≤ (slice_index_or l.items k other).name
