-- Items that share what others share, with one item for each name.
use Rattle.std.specs.Prelude.{ℕ, ◌≡◌, Bool, true, if◌then◌else◌, List, [], ◌∷◌, ◌++◌, ◌==◌}
use Rattle.std.specs.Prelude.{Option, Some, None}
use Rattle.program_text.specs.declared.statement.Item.{Item}
use Rattle.program_text.specs.declared.statement.DependKind.{DependKind}
use Rattle.program_text.specs.declared.statement.DependKind.TheVariants.{DependIn, DependOut}
use Rattle.program_text.specs.declared.statement.DependKind.TheVariants.{DependInOut}
use Rattle.program_text.specs.declared.statement.DependKind.TheVariants.{DependInOutSet}
use Rattle.depend_table.specs.Generations.{mentions, is_kind, sharing_at, ascend_from}

-- the names of these items are those of the others, each once, ascending, and their tasks share the
-- same
pub record AreMerged (items merged : List Item) : Type 0 where
  pub ascend : ascend_from 0 merged ≡ true
  pub mentioned : (name : ℕ) → mentions name merged ≡ mentions name items
  pub shared : (name : ℕ) → sharing_at name merged ≡ sharing_at name items

-- what an item that is alone on its name lets its task share
abbrev pub alone : DependKind → Option DependKind
alone DependIn = Some DependIn
alone DependOut = None
alone DependInOut = None
alone DependInOutSet = Some DependInOutSet

-- the type of one item in place of two on a name
abbrev pub both : DependKind → DependKind → DependKind
both one other = if is_kind one other then one else DependInOut

-- ---- items that are merged in order

-- the items that are merged, and the last one, which those that follow may join
abbrev pub with_last : List Item → Option Item → List Item
with_last merged None = merged
with_last merged (Some last) = merged ++ last ∷ []

-- the same, once an item has followed
abbrev pub merged_with : List Item → Option Item → Item → List Item
merged_with merged None item = merged ++ item ∷ []
merged_with merged (Some last) item =
    if last.name == item.name
    then merged ++ record { kind = both last.kind item.kind; name = item.name } ∷ []
    else merged ++ (last ∷ item ∷ [])
