-- Carried out: lists of depend items that do not conflict, as a quick look shows: both only read,
-- or their names are numbered apart.
use Rattle.std.specs.Prelude.{ℕ, ◌<◌, ◌≤◌, ◌⊎◌, Bool, true, false, List, length, slice_index_or}
use Rattle.program_text.specs.declared.statement.DependKind.{DependKind}
use Rattle.program_text.specs.declared.statement.DependKind.TheVariants.{DependIn}
use Rattle.program_text.specs.declared.statement.Item.{Item}

abbrev pub is_in : DependKind → Bool
is_in DependIn = true
is_in other = false

abbrev pub is_read : Item → Bool
is_read item = is_in item.kind

-- no name is greater
abbrev pub AreUpTo : ℕ → List Item → Type 0
AreUpTo most items =
    (k : ℕ) (other : Item) → k < length items → (slice_index_or items k other).name ≤ most

-- no name is lesser
abbrev pub AreFrom : ℕ → List Item → Type 0
AreFrom least items =
    (k : ℕ) (other : Item) → k < length items → least ≤ (slice_index_or items k other).name

-- all names of the one are below a number, and those of the other are not
pub record AreBelow (one other : List Item) : Type 0 where
  pub most : ℕ
  pub least : ℕ
  pub up_to : AreUpTo most one
  pub from : AreFrom least other
  pub apart : most < least

abbrev pub AreApart : List Item → List Item → Type 0
AreApart one other = AreBelow one other ⊎ AreBelow other one
