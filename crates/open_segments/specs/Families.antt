-- Carried out: the children of each task that have depend items. The others are kept by none.
use Rattle.std.specs.Prelude.{ℕ, ◌≡◌, Bool, true, false, if◌then◌else◌, List, [], ◌∷◌, Option}
use Rattle.std.specs.Prelude.{Some, None, nat_eq, slice_index_or}
use Rattle.std.specs.declared.hash.FoldHasher.{FoldHasher}
use Rattle.std.specs.declared.hash.BuildHasherDefault.{BuildHasherDefault}
use Rattle.std.specs.HashMap.{get, HashMap}
use Rattle.program_text.specs.declared.statement.Item.{Item}
use Rattle.task_segments.specs.Table.{Table}
use Rattle.depend_table.specs.Siblings.{Sibling}
use Rattle.open_segments.specs.KeptLists.{AreEntered}

abbrev pub FamilyMap : Type 0
FamilyMap = HashMap ℕ (List Sibling) (BuildHasherDefault FoldHasher)

abbrev pub family_of : Option (List Sibling) → List Sibling
family_of None = []
family_of (Some family) = family

-- what is kept of the children of a task
abbrev pub family_at : FamilyMap → ℕ → List Sibling
family_at families p = family_of (get nat_eq families p)

abbrev pub has_items : List Item → Bool
has_items [] = false
has_items (item ∷ items) = true

-- those with depend items
abbrev pub depending : List Sibling → List Sibling
depending [] = []
depending (sibling ∷ older) =
    if has_items sibling.items then sibling ∷ depending older else depending older

-- for each task its children with depend items that the first n segments create
pub record AreInFamilies (table : Table) (n : ℕ) (families : FamilyMap) : Type 0 where
  pub siblings : List (List Sibling)
  pub entered : AreEntered table n siblings
  pub family : (p : ℕ) → family_at families p ≡ depending (slice_index_or siblings p [])
