-- Carried out: lists of numbers with a place for each number.
use Rattle.std.specs.Prelude.{ℕ, ◌≡◌, List, Some, Vec, map, slice_get}
use Rattle.std.specs.Prelude.{Contains}
use Rattle.std.specs.declared.alloc.Global.{Global}

-- the numbers of each list
abbrev pub lists_of : List (Vec ℕ Global) → List (List ℕ)
lists_of lists = map (λ (v : Vec ℕ Global). v.items) lists

-- the list at the place has the number
pub record IsListed (lists : List (List ℕ)) (place number : ℕ) : Type 0 where
  pub list : List ℕ
  pub is_list : slice_get lists place ≡ Some list
  pub has : Contains list number
