-- Carried out: lists in one buffer that are filled in any order.
use Rattle.std.specs.Prelude.{ℕ, ◌+◌, ◌-◌, ◌≤◌, List, [], ◌∷◌, slice_range}

-- the lists so far, and how many numbers each has room for
pub record Filled : Type 0 where
  pub lists : List (List ℕ)
  pub rooms : List ℕ

-- the lists with these counts, whose rooms have these ends and begin here
abbrev pub lists_with : List ℕ → ℕ → List ℕ → List ℕ → List (List ℕ)
lists_with items begin [] counts = []
lists_with items begin (end ∷ ends) [] = []
lists_with items begin (end ∷ ends) (count ∷ counts) =
    slice_range items begin (begin + count) ∷ lists_with items end ends counts

abbrev pub rooms_from : ℕ → List ℕ → List ℕ
rooms_from begin [] = []
rooms_from begin (end ∷ ends) = (end - begin) ∷ rooms_from end ends

-- each list has a count, for which it has room
abbrev pub AreFilled : ℕ → List ℕ → List ℕ → Type 0
AreFilled begin [] [] = Unit {0}
AreFilled begin [] (count ∷ counts) = ⊥
AreFilled begin (end ∷ ends) [] = ⊥
AreFilled begin (end ∷ ends) (count ∷ counts) = (begin + count ≤ end) × AreFilled end ends counts
