-- Carried out: lists of numbers one after another in one buffer.
use Rattle.std.specs.Prelude.{ℕ, ◌≤◌, ◌≡◌, List, [], ◌∷◌, slice_range}

-- the lists with these ends, of which the first begins here
abbrev pub lists_from : List ℕ → ℕ → List ℕ → List (List ℕ)
lists_from items begin [] = []
lists_from items begin (end ∷ ends) = slice_range items begin end ∷ lists_from items end ends

-- the ends ascend, and the last of them is the end of the buffer
abbrev pub AreEnds : ℕ → List ℕ → ℕ → Type 0
AreEnds begin [] last = begin ≡ last
AreEnds begin (end ∷ ends) last = (begin ≤ end) × AreEnds end ends last
