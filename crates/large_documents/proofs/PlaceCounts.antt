-- One more than the largest place.
use Rattle.std.proofs.Common.{◌≡◌, ◌+◌, ◌<◌, ◌∙◌, ◌++◌, ℕ, zero, suc, List, [], ◌∷◌, length, take}
use Rattle.std.proofs.Common.{get_or, ap, arith}
use Rattle.std.proofs.Common.{max}
use Rattle.std.proofs.lemmas.List.{take_more}
use Rattle.task_segments.specs.Schedule.{at}
use Rattle.large_documents.specs.Places.{place_count}

count_push : (xs : List ℕ) (y : ℕ) → place_count (xs ++ y ∷ []) ≡ max (place_count xs) (y + 1)
count_push [] y = omega arith
count_push (x ∷ xs) y = omega (arith, count_push xs y)

pub count_more : (xs : List ℕ) (i : ℕ) → i < length xs
    → place_count (take (i + 1) xs) ≡ max (place_count (take i xs)) (get_or xs i 0 + 1)
count_more xs i inside =
    ap place_count (take_more xs i 0 inside) ∙ count_push (take i xs) (get_or xs i 0)

pub below_count : (places : List ℕ) (s : ℕ) → s < length places
    → at places s < place_count places
below_count [] s inside = absurd (omega (arith, inside))
below_count (x ∷ xs) zero inside = omega arith
below_count (x ∷ xs) (suc s) inside =
    omega (arith, below_count xs s (omega (arith, inside)))
