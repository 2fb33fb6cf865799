-- A line of a list with too many words is known by the first two.
use Rattle.std.proofs.Common.{◌≡◌, ℕ, List, [], ◌∷◌, take, refl}
use Rattle.large_documents.specs.ChangeLists.{words_say}

pub first_words_say : (words : List (List ℕ)) → words_say (take 2 words) ≡ words_say words
first_words_say [] = refl
first_words_say (a ∷ []) = refl
first_words_say (a ∷ b ∷ rest) = refl
