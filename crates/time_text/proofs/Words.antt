-- A line with too many words is known by its first few.
use Rattle.std.proofs.Common.{◌≡◌, ℕ, List, [], ◌∷◌, take, refl}
use Rattle.time_text.specs.TimeLines.{words_say}
use Rattle.time_text.specs.declared.line.TheConstants.{MOST_WORDS}

pub first_words_say : (words : List (List ℕ)) → words_say (take MOST_WORDS words) ≡ words_say words
first_words_say [] = refl
first_words_say (a ∷ []) = refl
first_words_say (a ∷ b ∷ []) = refl
first_words_say (a ∷ b ∷ c ∷ []) = refl
first_words_say (a ∷ b ∷ c ∷ d ∷ []) = refl
first_words_say (a ∷ b ∷ c ∷ d ∷ e ∷ rest) = refl
