-- Places that are read word by word.
use Rattle.std.proofs.Common.{◌≡◌, ◌-◌, ◌∙◌, ◌++◌, ℕ, List, [], ◌∷◌, length, Option, Some}
use Rattle.std.proofs.Common.{None, ap, sym, refl, append-nil, append_assoc, map}
use Rattle.std.specs.List.{slice_split}
use Rattle.std.specs.Option.{option_and_then, option_map}
use Rattle.program_text.proofs.PlainReading.{IsPart, ReadsOn, at_end, stops}
use Rattle.program_text.specs.PlainWords.{all_or_none, all_steps, number_in_word, said_by, words_of}
use Rattle.program_text.specs.Tokens.{is_blank}
use Rattle.large_documents.specs.Places.{IsPlacesFault, places_in}
use Rattle.large_documents.specs.PlaceSteps.{IsWordFault, next_places}
use Rattle.large_documents.specs.declared.places.PlacesFault.{PlacesFault}
use Rattle.large_documents.specs.declared.places.PlacesFault.TheVariants.{BadForm, Count}
use Rattle.large_documents.specs.declared.places.PlacesFault.TheVariants.{OutOfMemory}

-- these places before others, if there are others
abbrev before : List ℕ → Option (List ℕ) → Option (List ℕ)
before places more = option_map (λ (others : List ℕ). places ++ others) more

joined : (places : List ℕ) (p : ℕ) (more : Option (List ℕ))
    → before (places ++ p ∷ []) more
    ≡ before places (option_map (λ (others : List ℕ). p ∷ others) more)
joined places p None = refl
joined places p (Some more) =
    ap (λ (xs : List ℕ). Some xs) (append_assoc places (p ∷ []) more)

one_read : (n : ℕ) (places : List ℕ) (said : Option ℕ) (words : List (List ℕ))
    → ((others : List ℕ) → all_steps (next_places n) others words
    ≡ before others (said_by (number_in_word (n - 1)) words))
    → option_and_then (λ after. all_steps (next_places n) after words)
    (option_map (λ (p : ℕ). places ++ p ∷ []) said)
    ≡ before places (all_or_none (said ∷ map (number_in_word (n - 1)) words))
one_read n places None words later = refl
one_read n places (Some p) words later =
    later (places ++ p ∷ []) ∙ joined places p (said_by (number_in_word (n - 1)) words)

-- reading on is reading the words that are left
reads_all : (n : ℕ) (places : List ℕ) (words : List (List ℕ))
    → all_steps (next_places n) places words
    ≡ before places (said_by (number_in_word (n - 1)) words)
reads_all n places [] = ap (λ (xs : List ℕ). Some xs) (sym (append-nil places))
reads_all n places (word ∷ words) =
    one_read n places (number_in_word (n - 1) word) words (λ others. reads_all n others words)

from_none : (more : Option (List ℕ)) → before [] more ≡ more
from_none None = refl
from_none (Some more) = refl

reads_text : (n : ℕ) (text : List ℕ) → all_steps (next_places n) [] (words_of text) ≡ places_in n text
reads_text n text = reads_all n [] (words_of text) ∙ from_none (places_in n text)

pub all_told : (n : ℕ) (text : List ℕ) (k : ℕ) (places : List ℕ)
    → ReadsOn (next_places n) [] (slice_split is_blank text) k places
    → k ≡ length (slice_split is_blank text)
    → places_in n text ≡ Some places
all_told n text k places reads all =
    sym (reads_text n text) ∙ at_end (next_places n) [] (slice_split is_blank text) k places reads all

pub word_refused : (n : ℕ) (text : List ℕ) (k : ℕ) (places word : List ℕ) (fault : PlacesFault)
    → ReadsOn (next_places n) [] (slice_split is_blank text) k places
    → IsPart (slice_split is_blank text) k word
    → (length word ≡ 0 → ⊥)
    → IsWordFault n places word fault
    → IsPlacesFault n text fault
word_refused n text k places word BadForm reads part some is =
    sym (reads_text n text)
    ∙ stops (next_places n) [] (slice_split is_blank text) k places word reads part some is
word_refused n text k places word Count reads part some is = absurd is
word_refused n text k places word OutOfMemory reads part some is = tt
