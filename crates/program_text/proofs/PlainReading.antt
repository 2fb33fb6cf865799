-- A text that is read word by word, by steps that may fail.
use Rattle.std.proofs.Common.{◌≡◌, ◌+◌, ◌<◌, ℕ, List, [], ◌∷◌, length, drop, get_or, map, filter}
use Rattle.std.proofs.Common.{Option, Some, None, ap, sym, refl, ◌∙◌, arith, subst}
use Rattle.std.proofs.lemmas.List.{at_drop_more, at_drop_all}
use Rattle.std.proofs.lemmas.Bool.{ne_eqb}
use Rattle.std.specs.Option.{option_and_then, option_map}
use Rattle.program_text.specs.PlainWords.{has_byte, all_or_none, said_by, all_steps, step_by}

-- reading on from p behind n parts of a text gives what reading all of it from the beginning gives
abbrev pub ReadsOn : {P : Type 0} → (P → List ℕ → Option P) → P → List (List ℕ) → ℕ → P → Type 0
ReadsOn step begin parts n p =
    all_steps step p (filter has_byte (drop n parts)) ≡ all_steps step begin (filter has_byte parts)

-- the part of a text behind n others
pub record IsPart (parts : List (List ℕ)) (n : ℕ) (word : List ℕ) : Type 0 where
  pub is_there : n < length parts
  pub is_part : word ≡ get_or parts n word

steps_from_part : {P : Type 0} (step : P → List ℕ → Option P) (parts : List (List ℕ)) (n : ℕ)
    (p : P) (word : List ℕ)
    → IsPart parts n word
    → all_steps step p (filter has_byte (drop n parts))
    ≡ all_steps step p (filter has_byte (word ∷ drop (n + 1) parts))
steps_from_part {P} step parts n p word part =
    let F : List (List ℕ) → Option P = λ ps. all_steps step p (filter has_byte ps) in
    at_drop_more F parts n word part.is_there
    ∙ ap (λ w. F (w ∷ drop (n + 1) parts)) (sym part.is_part)

steps_over_empty : {P : Type 0} (step : P → List ℕ → Option P) (p : P) (word : List ℕ)
    (rest : List (List ℕ))
    → length word ≡ 0
    → all_steps step p (filter has_byte (word ∷ rest)) ≡ all_steps step p (filter has_byte rest)
steps_over_empty step p word rest none = rw none refl

steps_at_word : {P : Type 0} (step : P → List ℕ → Option P) (p : P) (word : List ℕ)
    (rest : List (List ℕ))
    → (length word ≡ 0 → ⊥)
    → all_steps step p (filter has_byte (word ∷ rest))
    ≡ all_steps step p (word ∷ filter has_byte rest)
steps_at_word step p word rest some = let not_zero = ne_eqb (length word) 0 some in rw not_zero refl

-- a part without bytes
pub reads_nothing : {P : Type 0} (step : P → List ℕ → Option P) (begin : P) (parts : List (List ℕ))
    (n m : ℕ) (p : P) (word : List ℕ)
    → ReadsOn step begin parts n p
    → IsPart parts n word
    → m ≡ n + 1
    → length word ≡ 0
    → ReadsOn step begin parts m p
reads_nothing step begin parts n m p word reads part next none =
    let Q : ℕ → Type 0 = λ k. ReadsOn step begin parts k p in
    subst Q (sym
    next) (sym (steps_over_empty step p word (drop (n + 1) parts) none)
    ∙ sym (steps_from_part step parts n p word part)
    ∙ reads)

at_word : {P : Type 0} (step : P → List ℕ → Option P) (begin : P) (parts : List (List ℕ)) (n : ℕ)
    (p : P) (word : List ℕ)
    → ReadsOn step begin parts n p → IsPart parts n word → (length word ≡ 0 → ⊥)
    → all_steps step begin (filter has_byte parts)
    ≡ all_steps step p (word ∷ filter has_byte (drop (n + 1) parts))
at_word step begin parts n p word reads part some =
    sym reads
    ∙ steps_from_part step parts n p word part
    ∙ steps_at_word step p word (drop (n + 1) parts) some

-- a word at which no step can be made
pub stops : {P : Type 0} (step : P → List ℕ → Option P) (begin : P) (parts : List (List ℕ)) (n : ℕ)
    (p : P) (word : List ℕ)
    → ReadsOn step begin parts n p
    → IsPart parts n word
    → (length word ≡ 0 → ⊥)
    → step p word ≡ None
    → all_steps step begin (filter has_byte parts) ≡ None
stops step begin parts n p word reads part some stuck =
    at_word step begin parts n p word reads part some ∙ rw stuck refl

-- a word at which a step is made
pub reads_word : {P : Type 0} (step : P → List ℕ → Option P) (begin : P) (parts : List (List ℕ))
    (n m : ℕ) (p after : P) (word : List ℕ)
    → ReadsOn step begin parts n p
    → IsPart parts n word
    → m ≡ n + 1
    → (length word ≡ 0 → ⊥)
    → step p word ≡ Some after
    → ReadsOn step begin parts m after
reads_word step begin parts n m p after word reads part next some moves =
    let all : all_steps step begin (filter has_byte parts)
    ≡ all_steps step after (filter has_byte (drop (n + 1) parts)) =
    at_word step begin parts n p word reads part some ∙ rw moves refl in
    let Q : ℕ → Type 0 = λ k. ReadsOn step begin parts k after in
    subst Q (sym next) (sym all)

pub at_end : {P : Type 0} (step : P → List ℕ → Option P) (begin : P) (parts : List (List ℕ)) (n : ℕ)
    (p : P)
    → ReadsOn step begin parts n p
    → n ≡ length parts
    → all_steps step begin (filter has_byte parts) ≡ Some p
at_end step begin parts n p reads all =
    sym reads ∙ at_drop_all (λ ps. all_steps step p (filter has_byte ps)) parts n (omega arith)

rest_same : {P T : Type 0} (says : List ℕ → Option T) (step : P → T → Option P)
    (words : List (List ℕ)) (m : Option (List T)) (r : Option P)
    → ((q : P) → all_steps (step_by says step) q words ≡ option_and_then (all_steps step q) m)
    → option_and_then (λ a. all_steps (step_by says step) a words) r
    ≡ option_and_then (λ ts. option_and_then (λ a. all_steps step a ts) r) m
rest_same says step words None None same = refl
rest_same says step words None (Some a) same = same a
rest_same says step words (Some ts) None same = refl
rest_same says step words (Some ts) (Some a) same = same a

more_same : {P T : Type 0} (step : P → T → Option P) (p : P) (t : T) (m : Option (List T))
    → option_and_then (λ ts. option_and_then (λ a. all_steps step a ts) (step p t)) m
    ≡ option_and_then (all_steps step p) (option_map (λ more. t ∷ more) m)
more_same step p t None = refl
more_same step p t (Some ts) = refl

first_same : {P T : Type 0} (says : List ℕ → Option T) (step : P → T → Option P) (p : P)
    (o : Option T) (words : List (List ℕ))
    → ((q : P)
    → all_steps (step_by says step) q words
    ≡ option_and_then (all_steps step q) (said_by says words))
    → option_and_then (λ after. all_steps (step_by says step) after words)
    (option_and_then (step p) o)
    ≡ option_and_then (all_steps step p) (all_or_none (o ∷ map says words))
first_same says step p None words same = refl
first_same says step p (Some t) words same =
    rest_same says step words (said_by says words) (step p t) same
    ∙ more_same step p t (said_by says words)

-- reading the words is reading what they say
pub words_say : {P T : Type 0} (says : List ℕ → Option T) (step : P → T → Option P) (p : P)
    (words : List (List ℕ))
    → all_steps (step_by says step) p words
    ≡ option_and_then (all_steps step p) (said_by says words)
words_say says step p [] = refl
words_say says step p (word ∷ words) =
    first_same says step p (says word) words (λ q. words_say says step q words)
