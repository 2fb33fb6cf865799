-- Words between blanks, without comments, and what each of them says.
use Rattle.std.specs.Prelude.{ℕ, Bool, not, ◌==◌, ◌&&◌, List, [], ◌∷◌, length, map, filter, Option}
use Rattle.std.specs.Prelude.{Some, None, nat_le, if◌then◌else◌}
use Rattle.std.specs.List.{slice_split}
use Rattle.std.specs.Option.{option_and_then, option_map}
use Rattle.program_text.specs.Tokens.{is_blank}
use Rattle.program_text.specs.Words.{is_number, value_of}

abbrev pub has_byte : List ℕ → Bool
has_byte part = not (length part == 0)

-- the longest runs of bytes that are no blanks
abbrev pub words_of : List ℕ → List (List ℕ)
words_of text = filter has_byte (slice_split is_blank text)

-- the number that digits write, where it is no more than `most`
abbrev pub number_in_word : ℕ → List ℕ → Option ℕ
number_in_word most word =
    if is_number word && nat_le (value_of word) most then Some (value_of word) else None

-- all of them, if each is there
abbrev pub all_or_none : {A : Type 0} → List (Option A) → Option (List A)
all_or_none [] = Some []
all_or_none (None ∷ rest) = None
all_or_none (Some a ∷ rest) = option_map (λ more. a ∷ more) (all_or_none rest)

-- what words say, if each of them says something
abbrev pub said_by : {T : Type 0} → (List ℕ → Option T) → List (List ℕ) → Option (List T)
said_by says words = all_or_none (map says words)

-- one step after another, if each can be made
abbrev pub all_steps : {P T : Type 0} → (P → T → Option P) → P → List T → Option P
all_steps step p [] = Some p
all_steps step p (t ∷ rest) = option_and_then (λ after. all_steps step after rest) (step p t)

-- a step by what a word says
abbrev pub step_by : {P T : Type 0} → (List ℕ → Option T) → (P → T → Option P) → P → List ℕ
    → Option P
step_by says step p word = option_and_then (step p) (says word)
