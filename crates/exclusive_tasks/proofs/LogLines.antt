-- The lines of a log, taken one by one.
use Rattle.std.proofs.Common.{◌≡◌, ◌≢◌, ℕ, ◌+◌, ◌<◌, List, [], ◌∷◌, ◌++◌, length, take, get_or, refl}
use Rattle.std.proofs.Common.{ap, sym, ◌∙◌, add-one, append-nil, flat_map, Some, None, subst}
use Rattle.std.proofs.Math.Seq.{take-suc}
use Rattle.std.proofs.lemmas.Grind.{flat_map-append}
use Rattle.exclusive_tasks.specs.Lines.{AreRightBefore, Tells, claims_told, events_told, words_say}
use Rattle.exclusive_tasks.specs.Exclusion.{AreApart}
use Rattle.exclusive_tasks.specs.declared.claim.Claim.{Claim}
use Rattle.exclusive_tasks.specs.declared.claim.Event.{Event}
use Rattle.exclusive_tasks.specs.declared.line.Said.{Said}
use Rattle.exclusive_tasks.specs.declared.line.TheConstants.{MOST_WORDS}

pub first_words_say : (words : List (List ℕ)) → words_say (take MOST_WORDS words) ≡ words_say words
first_words_say [] = refl
first_words_say (a ∷ []) = refl
first_words_say (a ∷ b ∷ []) = refl
first_words_say (verb ∷ thread ∷ segment ∷ []) = refl
first_words_say (a ∷ b ∷ c ∷ d ∷ []) = refl
first_words_say (a ∷ b ∷ c ∷ d ∷ e ∷ []) = refl
first_words_say (a ∷ b ∷ c ∷ d ∷ e ∷ f ∷ rest) = refl

-- words that are neither three nor five say nothing
pub none_said : (words : List (List ℕ)) → length words ≢ 0 → length words ≢ 3 → length words ≢ 5
    → words_say words ≡ None
none_said [] none three five = absurd (none refl)
none_said (a ∷ []) none three five = refl
none_said (a ∷ b ∷ []) none three five = refl
none_said (verb ∷ thread ∷ segment ∷ []) none three five = absurd (three refl)
none_said (a ∷ b ∷ c ∷ d ∷ []) none three five = refl
none_said (a ∷ b ∷ c ∷ d ∷ e ∷ []) none three five = absurd (five refl)
none_said (a ∷ b ∷ c ∷ d ∷ e ∷ f ∷ rest) none three five = refl

pub some_is_not_none : (s : Said) → Some s ≡ None → ⊥
some_is_not_none s h = cc

-- what one line more says
pub told_one_more : {A : Type 0} (f : List ℕ → List A) (lines : List (List ℕ)) (n : ℕ)
    (old new : List A)
    → n < length lines
    → old ≡ flat_map f (take n lines)
    → new ≡ old ++ f (get_or lines n [])
    → new ≡ flat_map f (take (n + 1) lines)
told_one_more f lines n old new inside before after =
    let more : take (n + 1) lines ≡ take n lines ++ (get_or lines n [] ∷ []) =
    rw add-one (take-suc lines n [] inside) in
    let last : flat_map f (get_or lines n [] ∷ []) ≡ f (get_or lines n []) =
    append-nil (f (get_or lines n [])) in
    after ∙ ap (λ xs. xs ++ f (get_or lines n [])) before
    ∙ ap (λ xs. flat_map f (take n lines) ++ xs) (sym last)
    ∙ sym (flat_map-append f (take n lines) (get_or lines n [] ∷ []))
    ∙ ap (flat_map f) (sym more)

-- the tasks of lines are apart, where those that were read from them are
pub apart_told : (lines : List (List ℕ)) (claims : List Claim) (events : List Event)
    → Tells lines claims events
    → AreApart claims events
    → AreRightBefore lines (length lines) × AreApart (claims_told lines) (events_told lines)
apart_told lines claims events told apart = (
  told.right,
  subst (λ (es : List Event). AreApart (claims_told lines) es) told.each_event
      (subst (λ (cs : List Claim). AreApart cs events) told.each_claim apart),
)
