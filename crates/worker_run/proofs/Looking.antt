-- Looks at lanes, one after another.
use Rattle.std.proofs.Common.{ℕ, ◌+◌, ◌<◌, ◌≡◌, ◌≢◌, ◌++◌, ◌∷◌, [], List, Bool, true, false, take, drop, get_or, set, length}
use Rattle.std.proofs.Common.{refl, sym, ap, ◌∙◌, subst, inl, inr, append_assoc, arith, add-one, min, length-append, ◌≤◌}
use Rattle.std.proofs.lemmas.List.{drop_more, take_more_set, drop-set-lt, set_split, append-nil, take_all, drop_all}
use Rattle.std.proofs.lemmas.Bool.{cases_lt}
use Rattle.std.proofs.Math.Seq.{drop-append_seam, take-append_seam}
use Rattle.worker_run.specs.declared.look.Found.{Found}
use Rattle.worker_run.specs.declared.look.Found.TheVariants.{Token, Nothing, Unsure}
use Rattle.worker_run.specs.Looks.{AreLookedAt, after_unsure, in_turn}

-- what is found in all, where an earlier look was unsure or not
abbrev pub in_all : Bool → Found → Found
in_all false last = last
in_all true last = after_unsure last

pub unsure_again : (last : Found) → after_unsure (after_unsure last) ≡ after_unsure last
unsure_again (Token token) = refl
unsure_again Nothing = refl
unsure_again Unsure = refl

-- Those before have become `done` without a token: whatever the looks at those that are left do, so do the looks at all.
abbrev pub SoFar : {A : Type 0} → (A → Found → A → Type 0) → List A → Bool → (done rest : List A) → Type 0
SoFar {A = A} looks all unsure done rest = (last : Found) (others : List A) → AreLookedAt looks rest last others
    → AreLookedAt looks all (in_all unsure last) (done ++ others)

more_done : {A : Type 0} (looks : A → Found → A → Type 0) (all : List A) (found : Found) (done : List A) (y : A)
    (others : List A)
    → AreLookedAt looks all found (done ++ y ∷ others)
    → AreLookedAt looks all found ((done ++ y ∷ []) ++ others)
more_done looks all found done y others = subst (AreLookedAt looks all found) (sym (append_assoc done (y ∷ []) others))

pub nothing_next : {A : Type 0} (looks : A → Found → A → Type 0) (all : List A) (unsure : Bool) (done : List A)
    (x y : A) (rest : List A)
    → looks x Nothing y → SoFar looks all unsure done (x ∷ rest) → SoFar looks all unsure (done ++ y ∷ []) rest
nothing_next looks all unsure done x y rest look so_far last others later =
    more_done looks all (in_all unsure last) done y others
    (so_far last (y ∷ others) (y, others, refl, inr (inl (look, later))))

in_all_unsure : (unsure : Bool) (last : Found) → in_all unsure (after_unsure last) ≡ after_unsure last
in_all_unsure false last = refl
in_all_unsure true last = unsure_again last

pub unsure_next : {A : Type 0} (looks : A → Found → A → Type 0) (all : List A) (unsure : Bool) (done : List A)
    (x y : A) (rest : List A)
    → looks x Unsure y → SoFar looks all unsure done (x ∷ rest) → SoFar looks all true (done ++ y ∷ []) rest
unsure_next looks all unsure done x y rest look so_far last others later =
    subst (λ f. AreLookedAt looks all f ((done ++ y ∷ []) ++ others)) (in_all_unsure unsure last)
    (more_done looks all (in_all unsure (after_unsure last)) done y others
    (so_far (after_unsure last) (y ∷ others) (y, others, refl, inr (inr (look, (last, later, refl))))))

in_all_token : (unsure : Bool) (token : ℕ) → in_all unsure (Token token) ≡ Token token
in_all_token false token = refl
in_all_token true token = refl

pub token_next : {A : Type 0} (looks : A → Found → A → Type 0) (all : List A) (unsure : Bool) (done : List A)
    (x y : A) (rest : List A) (token : ℕ)
    → looks x (Token token) y → SoFar looks all unsure done (x ∷ rest)
    → AreLookedAt looks all (Token token) (done ++ y ∷ rest)
token_next looks all unsure done x y rest token look so_far =
    subst (λ f. AreLookedAt looks all f (done ++ y ∷ rest)) (in_all_token unsure token)
    (so_far (Token token) (y ∷ rest) (y, rest, refl, inl (token, look, refl, refl)))

-- The same for a loop that writes each in its place.
next_is : {A : Type 0} (xs : List A) (i : ℕ) (x : A) → i < length xs → x ≡ get_or xs i x
    → drop i xs ≡ x ∷ drop (i + 1) xs
next_is xs i x less is = drop_more xs i x less ∙ ap (λ y. y ∷ drop (i + 1) xs) (sym is)

in_place : {A : Type 0} (P : List A → List A → Type 0) (xs : List A) (i : ℕ) (y : A) → i < length xs
    → P (take i xs ++ y ∷ []) (drop (i + 1) xs)
    → P (take (i + 1) (set xs i y)) (drop (i + 1) (set xs i y))
in_place P xs i y less holds =
    subst (λ done. P done (drop (i + 1) (set xs i y))) (sym (take_more_set xs i y less))
    (subst (λ rest. P (take i xs ++ y ∷ []) rest) (sym (drop-set-lt (i + 1) xs i y (omega arith))) holds)

pub nothing_in_place : {A : Type 0} (looks : A → Found → A → Type 0) (all : List A) (unsure : Bool) (xs : List A)
    (i : ℕ) (x y : A)
    → i < length xs → x ≡ get_or xs i x → looks x Nothing y
    → SoFar looks all unsure (take i xs) (drop i xs)
    → SoFar looks all unsure (take (i + 1) (set xs i y)) (drop (i + 1) (set xs i y))
nothing_in_place looks all unsure xs i x y less is look so_far =
    in_place (SoFar looks all unsure) xs i y less
    (nothing_next looks all unsure (take i xs) x y (drop (i + 1) xs) look
    (subst (SoFar looks all unsure (take i xs)) (next_is xs i x less is) so_far))

pub unsure_in_place : {A : Type 0} (looks : A → Found → A → Type 0) (all : List A) (unsure : Bool) (xs : List A)
    (i : ℕ) (x y : A)
    → i < length xs → x ≡ get_or xs i x → looks x Unsure y
    → SoFar looks all unsure (take i xs) (drop i xs)
    → SoFar looks all true (take (i + 1) (set xs i y)) (drop (i + 1) (set xs i y))
unsure_in_place looks all unsure xs i x y less is look so_far =
    in_place (SoFar looks all true) xs i y less
    (unsure_next looks all unsure (take i xs) x y (drop (i + 1) xs) look
    (subst (SoFar looks all unsure (take i xs)) (next_is xs i x less is) so_far))

pub token_in_place : {A : Type 0} (looks : A → Found → A → Type 0) (all : List A) (unsure : Bool) (xs : List A)
    (i : ℕ) (x y : A) (token : ℕ)
    → i < length xs → x ≡ get_or xs i x → looks x (Token token) y
    → SoFar looks all unsure (take i xs) (drop i xs)
    → AreLookedAt looks all (Token token) (set xs i y)
token_in_place looks all unsure xs i x y token less is look so_far =
    let split : set xs i y ≡ take i xs ++ y ∷ drop (i + 1) xs =
    set_split xs i y less ∙ ap (λ (n : ℕ). take i xs ++ y ∷ drop n xs) (sym (add-one i)) in
    subst (AreLookedAt looks all (Token token)) (sym split)
    (token_next looks all unsure (take i xs) x y (drop (i + 1) xs) token look
    (subst (SoFar looks all unsure (take i xs)) (next_is xs i x less is) so_far))

pub all_looked : {A : Type 0} (looks : A → Found → A → Type 0) (all : List A) (unsure : Bool) (xs : List A) (i : ℕ)
    → length xs ≤ i
    → SoFar looks all unsure (take i xs) (drop i xs)
    → AreLookedAt looks all (in_all unsure Nothing) xs
all_looked looks all unsure xs i past so_far =
    subst (AreLookedAt looks all (in_all unsure Nothing))
    (append-nil (take i xs) ∙ take_all i xs past)
    (so_far Nothing [] (subst (λ rest. AreLookedAt looks rest Nothing []) (sym (drop_all i xs past)) (refl, refl)))

-- what is found in all by two groups of looks, one after the other, of which the first found no token
abbrev pub both : Found → Found → Found
both (Token token) last = Token token
both Nothing last = last
both Unsure last = after_unsure last

both_unsure : (found last : Found) → both (after_unsure found) last ≡ after_unsure (both found last)
both_unsure (Token token) last = refl
both_unsure Nothing last = refl
both_unsure Unsure last = sym (unsure_again last)

unsure_token : (found : Found) (token : ℕ) → found ≡ Token token → after_unsure found ≡ Token token
unsure_token found token is = ap after_unsure is

pub then_looked : {A : Type 0} (looks : A → Found → A → Type 0) (xs : List A) (found : Found) (ys zs : List A)
    (last : Found) (ws : List A)
    → ((token : ℕ) → found ≢ Token token)
    → AreLookedAt looks xs found ys
    → AreLookedAt looks zs last ws
    → AreLookedAt looks (xs ++ zs) (both found last) (ys ++ ws)
then_looked looks [] found ys zs last ws none looked later =
    let P : Found × List _ → Type 0 = λ p. AreLookedAt looks zs (both p.0 last) (p.1 ++ ws) in
    subst P (λ i. (sym looked.0 i, sym looked.1 i)) later
then_looked {A = A} looks (x ∷ rest) found ys zs last ws none (y, others, is, look) later = (
  y,
  others ++ ws,
  ap (λ (l : List A). l ++ ws) is,
  elim look [
    | inl (token, _, told, _) ↦ absurd (none token told)
    | inr (inl (seen, after)) ↦
        inr (inl (seen, then_looked looks rest found others zs last ws none after later))
    | inr (inr (seen, (f, after, told))) ↦
        inr (inr (
          seen,
          (
            both f last,
            then_looked looks rest f others zs last ws
                (λ token is_token. none token (told ∙ unsure_token f token is_token)) after later,
            ap (λ (g : Found). both g last) told ∙ both_unsure f last,
          ),
        ))
  ],
)

token_last : (found : Found) (token : ℕ) → Token token ≡ after_unsure found → found ≡ Token token
token_last (Token other) token is = sym is
token_last Nothing token is = absurd (cc)
token_last Unsure token is = absurd (cc)

-- what stands behind those among which a token was found stays as it is
pub then_left : {A : Type 0} (looks : A → Found → A → Type 0) (xs : List A) (found : Found) (ys zs : List A)
    (token : ℕ)
    → found ≡ Token token
    → AreLookedAt looks xs found ys
    → AreLookedAt looks (xs ++ zs) found (ys ++ zs)
then_left looks [] found ys zs token is looked = let nothing = looked.0 in absurd (cc)
then_left {A = A} looks (x ∷ rest) found ys zs token is (y, others, made, look) = (
  y,
  others ++ zs,
  ap (λ (l : List A). l ++ zs) made,
  elim look [
    | inl (other, seen, told, same) ↦ inl (other, seen, told, ap (λ (l : List A). l ++ zs) same)
    | inr (inl (seen, after)) ↦ inr (inl (seen, then_left looks rest found others zs token is after))
    | inr (inr (seen, (f, after, told))) ↦
        let last = token_last f token (sym is ∙ told) in
        inr (inr (seen, (f, then_left looks rest f others zs token last after, told)))
  ],
)

no_items : {A : Type 0} (xs : List A) → length xs ≡ 0 → xs ≡ []
no_items [] none = refl
no_items (x ∷ xs) none = absurd (omega (arith, none))

-- the turn goes through the part from the place on, and then through the part before it
pub turned : {A : Type 0} (first : ℕ) (front back : List A) → length front ≡ min first (length front + length back)
    → in_turn first (front ++ back) ≡ back ++ front
turned first front back count =
    elim (cases_lt (length front) first) [
      | inl past ↦
          let none : length back ≡ 0 = omega arith in
          let empty = no_items back none in
          let all : length (front ++ back) ≤ first = omega (arith, length-append front back) in
          ap (λ l. l ++ take first (front ++ back)) (drop_all first (front ++ back) all)
          ∙ take_all first (front ++ back) all ∙ ap (λ l. front ++ l) empty ∙ append-nil front
          ∙ ap (λ l. l ++ front) (sym empty)
      | inr within ↦
          let same : length front ≡ first = omega arith in
          subst (λ (n : ℕ). drop n (front ++ back) ++ take n (front ++ back) ≡ back ++ front) same
          (ap (λ l. l ++ take (length front) (front ++ back)) (drop-append_seam front back)
          ∙ ap (λ l. back ++ l) (take-append_seam front back))
    ]
