-- Carried out: looks at lanes, one after another.
use Rattle.std.specs.Prelude.{ℕ, ◌≡◌, ◌++◌, List, [], ◌∷◌, take, drop, ◌⊎◌, Option, Some, None}
use Rattle.crossbeam_deque.specs.declared.steal.Steal.{Steal}
use Rattle.crossbeam_deque.specs.declared.steal.Steal.TheVariants.{Empty, Success, Retry}
use Rattle.worker_run.specs.declared.look.Found.{Found}
use Rattle.worker_run.specs.declared.look.Found.TheVariants.{Token, Nothing, Unsure}
use Rattle.worker_run.specs.declared.signal.Turn.{Turn}
use Rattle.worker_run.specs.declared.station.Next.{Next}
use Rattle.worker_run.specs.declared.station.Next.TheVariants.{Run, Wait, Again}

-- those from a place upwards, and then those below it
abbrev pub in_turn : {A : Type 0} → ℕ → List A → List A
in_turn first xs = drop first xs ++ take first xs

-- what a steal shows of its lane
abbrev pub of_steal : Steal ℕ → Found
of_steal (Success token) = Token token
of_steal Empty = Nothing
of_steal Retry = Unsure

-- what is found in all, where an earlier look was unsure
abbrev pub after_unsure : Found → Found
after_unsure (Token token) = Token token
after_unsure Nothing = Unsure
after_unsure Unsure = Unsure

-- A look at x makes y of it. Where it finds a token, that is all: nothing behind it is looked at. Otherwise later
-- looks decide.
abbrev pub IsLookThen : {A : Type 0} → (A → Found → A → Type 0) → (x y : A) → (rest others : List A) → Found
    → (Found → Type 0) → Type 0
IsLookThen looks x y rest others found later =
    ((token : ℕ) × looks x (Token token) y × (found ≡ Token token) × (others ≡ rest))
    ⊎ ((looks x Nothing y × later found)
    ⊎ (looks x Unsure y × ((last : Found) × later last × (found ≡ after_unsure last))))

-- They are looked at in their order until one gives a token, and become these.
abbrev pub AreLookedAt : {A : Type 0} → (A → Found → A → Type 0) → List A → Found → List A → Type 0
AreLookedAt looks [] found after = (found ≡ Nothing) × (after ≡ [])
AreLookedAt {A = A} looks (x ∷ rest) found after = (y : A) × (others : List A) × (after ≡ y ∷ others)
    × IsLookThen looks x y rest others found (λ last. AreLookedAt looks rest last others)

-- what holds where there is no token, and of the token
abbrev pub MatchFound : Found → Type 0 → (ℕ → Type 0) → Type 0
MatchFound (Token token) none some = some token
MatchFound Nothing none some = none
MatchFound Unsure none some = none

-- What a worker does next: it runs the token that it took, or else what came of the look at the others.
abbrev pub IsNext : Option ℕ → (Found → Type 0) → Next → Type 0
IsNext (Some token) others next = next ≡ Run token
IsNext None others (Run token) = others (Token token)
IsNext None others (Wait idle) = others Nothing
IsNext None others Again = others Unsure

-- what holds of the turn with which a worker waits
abbrev pub IfWaits : Next → (Turn → Type 0) → Type 0
IfWaits (Run token) waits = Unit {0}
IfWaits (Wait idle) waits = waits idle.turn
IfWaits Again waits = Unit {0}
