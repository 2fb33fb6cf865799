-- Carried out: marks on places from some first one on: the mark at place first + k stands at k.
use Rattle.std.specs.Prelude.{ℕ, ◌-◌, ◌≡◌, ◌<◌, ◌≤◌, ◌⊎◌, ◌↔◌, Bool, true, false, List, length, All}
use Rattle.std.specs.Prelude.{Contains, slice_index_or}

-- these places stand from the first on and before the end
abbrev pub AreWithin : ℕ → ℕ → List ℕ → Type 0
AreWithin first end places = All (λ place. (first ≤ place) × (place < end)) places

-- the place is marked
abbrev pub IsMarked : ℕ → List Bool → ℕ → Type 0
IsMarked first marks place = (first ≤ place) × (slice_index_or marks (place - first) false ≡ true)

-- these places are marked too, and no other
pub record AreMarkedToo (first : ℕ) (old new : List Bool) (places : List ℕ) : Type 0 where
  pub same_length : length new ≡ length old
  pub each : (place : ℕ)
      → IsMarked first new place ↔ (IsMarked first old place ⊎ Contains places place)

-- the number stands at a marked place below n
pub record IsMarkedNumber (first : ℕ) (marks : List Bool) (numbers : List ℕ) (n number : ℕ) : Type
    0 where
  pub place : ℕ
  pub below : place < n
  pub marked : IsMarked first marks place
  pub found : slice_index_or numbers place 0 ≡ number

-- the number stands at one of these places
pub record IsNumberAmong (places numbers : List ℕ) (number : ℕ) : Type 0 where
  pub place : ℕ
  pub among : Contains places place
  pub found : slice_index_or numbers place 0 ≡ number
