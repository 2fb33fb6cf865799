-- Carried out: a mark for each claim whose task is under way. No public contract speaks of it.
use Rattle.std.specs.Prelude.{ℕ, ◌<◌, ◌≤◌, ◌≡◌, Bool, true, false, not, ◌||◌, ◌&&◌, ◌==◌}
use Rattle.std.specs.Prelude.{List, length, slice_index_or}
use Rattle.exclusive_tasks.specs.Exclusion.{Exclude, IsOverlap, IsUnderWay, claim_at}
use Rattle.exclusive_tasks.specs.declared.claim.Claim.{Claim}
use Rattle.exclusive_tasks.specs.declared.claim.Event.{Event}
use Rattle.exclusive_tasks.specs.declared.claim.Event.TheVariants.{Start, Finish}

abbrev pub mark_at : List Bool → ℕ → Bool
mark_at marks i = slice_index_or marks i false

-- a claim's mark after an event
abbrev pub mark_after : Event → Claim → Bool → Bool
mark_after (Start segment) claim mark = segment == claim.first || mark
mark_after (Finish segment) claim mark = not (segment == claim.last) && mark

-- the new marks are those after an event
pub record AreMarked (claims : List Claim) (event : Event) (old new : List Bool) : Type 0 where
  pub each : length new ≡ length old
  pub marked : (i : ℕ) → i < length claims
      → mark_at new i ≡ mark_after event (claim_at claims i) (mark_at old i)

-- claim a is marked, and excludes another one
pub record IsExcluding (claims : List Claim) (marks : List Bool) (claim : Claim) (a : ℕ) : Type
    0 where
  pub inside : a < length claims
  pub marked : mark_at marks a ≡ true
  pub exclude : Exclude (claim_at claims a) claim

pub record IsFirstExcluding (claims : List Claim) (marks : List Bool) (claim : Claim) (a : ℕ)
    : Type 0 where
  pub excluding : IsExcluding claims marks claim a
  pub first : (d : ℕ) → IsExcluding claims marks claim d → a ≤ d

-- the task of claim b begins with a segment, and claim a is marked and excludes it
pub record IsPair (claims : List Claim) (marks : List Bool) (segment b a : ℕ) : Type 0 where
  pub inside : b < length claims
  pub begins : (claim_at claims b).first ≡ segment
  pub excluding : IsExcluding claims marks (claim_at claims b) a

pub record IsFirstPair (claims : List Claim) (marks : List Bool) (segment b a : ℕ) : Type 0 where
  pub pair : IsPair claims marks segment b a
  pub first : (c d : ℕ) → IsPair claims marks segment c d → b ≤ c
  pub first_other : (d : ℕ) → IsPair claims marks segment b d → a ≤ d

-- after i events the claims of tasks under way are marked, and no event was an overlap
pub record AreMarkedUpTo (claims : List Claim) (events : List Event) (i : ℕ) (marks : List Bool)
    : Type 0 where
  pub each : length marks ≡ length claims
  pub marked : (a : ℕ) → a < length claims → mark_at marks a ≡ true
      → IsUnderWay events (claim_at claims a) i
  pub unmarked : (a : ℕ) → a < length claims → IsUnderWay events (claim_at claims a) i
      → mark_at marks a ≡ true
  pub none : (j b a : ℕ) → j < i → IsOverlap claims events j b a → ⊥
