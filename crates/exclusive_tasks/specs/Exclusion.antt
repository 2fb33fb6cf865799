-- Tasks that exclude one another, in a list of events.
use Rattle.std.specs.Prelude.{ℕ, ◌<◌, ◌≤◌, ◌≡◌, ◌≢◌, List, length, Some, slice_get, slice_index_or}
use Rattle.exclusive_tasks.specs.declared.claim.Claim.{Claim}
use Rattle.exclusive_tasks.specs.declared.claim.Event.{Event}
use Rattle.exclusive_tasks.specs.declared.claim.Event.TheVariants.{Start, Finish}
use Rattle.exclusive_tasks.specs.declared.claim.Overlap.{Overlap}

abbrev pub no_claim : Claim
no_claim = record { parent = 0; location = 0; first = 0; last = 0 }

-- the claim with this index
abbrev pub claim_at : List Claim → ℕ → Claim
claim_at claims i = slice_index_or claims i no_claim

-- different siblings at one location
pub record Exclude (one other : Claim) : Type 0 where
  pub siblings : one.parent ≡ other.parent
  pub same : one.location ≡ other.location
  pub two : one.first ≢ other.first

-- event i begins the task of a claim
abbrev pub Begins : List Event → Claim → ℕ → Type 0
Begins events claim i = slice_get events i ≡ Some (Start claim.first)

-- event i completes it
abbrev pub Completes : List Event → Claim → ℕ → Type 0
Completes events claim i = slice_get events i ≡ Some (Finish claim.last)

-- after the first i events the task has begun, and is not complete, even if it is suspended
pub record IsUnderWay (events : List Event) (claim : Claim) (i : ℕ) : Type 0 where
  pub begun : ℕ
  pub before : begun < i
  pub begins : Begins events claim begun
  pub since : (k : ℕ) → begun < k → k < i → Completes events claim k → ⊥

-- after no number of events two tasks that exclude one another are both under way
abbrev pub AreApart : List Claim → List Event → Type 0
AreApart claims events = (i a b : ℕ) → a < length claims → b < length claims
    → Exclude (claim_at claims a) (claim_at claims b)
    → IsUnderWay events (claim_at claims a) i → IsUnderWay events (claim_at claims b) i → ⊥

-- event i begins the task of claim b while that of claim a, which excludes it, is under way
pub record IsOverlap (claims : List Claim) (events : List Event) (i b a : ℕ) : Type 0 where
  pub inside : b < length claims
  pub other_inside : a < length claims
  pub exclude : Exclude (claim_at claims a) (claim_at claims b)
  pub begins : Begins events (claim_at claims b) i
  pub under_way : IsUnderWay events (claim_at claims a) i

-- the first such event, at it the least claim whose task begins, and the least that excludes it
pub record IsFirstOverlap (claims : List Claim) (events : List Event) (found : Overlap) : Type
    0 where
  pub overlap : IsOverlap claims events found.event found.begins found.under_way
  pub first : (i b a : ℕ) → IsOverlap claims events i b a → found.event ≤ i
  pub least : (b a : ℕ) → IsOverlap claims events found.event b a → found.begins ≤ b
  pub least_other : (a : ℕ) → IsOverlap claims events found.event found.begins a
      → found.under_way ≤ a
