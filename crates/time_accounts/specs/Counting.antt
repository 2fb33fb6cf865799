-- Carried out: the segments looked at in the order in which they become ready, or begin. No public contract
-- speaks of it.
use Rattle.std.specs.Prelude.{ℕ, ◌+◌, ◌<◌, ◌≤◌, ◌≡◌, ◌⊎◌, List, length}
use Rattle.std.specs.List.Sorted.{IsNonDecreasing}
use Rattle.task_segments.specs.Schedule.{at}
use Rattle.greedy_sim.specs.declared.greedy.TheConstants.{MOST_THREADS}
use Rattle.time_accounts.specs.Shares.{moments}
use Rattle.time_accounts.specs.Sweep.{count_upto}
use Rattle.time_accounts.specs.Checks.{segment_at}
use Rattle.time_accounts.specs.BySegment.{counted_at}

-- the moments at which segments become ready, begin and end, each list ascending
pub record CanSweep (readies begins ends : List ℕ) (p : ℕ) : Type 0 where
  pub readies_up : IsNonDecreasing readies
  pub begins_up : IsNonDecreasing begins
  pub ends_up : IsNonDecreasing ends
  pub few : p ≤ MOST_THREADS
  pub enough : (m : ℕ) → count_upto ends m ≤ count_upto begins m
  pub at_most : (m : ℕ) → count_upto begins m ≤ p + count_upto ends m

-- of what moments have from the first on what counts at each segment, whatever moment behind all is the last
pub record AreCounted (told : ℕ → ℕ) (froms tos : List ℕ) (first : ℕ) (counts : List ℕ) : Type
    0 where
  pub each : length counts ≡ length froms
  pub is : (last s : ℕ) → first ≤ last → ((r : ℕ) → r < length tos → at tos r ≤ last)
      → s < length froms
      → at counts s ≡ counted_at told froms tos (moments first last) s

-- Of the segments at the first n places none lies around a moment from `until` on, and one that came
-- to its end at `until` lies around each before it, unless that is before the first moment.
pub record IsFrontier (froms tos : List ℕ) (order : List (ℕ × ℕ)) (n first until : ℕ) : Type
    0 where
  pub no_sooner : first ≤ until
  pub gone : (i m : ℕ) → i < n → until ≤ m → at froms (segment_at order i) ≤ m
      → m < at tos (segment_at order i) → ⊥
  pub of_one : (until ≡ first) ⊎ ((i : ℕ) × (i < n) × (at tos (segment_at order i) ≡ until))

-- what counts at the segments at the first n places
pub record AreCountedTo (told : ℕ → ℕ) (froms tos : List ℕ) (order : List (ℕ × ℕ))
    (n first until : ℕ) (counts : List ℕ) : Type 0 where
  pub frontier : IsFrontier froms tos order n first until
  pub each : length counts ≡ length froms
  pub so_far : (i last : ℕ) → i < n → first ≤ last
      → ((r : ℕ) → r < length tos → at tos r ≤ last)
      → at counts (segment_at order i)
      ≡ counted_at told froms tos (moments first last) (segment_at order i)
  pub none_yet : (i : ℕ) → n ≤ i → i < length order → at counts (segment_at order i) ≡ 0
