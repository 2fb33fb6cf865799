-- Carried out: what is left in the lanes of a run.
use Rattle.std.specs.Prelude.{ℕ, ◌≡◌, ◌≢◌, ◌<◌, ◌++◌, ◌==◌, ◌&&◌, List, [], Option, None, MatchOption, map, length}
use Rattle.std.specs.Prelude.{slice_index_or}
use Rattle.std.specs.List.{filter}
use Rattle.worker_run.specs.LaneViews.{LaneView, ThiefView}
use Rattle.worker_run.specs.Lanes.{IsAccounted, stolen_by}

-- a thief with the number of its lane
abbrev pub Numbered : Type 0
Numbered = ℕ × ThiefView

-- a lane that is closed: its number, its owner, and its thieves that are back
pub record Lane : Type 0 where
  pub number : ℕ
  pub owner : LaneView
  pub back : List ThiefView

abbrev pub lane_with : ℕ → LaneView → List ThiefView → Lane
lane_with number owner back = record { number = number; owner = owner; back = back }

abbrev pub no_lane : Lane
no_lane =
    lane_with 0 (record { lane = (0, 0); capacity = 0; put = []; taken = []; thieves = 0; joined = [] }) []

-- those of these thieves that come back to the lane at a place, which has this number
abbrev pub back_at : (place number : ℕ) → List Numbered → List ThiefView
back_at place number thieves = map (λ t. t.1) (filter (λ t. (t.0 == place) && (t.0 == number)) thieves)

abbrev pub given : ℕ → List Numbered → Lane → Lane
given place thieves lane = record lane { back = lane.back ++ back_at place lane.number thieves }

-- each lane was given those of these thieves that come back to it
pub record AreGiven (was : List Lane) (thieves : List Numbered) (now : List Lane) : Type 0 where
  pub count : length now ≡ length was
  pub each : (place : ℕ)
      → place < length was
      → slice_index_or now place no_lane ≡ given place thieves (slice_index_or was place no_lane)

-- What is answered about a lane: how many tokens are left, where all its thieves are back.
abbrev pub IsToldOf : Lane → Option ℕ → Type 0
IsToldOf lane told = MatchOption told (length lane.back ≢ lane.owner.thieves)
    (λ count. (left : List ℕ) × (length left ≡ count)
    × IsAccounted lane.owner.put lane.owner.taken (lane.owner.joined ++ stolen_by lane.back) left)

pub record AreToldOf (lanes : List Lane) (told : List (Option ℕ)) : Type 0 where
  pub count : length told ≡ length lanes
  pub each : (place : ℕ)
      → place < length lanes
      → IsToldOf (slice_index_or lanes place no_lane) (slice_index_or told place None)

-- all lanes are closed, once each was given its thieves
pub record AreClosed (lanes : List Lane) (thieves : List Numbered) (told : List (Option ℕ))
    : Type 0 where
  pub closed : List Lane
  pub are_given : AreGiven lanes thieves closed
  pub are_told_of : AreToldOf closed told
