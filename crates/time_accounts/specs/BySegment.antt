-- At which segment the time of idle threads counts. At each moment it is one: where segments are ready,
-- the one that has been so longest; where none is, the one that has run longest.
use Rattle.std.specs.Prelude.{ℕ, ◌&&◌, ◌||◌, Bool, if◌then◌else◌, not, nat_le, nat_lt, nat_eq, List}
use Rattle.std.specs.Prelude.{length, map, sum_by}
use Rattle.std.specs.List.{list_all, range_with_len}
use Rattle.task_segments.specs.Schedule.{at}
use Rattle.dispatch_core.specs.RecordedGraph.{RecordedGraph}
use Rattle.time_accounts.specs.TimedRun.{TimedRun}
use Rattle.time_accounts.specs.Shares.{moments, ready_moments, shares_at}

-- a moment lies from the number of s in the one list on, before that in the other
abbrev pub is_within : (froms tos : List ℕ) → (m s : ℕ) → Bool
is_within froms tos m s = nat_le (at froms s) m && nat_lt m (at tos s)

-- r comes before s: its number is smaller, or as large and r < s
abbrev pub is_earlier : List ℕ → (r s : ℕ) → Bool
is_earlier froms r s =
    nat_lt (at froms r) (at froms s) || (nat_eq (at froms r) (at froms s) && nat_lt r s)

-- of those within whose numbers a moment lies, s comes first
abbrev pub is_longest : (froms tos : List ℕ) → (m s : ℕ) → Bool
is_longest froms tos m s =
    is_within froms tos m s
    && list_all (λ r. not (is_within froms tos m r && is_earlier froms r s))
    (range_with_len 0 (length froms))

-- what counts at s of something that each moment has
abbrev pub counted_at : (ℕ → ℕ) → (froms tos moments : List ℕ) → ℕ → ℕ
counted_at told froms tos ms s =
    sum_by (λ m. if is_longest froms tos m s then told m else 0) ms

-- how long threads were delayed while each segment was the one that had been ready longest
abbrev pub delayed_by_segment : RecordedGraph → (p first last : ℕ) → TimedRun → List ℕ
delayed_by_segment graph p first last run =
    map (counted_at (λ m. (shares_at graph p run m).delayed) (ready_moments graph run) run.begins
    (moments first last)) (range_with_len 0 (length run.begins))

-- how long they starved while each segment was the one that had run longest
abbrev pub starved_by_segment : RecordedGraph → (p first last : ℕ) → TimedRun → List ℕ
starved_by_segment graph p first last run =
    map (counted_at (λ m. (shares_at graph p run m).starved) run.begins run.ends
    (moments first last)) (range_with_len 0 (length run.begins))
