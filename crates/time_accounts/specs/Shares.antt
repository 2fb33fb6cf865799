-- Where the time of p threads went, moment by moment, and in all.
use Rattle.std.specs.Prelude.{ℕ, ◌+◌, ◌-◌, ◌&&◌, ◌||◌, Bool, if◌then◌else◌, nat_le, nat_lt}
use Rattle.std.specs.Prelude.{nat_eq, List, [], ◌∷◌, max, map, sum_by}
use Rattle.std.specs.List.{list_all, range_with_len}
use Rattle.task_segments.specs.Schedule.{at}
use Rattle.dispatch_core.specs.RecordedGraph.{RecordedGraph}
use Rattle.time_accounts.specs.TimedRun.{TimedRun}

-- at how many places a moment lies from the number of the one list on, before that of the other
abbrev pub count_within : List ℕ → List ℕ → ℕ → ℕ
count_within [] tos m = 0
count_within (from ∷ froms) [] m = 0
count_within (from ∷ froms) (to ∷ tos) m =
    (if nat_le from m && nat_lt m to then 1 else 0) + count_within froms tos m

-- how many segments run at a moment
abbrev pub running : TimedRun → ℕ → ℕ
running run m = count_within run.begins run.ends m

-- the greatest of some numbers, 0 of none
abbrev pub greatest : List ℕ → ℕ
greatest [] = 0
greatest (x ∷ xs) = max x (greatest xs)

-- when the last of these segments ends
abbrev pub last_end : List ℕ → List ℕ → ℕ
last_end ends segments = greatest (map (at ends) segments)

-- when each segment's last predecessor ends, 0 where it has none
abbrev pub ready_moments : RecordedGraph → TimedRun → List ℕ
ready_moments graph run = map (last_end run.ends) graph.predecessors

-- how many segments are ready at a moment: their predecessors have ended, and they have not begun
abbrev pub ready : RecordedGraph → TimedRun → ℕ → ℕ
ready graph run m = count_within (ready_moments graph run) run.begins m

-- a moment before all segments' begins, or after all their ends
abbrev pub is_outside : TimedRun → ℕ → Bool
is_outside run m = list_all (λ b. nat_lt m b) run.begins || list_all (λ e. nat_le e m) run.ends

-- the four shares of the time of some threads
pub record Shares : Type 0 where
  -- threads run segments
  pub busy : ℕ
  -- threads idle while a segment is ready: runtime, machine or a tie to a thread keep it waiting
  pub delayed : ℕ
  -- threads idle while none is ready: the program has too few
  pub starved : ℕ
  -- no segment has begun, or all have ended
  pub outside : ℕ

-- what each of p threads does at one moment
abbrev pub shares_at : RecordedGraph → ℕ → TimedRun → ℕ → Shares
shares_at graph p run m =
    if is_outside run m
    then record { busy = 0; delayed = 0; starved = 0; outside = p }
    else
    (if nat_eq (ready graph run m) 0
    then record { busy = running run m; delayed = 0; starved = p - running run m; outside = 0 }
    else record { busy = running run m; delayed = p - running run m; starved = 0; outside = 0 })

-- the moments from one on, before another
abbrev pub moments : ℕ → ℕ → List ℕ
moments first last = range_with_len first (last - first)

-- the shares of the time of p threads from one moment to another
abbrev pub shares_of : RecordedGraph → ℕ → ℕ → ℕ → TimedRun → Shares
shares_of graph p first last run = record {
  busy = sum_by (λ m. (shares_at graph p run m).busy) (moments first last);
  delayed = sum_by (λ m. (shares_at graph p run m).delayed) (moments first last);
  starved = sum_by (λ m. (shares_at graph p run m).starved) (moments first last);
  outside = sum_by (λ m. (shares_at graph p run m).outside) (moments first last);
}
