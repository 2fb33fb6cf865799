-- Carried out: that each segment, and each member of a path, has times.
use Rattle.std.specs.Prelude.{ℕ, ◌≡◌, ◌<◌, List, length}
use Rattle.task_segments.specs.Schedule.{at}
use Rattle.time_accounts.specs.TimedRun.{TimedRun}

-- there are times of each of n segments
pub record AreTimes (n : ℕ) (run : TimedRun) : Type 0 where
  pub threads : length run.threads ≡ n
  pub begins : length run.begins ≡ n
  pub ends : length run.ends ≡ n

-- there are times of each member
pub record AreMembers (run : TimedRun) (path : List ℕ) : Type 0 where
  pub begins : (k : ℕ) → k < length path → at path k < length run.begins
  pub ends : (k : ℕ) → k < length path → at path k < length run.ends
