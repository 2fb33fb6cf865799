-- Whether a changed program waits for no more than the old one.
use Rattle.std.specs.Prelude.{ℕ, ◌<◌, ◌≡◌, ◌≢◌, length}
use Rattle.depend_table.specs.KeptEdges.{IsKeptEdge}
use Rattle.task_segments.specs.Precedence.{IsSegment, MustPrecede}
use Rattle.task_segments.specs.Table.{Table}
use Rattle.relaxations.specs.Relaxation.{AreSameSegments, IsRelaxation, IsSameSegment}
use Rattle.relaxations.specs.declared.verdict.Verdict.{Verdict}
use Rattle.relaxations.specs.declared.verdict.Verdict.TheVariants.{NewPair, OtherSegment}
use Rattle.relaxations.specs.declared.verdict.Verdict.TheVariants.{WaitsForNoMore, WrongCount}

-- s is the first segment that is another in the new program, which has as many
pub record IsOtherSegment (old new : Table) (s : ℕ) : Type 0 where
  pub count : length new.segments ≡ length old.segments
  pub is_segment : IsSegment old s
  pub other : ¬ IsSameSegment old new s
  pub same_before : (r : ℕ) → r < s → IsSameSegment old new r

-- the new program keeps a pair that is none of the old one: with the least t, and the least s for it
pub record IsNewPair (old new : Table) (s t : ℕ) : Type 0 where
  pub same : AreSameSegments old new
  pub kept : IsKeptEdge new s t
  pub is_new : ¬ MustPrecede old s t
  pub least_to : (r u : ℕ) → u < t → IsKeptEdge new r u → MustPrecede old r u
  pub least_from : (r : ℕ) → r < s → IsKeptEdge new r t → MustPrecede old r t

abbrev pub IsVerdict : (old new : Table) → Verdict → Type 0
IsVerdict old new WaitsForNoMore = IsRelaxation old new
IsVerdict old new WrongCount = length new.segments ≢ length old.segments
IsVerdict old new (OtherSegment s) = IsOtherSegment old new s
IsVerdict old new (NewPair s t) = IsNewPair old new s t
