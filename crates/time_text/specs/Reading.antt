-- Carried out: times that are read line by line.
use Rattle.std.specs.Prelude.{ℕ, ◌<◌, ◌≡◌, ⊤, List, length, Option, Some, None, Result, Ok}
use Rattle.std.specs.Prelude.{Err, nat_lt, if◌then◌else◌, map, slice_index_or, slice_set}
use Rattle.time_text.specs.TimeLines.{says}
use Rattle.time_text.specs.TimesTexts.{AreRightBefore, IsRegionLine, IsSegmentLine}
use Rattle.time_text.specs.declared.fault.TimeTextFault.{TimeTextFault}
use Rattle.time_text.specs.declared.fault.TimeTextFault.TheVariants.{BadForm, UnknownSegment}
use Rattle.time_text.specs.declared.fault.TimeTextFault.TheVariants.{TimedTwice, NotTimed, OutOfMemory}
use Rattle.time_text.specs.declared.line.RegionTimes.{RegionTimes}
use Rattle.time_text.specs.declared.line.SegmentTimes.{SegmentTimes}
use Rattle.time_text.specs.declared.line.TimeLine.{TimeLine}
use Rattle.time_text.specs.declared.line.TimeLine.TheVariants.{Blank, Region, Segment}

-- when the run took place, if a line has said so, and the times of each segment that has some
pub record Progress : Type 0 where
  pub region : Option RegionTimes
  pub rows : List (Option SegmentTimes)

-- the row of a segment
abbrev pub row_at : List (Option SegmentTimes) → ℕ → Option SegmentTimes
row_at rows s = slice_index_or rows s None

abbrev pub put_into : Option SegmentTimes → List (Option SegmentTimes) → ℕ → SegmentTimes
    → Result (List (Option SegmentTimes)) TimeTextFault
put_into None rows line times = Ok (slice_set rows times.segment (Some times))
put_into (Some other) rows line times = Err (TimedTwice line)

-- the times of one more segment
abbrev pub put : List (Option SegmentTimes) → ℕ → SegmentTimes
    → Result (List (Option SegmentTimes)) TimeTextFault
put rows line times =
    if nat_lt times.segment (length rows) then put_into (row_at rows times.segment) rows line times
    else Err (UnknownSegment line)

abbrev pub with_rows : Option RegionTimes → Result (List (Option SegmentTimes)) TimeTextFault
    → Result Progress TimeTextFault
with_rows region (Ok rows) = Ok (record { region = region; rows = rows })
with_rows region (Err fault) = Err fault

-- what one line more says
abbrev pub step : Option RegionTimes → List (Option SegmentTimes) → ℕ → Option TimeLine
    → Result Progress TimeTextFault
step region rows line None = Err (BadForm line)
step region rows line (Some Blank) = Ok (record { region = region; rows = rows })
step None rows line (Some (Region told)) = Ok (record { region = Some told; rows = rows })
step (Some region) rows line (Some (Region told)) = Err (BadForm line)
step None rows line (Some (Segment times)) = Err (BadForm line)
step (Some region) rows line (Some (Segment times)) = with_rows (Some region) (put rows line times)

-- the region of the lines so far, if any
abbrev pub IsRegionSoFar : List (List ℕ) → ℕ → Option RegionTimes → Type 0
IsRegionSoFar lines k None = (i : ℕ) → i < k → says lines i ≡ Some Blank
IsRegionSoFar lines k (Some region) = (h : ℕ) × (h < k) × IsRegionLine lines h region

-- what k lines say, all of them right
pub record IsSoFar (n : ℕ) (lines : List (List ℕ)) (k : ℕ) (region : Option RegionTimes)
    (rows : List (Option SegmentTimes))
    : Type 0 where
  pub right : AreRightBefore n lines k
  pub region_told : IsRegionSoFar lines k region
  pub each : length rows ≡ n
  pub kept : (i : ℕ) (times : SegmentTimes) → i < k → IsSegmentLine lines i times
      → row_at rows times.segment ≡ Some times
  pub told : (s : ℕ) (times : SegmentTimes) → row_at rows s ≡ Some times
      → (times.segment ≡ s) × (i : ℕ) × (i < k) × IsSegmentLine lines i times

-- all rows have times: these
abbrev pub AreAll : List (Option SegmentTimes) → List SegmentTimes → Type 0
AreAll rows segments = map Some segments ≡ rows

-- the first row without times
pub record IsFirstEmpty (rows : List (Option SegmentTimes)) (s : ℕ) : Type 0 where
  pub inside : s < length rows
  pub empty : row_at rows s ≡ None
  pub full : (r : ℕ) → r < s → row_at rows r ≡ None → ⊥

abbrev pub IsEmptyRow : List (Option SegmentTimes) → TimeTextFault → Type 0
IsEmptyRow rows (NotTimed s) = IsFirstEmpty rows s
IsEmptyRow rows OutOfMemory = ⊤
IsEmptyRow rows _ = ⊥
