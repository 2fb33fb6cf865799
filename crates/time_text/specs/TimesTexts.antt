-- Which texts have the times of a run of n segments, and what is wrong with the others. A text is
-- its lines, and each line counts from 0.
use Rattle.std.specs.Prelude.{ℕ, ◌+◌, ◌<◌, ◌≤◌, ◌≡◌, ◌⊎◌, ⊤, List, length, Option, Some, None}
use Rattle.std.specs.Prelude.{slice_get}
use Rattle.time_text.specs.TimeLines.{says}
use Rattle.time_text.specs.declared.fault.TimeTextFault.{TimeTextFault}
use Rattle.time_text.specs.declared.fault.TimeTextFault.TheVariants.{BadForm, UnknownSegment}
use Rattle.time_text.specs.declared.fault.TimeTextFault.TheVariants.{TimedTwice, NotTimed, OutOfMemory}
use Rattle.time_text.specs.declared.line.RegionTimes.{RegionTimes}
use Rattle.time_text.specs.declared.line.SegmentTimes.{SegmentTimes}
use Rattle.time_text.specs.declared.line.TimeLine.{TimeLine}
use Rattle.time_text.specs.declared.line.TimeLine.TheVariants.{Blank, Region, Segment}

-- this line says when the run took place, and no line before it says anything
pub record IsRegionLine (lines : List (List ℕ)) (h : ℕ) (region : RegionTimes) : Type 0 where
  pub told : says lines h ≡ Some (Region region)
  pub first : (i : ℕ) → i < h → says lines i ≡ Some Blank

-- some line before this one does
pub record HasRegionBefore (lines : List (List ℕ)) (i : ℕ) : Type 0 where
  pub line : ℕ
  pub region : RegionTimes
  pub before : line < i
  pub is_region : IsRegionLine lines line region

-- this line says when a segment ran
abbrev pub IsSegmentLine : List (List ℕ) → ℕ → SegmentTimes → Type 0
IsSegmentLine lines i times = says lines i ≡ Some (Segment times)

-- What may stand on a line: nothing; when the run took place, where no line before it says anything;
-- and behind such a line when a segment ran.
abbrev pub MayStand : List (List ℕ) → ℕ → Option TimeLine → Type 0
MayStand lines i None = ⊥
MayStand lines i (Some Blank) = ⊤
MayStand lines i (Some (Region region)) = (j : ℕ) → j < i → says lines j ≡ Some Blank
MayStand lines i (Some (Segment times)) = HasRegionBefore lines i

abbrev pub IsInPlace : List (List ℕ) → ℕ → Type 0
IsInPlace lines i = MayStand lines i (says lines i)

-- some line before this one has times of the segment
pub record IsTimedBefore (lines : List (List ℕ)) (i segment : ℕ) : Type 0 where
  pub line : ℕ
  pub times : SegmentTimes
  pub before : line < i
  pub told : IsSegmentLine lines line times
  pub same : times.segment ≡ segment

-- a line is right: it may stand there, and its segment exists and has no times yet
pub record IsRight (n : ℕ) (lines : List (List ℕ)) (i : ℕ) : Type 0 where
  pub in_place : IsInPlace lines i
  pub known : (times : SegmentTimes) → IsSegmentLine lines i times → times.segment < n
  pub once : (times : SegmentTimes) → IsSegmentLine lines i times
      → IsTimedBefore lines i times.segment → ⊥

-- all lines before this one are
abbrev pub AreRightBefore : ℕ → List (List ℕ) → ℕ → Type 0
AreRightBefore n lines i = (j : ℕ) → j < i → IsRight n lines j

-- ---- what is reported

-- All lines are right, and say when the run took place and when each segment ran.
pub record TellsTimes (n : ℕ) (lines : List (List ℕ)) (region : RegionTimes)
    (segments : List SegmentTimes)
    : Type 0 where
  pub right : AreRightBefore n lines (length lines)
  pub line : ℕ
  pub is_region : IsRegionLine lines line region
  pub each : length segments ≡ n
  pub told : (s : ℕ) (times : SegmentTimes) → slice_get segments s ≡ Some times
      → (times.segment ≡ s) × (i : ℕ) × IsSegmentLine lines i times

-- ---- what is wrong

-- the lines before this one are right, and it may not stand there
pub record IsMisplaced (n : ℕ) (lines : List (List ℕ)) (i : ℕ) : Type 0 where
  pub right : AreRightBefore n lines i
  pub misplaced : IsInPlace lines i → ⊥

-- no line says anything, and this is the last one
pub record IsSilent (lines : List (List ℕ)) (i : ℕ) : Type 0 where
  pub blank : (j : ℕ) → says lines j ≡ Some Blank
  pub last : i + 1 ≡ length lines

-- the lines before this one are right, and it has times of a segment
pub record IsNextSegment (n : ℕ) (lines : List (List ℕ)) (i : ℕ) (times : SegmentTimes) : Type
    0 where
  pub right : AreRightBefore n lines i
  pub in_place : IsInPlace lines i
  pub told : IsSegmentLine lines i times

pub record IsUnknown (n : ℕ) (lines : List (List ℕ)) (i : ℕ) : Type 0 where
  pub times : SegmentTimes
  pub next : IsNextSegment n lines i times
  pub unknown : n ≤ times.segment

pub record IsTwice (n : ℕ) (lines : List (List ℕ)) (i : ℕ) : Type 0 where
  pub times : SegmentTimes
  pub next : IsNextSegment n lines i times
  pub known : times.segment < n
  pub before : IsTimedBefore lines i times.segment

-- all lines are right, and this is the least segment of which none has times
pub record IsNotTimed (n : ℕ) (lines : List (List ℕ)) (s : ℕ) : Type 0 where
  pub right : AreRightBefore n lines (length lines)
  pub some : HasRegionBefore lines (length lines)
  pub inside : s < n
  pub none : IsTimedBefore lines (length lines) s → ⊥
  pub least : (r : ℕ) → r < s → IsTimedBefore lines (length lines) r

-- what a fault says. Out of memory says nothing of the text
abbrev pub IsTextFault : ℕ → List (List ℕ) → TimeTextFault → Type 0
IsTextFault n lines (BadForm i) = IsMisplaced n lines i ⊎ IsSilent lines i
IsTextFault n lines (UnknownSegment i) = IsUnknown n lines i
IsTextFault n lines (TimedTwice i) = IsTwice n lines i
IsTextFault n lines (NotTimed s) = IsNotTimed n lines s
IsTextFault n lines OutOfMemory = ⊤

-- the line that a fault names, if it names one, is one of the first n
abbrev pub NamesLineBelow : ℕ → TimeTextFault → Type 0
NamesLineBelow n (BadForm i) = i < n
NamesLineBelow n (UnknownSegment i) = i < n
NamesLineBelow n (TimedTwice i) = i < n
NamesLineBelow n (NotTimed s) = ⊤
NamesLineBelow n OutOfMemory = ⊤
