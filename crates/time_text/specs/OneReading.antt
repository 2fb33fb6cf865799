-- A text has times or a fault, and only one of them.
use Rattle.std.specs.Prelude.{ℕ, ◌≢◌, ◌⊎◌, List}
use Rattle.time_text.specs.TimesTexts.{IsTextFault, TellsTimes}
use Rattle.time_text.specs.declared.fault.TimeTextFault.{TimeTextFault}
use Rattle.time_text.specs.declared.fault.TimeTextFault.TheVariants.{OutOfMemory}
use Rattle.time_text.specs.declared.line.RegionTimes.{RegionTimes}
use Rattle.time_text.specs.declared.line.SegmentTimes.{SegmentTimes}

-- the times of a run of n segments
pub record ToldTimes (n : ℕ) (lines : List (List ℕ)) : Type 0 where
  pub region : RegionTimes
  pub segments : List SegmentTimes
  pub tells : TellsTimes n lines region segments

-- a fault of the text itself
pub record FoundFault (n : ℕ) (lines : List (List ℕ)) : Type 0 where
  pub fault : TimeTextFault
  pub of_text : fault ≢ OutOfMemory
  pub is_fault : IsTextFault n lines fault

abbrev pub HasReading : ℕ → List (List ℕ) → Type 0
HasReading n lines = ToldTimes n lines ⊎ FoundFault n lines
