-- Carried out: what a tally holds of the marks that it has taken.
use Rattle.std.specs.Prelude.{◌+◌, ◌≤◌, ℕ, Bool, IsTrue, List, [], ◌∷◌, false}
use Rattle.task_program.specs.Nested.{IsNested}
use Rattle.task_segments.specs.Moments.{last_moment}
use Rattle.std.specs.Option.{IfSome, is_some}
use Rattle.program_text.specs.Limits.{work_of, work_done}
use Rattle.program_text.specs.Marks.{Mark}
use Rattle.program_text.specs.Marks.Mark.{Begins}
use Rattle.program_text.specs.declared.limits.TheConstants.{MOST_WORK}
use Rattle.task_segments.specs.MarkCutting.{Tables}
use Rattle.task_segments.specs.declared.mark_cutter.MarkCutter.{MarkCutter}
use Rattle.online_span.specs.Measuring.{Measures, Fits}
use Rattle.task_program.specs.declared.version.Version.{Version}
use Rattle.task_program.specs.declared.version.Version.TheVariants.{One}
use Rattle.large_text.specs.Printed.{PrintsIn}
use Rattle.large_text.specs.declared.tally.Tally.{Tally}

-- the meter has taken the marks of this moment, and so have the rows, where they are kept
pub record Tallies (tally : Tally) (e : List Mark) : Type 0 where
  pub measures : Measures tally.meter e
  pub rows : IfSome tally.rows (λ (rows : MarkCutter). Tables rows e)

-- whether the rows are kept
abbrev pub keeps_rows : Tally → Bool
keeps_rows tally = is_some tally.rows

-- whether the canonical text is
abbrev pub keeps_text : Tally → Bool
keeps_text tally = is_some tally.printer

-- no mark of a text of this version has come
pub record IsBegunIn (version : Version) (tally : Tally) : Type 0 where
  pub tallies : Tallies tally (Begins false [] ∷ [])
  pub prints : (names : List (List ℕ)) → PrintsIn version tally.printer names [] []

-- of version 1
abbrev pub IsBegun : Tally → Type 0
IsBegun tally = IsBegunIn One tally

-- a mark can come at this moment, and the work stays within the limit
pub record FitsWork (mark : Mark) (e : List Mark) : Type 0 where
  pub fits : Fits mark e
  pub work : work_of e + work_done mark ≤ MOST_WORK

-- the tally can take this mark
pub record CanTally (tally : Tally) (mark : Mark) : Type 0 where
  pub moment : List Mark
  pub tallies : Tallies tally moment
  pub fits : FitsWork mark moment

-- and so can the rows, if there is room
pub record CanEnter (rows : MarkCutter) (mark : Mark) : Type 0 where
  pub moment : List Mark
  pub tables : Tables rows moment
  pub fits : FitsWork mark moment

-- the marks of a whole program have been taken
pub record IsWholeTally (tally : Tally) : Type 0 where
  pub marks : List Mark
  pub nested : IsNested marks
  pub tallies : Tallies tally (last_moment marks)

-- the rows of a whole program, whose work is within the limit where this is true
pub record HasRowsOf (rows : MarkCutter) (within : Bool) : Type 0 where
  pub marks : List Mark
  pub nested : IsNested marks
  pub tables : Tables rows (last_moment marks)
  pub work : IsTrue within → work_of marks ≤ MOST_WORK
