-- What a meter has taken of a text of any size.
use Rattle.std.specs.Prelude.{◌≡◌, ℕ, List}
use Rattle.std.specs.Option.{IfSome}
use Rattle.std.specs.String.{string_bytes}
use Rattle.program_text.specs.Marks.{Mark}
use Rattle.program_text.specs.Tokens.{Token, texts}
use Rattle.task_program.specs.Canonical.{canonical_text}
use Rattle.task_program.specs.ProgramMarks.{ProgramMarks}
use Rattle.task_segments.specs.MarksTable.{IsReading}
use Rattle.task_segments.specs.Moments.{last_moment}
use Rattle.task_segments.specs.Table.{Table, table_of}
use Rattle.large_text.specs.declared.tally.Tally.{Tally}
use Rattle.online_span.specs.declared.meter.Meter.{Meter}
use Rattle.online_span.specs.Measuring.{Measures}
use Rattle.large_text.specs.Printed.{PrintsBy}
use Rattle.large_text.specs.Tallied.{Tallies}
use Rattle.large_text.specs.declared.printer.Printer.{Printer}
use Rattle.large_text.specs.declared.reader.MarkReader.{MarkReader}
use Rattle.large_text.specs.LargeReading.{IsReadSoFar}
use Rattle.large_text.specs.LargeTexts.{IsLargeRight, StandsForLarge}
use Rattle.large_text.specs.LargeTrees.{HasLargeProgram, IsLargeRightWhole}

-- the text has no fault, and all of its marks have been taken
pub record TalliesText (text : List ℕ) (meter : Tally) : Type 0 where
  pub program : ProgramMarks
  pub stands : StandsForLarge text program
  pub right : IsLargeRight text
  pub measures : Tallies meter (last_moment program.marks)
  pub prints : IfSome meter.printer
      (λ (printer : Printer). string_bytes printer.text ≡ canonical_text program)

-- the same of the tokens of a text of version 1
pub record TalliesPlain (tokens : List Token) (meter : Tally) : Type 0 where
  pub program : ProgramMarks
  pub stands : HasLargeProgram (texts tokens) program
  pub right : IsLargeRightWhole tokens
  pub measures : Tallies meter (last_moment program.marks)
  pub prints : IfSome meter.printer
      (λ (printer : Printer). string_bytes printer.text ≡ canonical_text program)

-- the same of a meter alone
pub record MeasuresText (text : List ℕ) (meter : Meter) : Type 0 where
  pub program : ProgramMarks
  pub stands : StandsForLarge text program
  pub right : IsLargeRight text
  pub measures : Measures meter (last_moment program.marks)

-- the reader has taken these tokens, and the meter the marks that the reader has handed on
pub record MeasuresSoFar (tokens : List Token) (reader : MarkReader) (meter : Tally) : Type 0 where
  pub marks : List Mark
  pub so_far : IsReadSoFar tokens marks reader
  pub measures : Tallies meter (last_moment marks)
  pub prints : PrintsBy meter.printer reader.names reader.items marks

-- some tokens were taken so, and more can be
pub record CanMeasure (reader : MarkReader) (meter : Tally) : Type 0 where
  pub tokens : List Token
  pub so_far : MeasuresSoFar tokens reader meter

-- the numbers of its marks fit a table
abbrev pub FitsTable : List ℕ → Type 0
FitsTable text = (program : ProgramMarks) → StandsForLarge text program → IsReading program.marks

-- the text has no fault, and this is the table of its marks
pub record IsTableOfText (text : List ℕ) (table : Table) : Type 0 where
  pub program : ProgramMarks
  pub stands : StandsForLarge text program
  pub right : IsLargeRight text
  pub is : table ≡ table_of program.marks

-- and this is the canonical text of its program
pub record IsCanonicalOf (text written : List ℕ) : Type 0 where
  pub program : ProgramMarks
  pub stands : StandsForLarge text program
  pub right : IsLargeRight text
  pub is : written ≡ canonical_text program
