-- Texts that a meter takes piece by piece.
use Rattle.std.proofs.Common.{ℕ, ◌≡◌, ◌≤◌, ◌++◌, ◌∙◌, List, append_assoc, ap, arith, length}
use Rattle.std.proofs.Common.{length-append, refl, sym, true}
use Rattle.large_text.specs.Measured.{IsTableOfText}
use Rattle.large_text.specs.Streamed.{CanTakeBytes, HasTaken, TakesBytes}
use Rattle.large_text.specs.declared.limits.TheConstants.{LARGEST_LINE}
use Rattle.large_text.specs.declared.stream.TextMeter.{TextMeter}
use Rattle.large_text.proofs.PlainStreaming.{fits_short}
use Rattle.task_segments.specs.Table.{Table}
use Rattle.spanprof_c.specs.Programs.{OfText, source}

-- the table of a text of any size that is short enough is the text's
pub table_there : (text : List ℕ) (table : Table) → length text ≤ LARGEST_LINE
    → IsTableOfText text table
    → OfText (source true text) (λ other. other ≡ table)
table_there text table short is = record {
  marks = is.program.marks;
  stands = record {
    short = short;
    program = is.program;
    stands = is.stands;
    right = is.right;
    are = refl;
  };
  says = sym is.is;
}

-- a meter has taken what stands before the rest of a text
pub record TakesFront (text left : List ℕ) (text_meter : TextMeter) : Type 0 where
  pub front : List ℕ
  pub all : front ++ left ≡ text
  pub taken : HasTaken front text_meter

module _ (text left piece rest : List ℕ) (text_meter : TextMeter)
    (few : length text ≤ LARGEST_LINE) (before : TakesFront text left text_meter)
    (is : left ≡ piece ++ rest) where
  whole : (before.front ++ piece) ++ rest ≡ text
  whole = append_assoc before.front piece rest
      ∙ ap (λ (bytes : List ℕ). before.front ++ bytes) (sym is) ∙ before.all

  short : length (before.front ++ piece) ≤ LARGEST_LINE
  short = omega (
    arith,
    few,
    ap (λ (bytes : List ℕ). length bytes) whole,
    length-append (before.front ++ piece) rest,
  )

  pub can_take : CanTakeBytes piece text_meter
  can_take = record {
    bytes = before.front;
    taken = before.taken;
    fits = fits_short (before.front ++ piece) short;
  }

  pub one_more : (after : TextMeter) → TakesBytes piece text_meter after
      → TakesFront text rest after
  one_more after takes = record {
    front = before.front ++ piece;
    all = whole;
    taken = takes before.front (fits_short (before.front ++ piece) short) before.taken;
  }
