-- Reading a text and measuring its marks, token by token.
use Rattle.std.proofs.Common.{◌≡◌, ℕ, ◌+◌, false, List, [], ◌∷◌, ◌++◌, map, append_assoc, refl}
use Rattle.std.proofs.Common.{sym, ap, subst, ◌∙◌, arith, Option, Some, None}
use Rattle.std.proofs.lemmas.List.{append-nil}
use Rattle.program_text.specs.declared.fault.ReadFault.{ReadFault}
use Rattle.program_text.specs.declared.scanner.Scanner.{Scanner}
use Rattle.program_text.specs.Marks.{Mark}
use Rattle.program_text.specs.Marks.Mark.{Begins}
use Rattle.program_text.specs.ScannerSeen.{tokens_left, end_line}
use Rattle.program_text.specs.Tokens.{Token, texts, tokens_from, line_at_end}
use Rattle.task_segments.specs.Moments.{last_moment}
use Rattle.task_segments.proofs.LastMoment.{moment_after-append}
use Rattle.large_text.specs.declared.tally.Tally.{Tally}
use Rattle.large_text.specs.Printed.{PrintsItem, PrintsMark}
use Rattle.large_text.specs.Tallied.{Tallies}
use Rattle.large_text.specs.declared.printer.Printer.{Printer}
use Rattle.large_text.specs.declared.marks.TextMark.{TextMark}
use Rattle.large_text.specs.declared.reader.MarkReader.{MarkReader}
use Rattle.large_text.specs.LargeReading.{GoesTo, IsReadSoFar, mark_seen}
use Rattle.large_text.specs.LargeTrees.{HasLargeProgram, IsLargeRightWhole, IsLargeFirstFault}
use Rattle.large_text.specs.LargeTrees.{plain_program}
use Rattle.large_text.specs.Measured.{TalliesPlain, MeasuresSoFar, CanMeasure}
use Rattle.task_program.specs.declared.version.Version.TheVariants.{One}
use Rattle.large_text.proofs.Moved.{further, tokens_further}
use Rattle.large_text.proofs.Printing.{prints_mark, prints_token, whole_text}

-- a token with which a mark is whole
pub mark_taken : (before : List Token) (token : Token) (mark : TextMark) (old new : MarkReader)
    (meter more : Tally) (between : Option Printer)
    → ((tokens : List Token) (marks : List Mark) → IsReadSoFar tokens marks old
    → IsReadSoFar (tokens ++ token ∷ []) (marks ++ mark_seen mark ∷ []) new)
    → GoesTo old new token (Some mark)
    → ((moment : List Mark) → Tallies meter moment → Tallies more (mark_seen mark ∷ moment))
    → PrintsItem old.place token.text meter.printer between
    → PrintsMark between more.printer (mark_seen mark)
    → MeasuresSoFar before old meter
    → MeasuresSoFar (before ++ token ∷ []) new more
mark_taken before token mark old new meter more between reads goes takes item line m =
    let start : List Mark = Begins false [] ∷ [] in
    record {
      marks = m.marks ++ mark_seen mark ∷ [];
      so_far = reads before m.marks m.so_far;
      measures = subst (Tallies more)
          (sym (moment_after-append m.marks (mark_seen mark ∷ []) start))
          (takes (last_moment m.marks) m.measures);
      prints = prints_mark old new token mark m.marks meter.printer between more.printer goes item
          line m.prints;
    }

-- and one with which none is
pub token_taken : (before : List Token) (token : Token) (old new : MarkReader)
    (meter more : Tally)
    → ((tokens : List Token) (marks : List Mark) → IsReadSoFar tokens marks old
    → IsReadSoFar (tokens ++ token ∷ []) marks new)
    → GoesTo old new token None
    → ((moment : List Mark) → Tallies meter moment → Tallies more moment)
    → PrintsItem old.place token.text meter.printer more.printer
    → MeasuresSoFar before old meter
    → MeasuresSoFar (before ++ token ∷ []) new more
token_taken before token old new meter more reads goes stays item m = record {
  marks = m.marks;
  so_far = reads before m.marks m.so_far;
  measures = stays (last_moment m.marks) m.measures;
  prints = prints_token old new token m.marks meter.printer more.printer goes item m.prints;
}

-- ---- the tokens of a text

-- the tokens that are left, where so many lines stand before the bytes
abbrev pub left_behind : (lines : ℕ) → Scanner → List Token
left_behind lines scanner = tokens_from false (lines + scanner.line) scanner.rest.now

-- they are the scanner's, so many lines further
left_further : (lines : ℕ) (scanner : Scanner)
    → left_behind lines scanner ≡ map (further lines) (tokens_left scanner)
left_further lines scanner = tokens_further lines false scanner.line scanner.rest.now

one_further : (lines : ℕ) (scanner next : Scanner) (token : Token)
    → tokens_left scanner ≡ token ∷ tokens_left next
    → left_behind lines scanner ≡ further lines token ∷ left_behind lines next
one_further lines scanner next token split =
    left_further lines scanner
    ∙ ap (λ (ts : List Token). map (further lines) ts) split
    ∙ ap (λ (ts : List Token). further lines token ∷ ts) (sym (left_further lines next))

none_further : (lines : ℕ) (scanner : Scanner)
    → tokens_left scanner ≡ []
    → left_behind lines scanner ≡ []
none_further lines scanner none =
    left_further lines scanner ∙ ap (λ (ts : List Token). map (further lines) ts) none

-- the tokens before the scanner have been taken, and those of the text that are left are its own
pub record GoesThrough (text : List ℕ) (lines : ℕ) (scanner : Scanner) (first reader : MarkReader)
    (start meter : Tally) : Type 0 where
  pub gone : List Token
  pub all : tokens_from false (lines + 1) text ≡ gone ++ left_behind lines scanner
  pub line_is : lines + end_line scanner ≡ line_at_end (lines + 1) text
  pub reads : (before : List Token) → MeasuresSoFar before first start
      → MeasuresSoFar (before ++ gone) reader meter

pub goes_first : (text : List ℕ) (lines : ℕ) (scanner : Scanner) (reader : MarkReader)
    (meter : Tally)
    → scanner.rest.now ≡ text
    → scanner.line ≡ 1
    → GoesThrough text lines scanner reader reader meter meter
goes_first text lines scanner reader meter rest line_is = record {
  gone = [];
  all = rw (rest, line_is) refl;
  line_is = rw (rest, line_is) (omega arith);
  reads = λ before m. subst (λ (ts : List Token). MeasuresSoFar ts reader meter)
      (sym (append-nil before)) m;
}

pub goes_on : (text : List ℕ) (lines : ℕ) (scanner next : Scanner) (token : Token)
    (first old new : MarkReader) (start meter more : Tally)
    → GoesThrough text lines scanner first old start meter
    → tokens_left scanner ≡ token ∷ tokens_left next
    → end_line next ≡ end_line scanner
    → ((before : List Token) → MeasuresSoFar before old meter
    → MeasuresSoFar (before ++ further lines token ∷ []) new more)
    → GoesThrough text lines next first new start more
goes_on text lines scanner next token first old new start meter more at split line_is reads =
    let moved = further lines token in
    record {
      gone = at.gone ++ moved ∷ [];
      all = at.all
          ∙ ap (λ (ts : List Token). at.gone ++ ts) (one_further lines scanner next token split)
          ∙ sym (append_assoc at.gone (moved ∷ []) (left_behind lines next));
      line_is = ap (λ (n : ℕ). lines + n) line_is ∙ at.line_is;
      reads = λ before m. subst (λ (ts : List Token). MeasuresSoFar ts new more)
          (append_assoc before at.gone (moved ∷ []))
          (reads (before ++ at.gone) (at.reads before m));
    }

pub goes_still : (text : List ℕ) (lines : ℕ) (scanner : Scanner) (first reader : MarkReader)
    (start meter : Tally)
    → GoesThrough text lines scanner first reader start meter
    → CanMeasure first start
    → CanMeasure reader meter
goes_still text lines scanner first reader start meter at can = record {
  tokens = can.tokens ++ at.gone;
  so_far = at.reads can.tokens can.so_far;
}

pub goes_whole : (text : List ℕ) (lines : ℕ) (scanner : Scanner) (first reader : MarkReader)
    (start meter : Tally)
    → GoesThrough text lines scanner first reader start meter
    → tokens_left scanner ≡ []
    → (before : List Token) → MeasuresSoFar before first start
    → MeasuresSoFar (before ++ tokens_from false (lines + 1) text) reader meter
goes_whole text lines scanner first reader start meter at none = λ before m.
    subst (λ (ts : List Token). MeasuresSoFar (before ++ ts) reader meter)
    (sym
    (at.all
    ∙ ap (λ (ts : List Token). at.gone ++ ts) (none_further lines scanner none)
    ∙ append-nil at.gone))
    (at.reads before m)

-- the first fault is at this token
pub stops_at : (text : List ℕ) (lines : ℕ) (scanner next : Scanner) (token : Token)
    (first reader : MarkReader) (start meter : Tally) (fault : ReadFault)
    → GoesThrough text lines scanner first reader start meter
    → tokens_left scanner ≡ token ∷ tokens_left next
    → ((before later : List Token) (end_line : ℕ) → MeasuresSoFar before reader meter
    → IsLargeFirstFault (before ++ further lines token ∷ later) end_line fault)
    → (before later : List Token) (end_line : ℕ) → MeasuresSoFar before first start
    → IsLargeFirstFault (before ++ (tokens_from false (lines + 1) text ++ later)) end_line fault
stops_at text lines scanner next token first reader start meter fault at split refused =
    λ before later end_line m.
    let moved = further lines token in
    let rest = left_behind lines next in
    let whole : before ++ (tokens_from false (lines + 1) text ++ later)
    ≡ (before ++ at.gone) ++ moved ∷ (rest ++ later) =
    ap (λ (ts : List Token). before ++ (ts ++ later))
    (at.all ∙ ap (λ (ts : List Token). at.gone ++ ts) (one_further lines scanner next token split))
    ∙ ap (λ (ts : List Token). before ++ ts) (append_assoc at.gone (moved ∷ rest) later)
    ∙ sym (append_assoc before at.gone (moved ∷ (rest ++ later))) in
    subst (λ (ts : List Token). IsLargeFirstFault ts end_line fault) (sym whole)
    (refused (before ++ at.gone) (rest ++ later) end_line (at.reads before m))

-- the text ends where it may not
pub stops_early : (before all : List Token) (end_line line : ℕ) (reader : MarkReader)
    (meter : Tally) (fault : ReadFault)
    → MeasuresSoFar before reader meter
    → before ≡ all
    → line ≡ end_line
    → ((before : List Token) (marks : List Mark) → IsReadSoFar before marks reader
    → IsLargeFirstFault before line fault)
    → IsLargeFirstFault all end_line fault
stops_early before all end_line line reader meter fault m all_is line_is refused =
    subst (λ (ts : List Token). IsLargeFirstFault ts end_line fault) all_is
    (subst (λ (n : ℕ). IsLargeFirstFault before n fault) line_is (refused before m.marks m.so_far))

-- the text is whole
pub is_measured : (before all : List Token) (reader : MarkReader) (meter : Tally)
    → MeasuresSoFar before reader meter
    → before ≡ all
    → ((before : List Token) (marks : List Mark) → IsReadSoFar before marks reader
    → HasLargeProgram (texts before) (plain_program reader.names marks)
    × IsLargeRightWhole before)
    → TalliesPlain all meter
is_measured before all reader meter m all_is whole =
    let is = whole before m.marks m.so_far in
    subst (λ (ts : List Token). TalliesPlain ts meter) all_is (record {
      program = plain_program reader.names m.marks;
      stands = is.0;
      right = is.1;
      measures = m.measures;
      prints = whole_text One meter.printer reader.names reader.items m.marks m.prints;
    })
