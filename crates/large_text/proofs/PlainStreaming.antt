-- A text that is taken in pieces: how each piece goes on from those before it.
use Rattle.std.proofs.Common.{◌≡◌, ◌+◌, ◌<◌, ◌≤◌, ◌∙◌, ℕ, cond, false, List, [], ◌∷◌, ◌++◌}
use Rattle.std.proofs.Common.{◌-◌, Result, Ok, Err, Option, Some, None, length, take, drop, get_or}
use Rattle.std.proofs.Common.{append_assoc, length-append, refl, sym, ap, subst, arith}
use Rattle.std.specs.Prelude.{OnOk, is_ok}
use Rattle.std.proofs.lemmas.List.{append-nil, take_more, take-append-drop}
use Rattle.std.proofs.lemmas.List.Sums.{sum_by-append}
use Rattle.program_text.specs.declared.fault.ReadFault.{ReadFault}
use Rattle.program_text.specs.Marks.{Mark}
use Rattle.program_text.specs.declared.statement.Item.{Item}
use Rattle.program_text.specs.Tokens.{Token, texts, is_line_feed, tokens_from, tokens_of}
use Rattle.program_text.specs.Tokens.{line_at_end}
use Rattle.large_text.specs.declared.tally.Tally.{Tally}
use Rattle.large_text.specs.Printed.{PrintsBy}
use Rattle.large_text.specs.Tallied.{IsBegun}
use Rattle.large_text.specs.declared.reader.MarkReader.{MarkReader}
use Rattle.large_text.specs.LargeReading.{HasNoItems, IsReadSoFar}
use Rattle.large_text.specs.LargeTrees.{HasLargeProgram, IsLargeRightWhole, IsLargeFirstFault}
use Rattle.large_text.specs.LargeTrees.{plain_program}
use Rattle.large_text.specs.LargeTexts.{FitsText, HasNoLineFeed}
use Rattle.large_text.specs.Measured.{MeasuresSoFar, TalliesPlain}
use Rattle.large_text.specs.PlainStreamed.{EndsLine, CutsTokens, HasTakenLines, HasFault}
use Rattle.large_text.specs.PlainStreamed.{HasTakenBy, CanTakePlain}
use Rattle.large_text.specs.declared.plain_stream.PlainMeter.{PlainMeter}
use Rattle.large_text.specs.declared.limits.TheConstants.{LARGEST_LINE}
use Rattle.large_text.proofs.Cutting.{cut_behind}
use Rattle.large_text.proofs.Measuring.{stops_early, is_measured}

-- ---- lines and cuts

line_adds : (line : ℕ) (a b : List ℕ)
    → line_at_end (line_at_end line a) b ≡ line_at_end line (a ++ b)
line_adds line a b =
    omega (arith, sum_by-append (λ byte. cond (is_line_feed byte) 1 0) a b)

no_cut : CutsTokens []
unfolding tokens_from
no_cut = λ later. refl

pub cut_once : (line : ℕ) (text later : List ℕ) → EndsLine text
    → tokens_from false line (text ++ later)
    ≡ tokens_from false line text ++ tokens_from false (line_at_end line text) later
cut_once line text later (front, is) =
    subst (λ (bytes : List ℕ). tokens_from false line (bytes ++ later)
    ≡ tokens_from false line bytes ++ tokens_from false (line_at_end line bytes) later) (sym is)
    (ap (λ (bytes : List ℕ). tokens_from false line bytes) (append_assoc front (10 ∷ []) later)
    ∙ cut_behind false line front later)

cut_more : (lines text : List ℕ) → CutsTokens lines → EndsLine text → CutsTokens (lines ++ text)
cut_more lines text cuts ends = λ later.
    let line = line_at_end 1 lines in
    let first = tokens_of lines in
    let more = tokens_from false line text in
    let rest = tokens_from false (line_at_end line text) later in
    let whole : tokens_of ((lines ++ text) ++ later) ≡ first ++ (more ++ rest) =
    ap (λ (bytes : List ℕ). tokens_of bytes) (append_assoc lines text later)
    ∙ cuts (text ++ later)
    ∙ ap (λ (ts : List Token). first ++ ts) (cut_once line text later ends) in
    let two : first ++ more ≡ tokens_of (lines ++ text) = sym (cuts text) in
    let regrouped : first ++ (more ++ rest) ≡ tokens_of (lines ++ text) ++ rest =
    sym (append_assoc first more rest) ∙ ap (λ (ts : List Token). ts ++ rest) two in
    let same : rest ≡ tokens_from false (line_at_end 1 (lines ++ text)) later =
    ap (λ (n : ℕ). tokens_from false n later) (line_adds 1 lines text) in
    whole ∙ regrouped ∙ ap (λ (ts : List Token). tokens_of (lines ++ text) ++ ts) same

-- they end behind an LF
pub line_ends : (bytes : List ℕ) (end : ℕ) → 0 < end → end ≤ length bytes
    → get_or bytes (end - 1) 0 ≡ 10
    → EndsLine (take end bytes)
line_ends bytes end some within feed =
    let whole : end - 1 + 1 ≡ end = omega arith in
    let more : take (end - 1 + 1) bytes ≡ take (end - 1) bytes ++ get_or bytes (end - 1) 0 ∷ [] =
    take_more bytes (end - 1) 0 (omega arith) in (
      take (end - 1) bytes,
      ap (λ (n : ℕ). take n bytes) (sym whole)
          ∙ more
          ∙ ap (λ (b : ℕ). take (end - 1) bytes ++ b ∷ []) feed,
    )

-- ---- from piece to piece

pub taken_first : (reader : MarkReader) (meter : Tally)
    → IsReadSoFar [] [] reader
    → HasNoItems reader
    → IsBegun meter
    → HasTakenLines [] [] 1 reader meter
unfolding tokens_from
taken_first reader meter so_far none begun = record {
  lines = [];
  all = refl;
  cuts = no_cut;
  line_is = refl;
  so_far = record {
    marks = [];
    so_far = so_far;
    measures = begun.tallies;
    prints = subst (λ (items : List Item). PrintsBy meter.printer reader.names items []) (sym none)
        (begun.prints reader.names);
  };
}

-- a line that is not whole is kept
pub keeps_more : (bytes tail more : List ℕ) (line : ℕ) (reader : MarkReader) (meter : Tally)
    → HasTakenLines bytes tail line reader meter
    → HasTakenLines (bytes ++ more) (tail ++ more) line reader meter
keeps_more bytes tail more line reader meter h = record {
  lines = h.lines;
  all = ap (λ (a : List ℕ). a ++ more) h.all ∙ append_assoc h.lines tail more;
  cuts = h.cuts;
  line_is = h.line_is;
  so_far = h.so_far;
}

-- a text of which nothing is taken yet
pub taken_none : (text : List ℕ) (reader : MarkReader) (meter : Tally)
    → IsReadSoFar [] [] reader
    → HasNoItems reader
    → IsBegun meter
    → HasTakenLines text text 1 reader meter
taken_none text reader meter so_far none begun =
    keeps_more [] [] text 1 reader meter (taken_first reader meter so_far none begun)

-- and a fault stays the first
pub stays_fault : (bytes more : List ℕ) (fault : ReadFault)
    → HasFault bytes fault
    → HasFault (bytes ++ more) fault
stays_fault bytes more fault h = λ later end_line.
    subst (λ (all : List ℕ). IsLargeFirstFault (tokens_of all) end_line fault)
    (sym (append_assoc bytes more later)) (h (more ++ later) end_line)

pub kept : (found : Option ReadFault) (bytes tail more after : List ℕ) (line : ℕ)
    (reader : MarkReader) (meter : Tally)
    → after ≡ tail ++ more
    → HasTakenBy found bytes tail line reader meter
    → HasTakenBy found (bytes ++ more) after line reader meter
kept None bytes tail more after line reader meter is h =
    subst (λ (end : List ℕ). HasTakenLines (bytes ++ more) end line reader meter) (sym is)
    (keeps_more bytes tail more line reader meter h)
kept (Some fault) bytes tail more after line reader meter is h = stays_fault bytes more fault h

-- where memory for it is at hand
pub where_ok : {E : Type 0} (result : Result (Unit {0}) E) (P : Type 0) (after tail more : List ℕ)
    → after ≡ cond (is_ok result) (tail ++ more) tail
    → (after ≡ tail ++ more → P)
    → OnOk result P
where_ok (Ok u) P after tail more is then = then is
where_ok (Err fault) P after tail more is then = cc

-- ---- what fits

pub fits_none : FitsText []
fits_none = record {
  short = omega arith;
  lines = λ front line later is none.
      omega (arith, ap length is, length-append front (line ++ later), length-append line later);
}

pub fits_short : (bytes : List ℕ) → length bytes ≤ LARGEST_LINE → FitsText bytes
fits_short bytes few = record {
  short = omega (arith, few);
  lines = λ front line later is none. omega (
    arith,
    few,
    ap length is,
    length-append front (line ++ later),
    length-append line later,
  );
}

pub fits_front : (front back : List ℕ) → FitsText (front ++ back) → FitsText front
fits_front front back fits = record {
  short = omega (arith, fits.short, length-append front back);
  lines = λ before line later is none. fits.lines before line (later ++ back)
      (ap (λ (bytes : List ℕ). bytes ++ back) is
      ∙ append_assoc before (line ++ later) back
      ∙ ap (λ (bytes : List ℕ). before ++ bytes) (append_assoc line later back)) none;
}

pub no_feed_more : (first second : List ℕ) → HasNoLineFeed first → HasNoLineFeed second
    → HasNoLineFeed (first ++ second)
no_feed_more first second a b =
    omega (arith, a, b, sum_by-append (λ byte. cond (is_line_feed byte) 1 0) first second)

-- two pieces, one behind the other
pub takes_two : (Old Middle New : List ℕ → Type 0) (all first second : List ℕ)
    → all ≡ first ++ second
    → ((taken : List ℕ) → FitsText (taken ++ first) → Old taken → Middle (taken ++ first))
    → ((taken : List ℕ) → FitsText (taken ++ second) → Middle taken → New (taken ++ second))
    → (taken : List ℕ)
    → FitsText (taken ++ all)
    → Old taken
    → New (taken ++ all)
takes_two Old Middle New all first second is takes_first takes_second = λ taken fits h.
    let whole : taken ++ all ≡ (taken ++ first) ++ second =
    ap (λ (bytes : List ℕ). taken ++ bytes) is ∙ sym (append_assoc taken first second) in
    let both : FitsText ((taken ++ first) ++ second) = subst FitsText whole fits in
    subst New (sym whole)
    (takes_second (taken ++ first) both
    (takes_first taken (fits_front (taken ++ first) second both) h))

-- where a whole piece can be taken, so can what it begins with
pub can_front : (all first second : List ℕ) (text_meter : PlainMeter)
    → all ≡ first ++ second
    → CanTakePlain all text_meter
    → CanTakePlain first text_meter
can_front all first second text_meter is can = record {
  bytes = can.bytes;
  taken = can.taken;
  fits = fits_front (can.bytes ++ first) second
      (subst FitsText
      (ap (λ (bytes : List ℕ). can.bytes ++ bytes) is ∙ sym (append_assoc can.bytes first second))
      can.fits);
}

pub split_whole : (bytes front back : List ℕ) (n : ℕ) → front ≡ take n bytes → back ≡ drop n bytes
    → bytes ≡ front ++ back
split_whole bytes front back n front_is back_is =
    rw (front_is, back_is) (sym (take-append-drop n bytes))

moved : (lines tail piece bytes : List ℕ) → bytes ≡ lines ++ tail
    → bytes ++ piece ≡ lines ++ (tail ++ piece)
moved lines tail piece bytes all =
    ap (λ (a : List ℕ). a ++ piece) all ∙ append_assoc lines tail piece

ends_line : (tail piece : List ℕ) → EndsLine piece → EndsLine (tail ++ piece)
ends_line tail piece (front, is) =
    (tail ++ front, ap (λ (a : List ℕ). tail ++ a) is ∙ sym (append_assoc tail front (10 ∷ [])))

-- the tokens of whole lines are taken
pub lines_taken : (bytes tail piece : List ℕ) (line end : ℕ) (reader next : MarkReader)
    (meter more : Tally)
    → HasTakenLines bytes tail line reader meter
    → EndsLine piece
    → end ≡ line_at_end line (tail ++ piece)
    → ((before : List Token) → MeasuresSoFar before reader meter
    → MeasuresSoFar (before ++ tokens_from false line (tail ++ piece)) next more)
    → HasTakenLines (bytes ++ piece) [] end next more
lines_taken bytes tail piece line end reader next meter more h ends end_is reads =
    let text = tail ++ piece in
    let tokens : tokens_of h.lines ++ tokens_from false line text ≡ tokens_of (h.lines ++ text) =
    ap (λ (n : ℕ). tokens_of h.lines ++ tokens_from false n text) h.line_is ∙ sym (h.cuts text) in
    record {
      lines = h.lines ++ text;
      all = moved h.lines tail piece bytes h.all ∙ sym (append-nil (h.lines ++ text));
      cuts = cut_more h.lines text h.cuts (ends_line tail piece ends);
      line_is = end_is
          ∙ ap (λ (n : ℕ). line_at_end n text) h.line_is
          ∙ line_adds 1 h.lines text;
      so_far = subst (λ (ts : List Token). MeasuresSoFar ts next more) tokens
          (reads (tokens_of h.lines) h.so_far);
    }

-- or one of them is wrong
pub fault_met : (bytes tail piece : List ℕ) (line : ℕ) (reader : MarkReader) (meter : Tally)
    (fault : ReadFault)
    → HasTakenLines bytes tail line reader meter
    → EndsLine piece
    → ((before later : List Token) (end_line : ℕ) → MeasuresSoFar before reader meter
    → IsLargeFirstFault (before ++ (tokens_from false line (tail ++ piece) ++ later)) end_line fault)
    → HasFault (bytes ++ piece) fault
fault_met bytes tail piece line reader meter fault h ends refused = λ later end_line.
    let text = tail ++ piece in
    let first = tokens_of h.lines in
    let rest = tokens_from false (line_at_end line text) later in
    let whole : tokens_of ((bytes ++ piece) ++ later)
    ≡ first ++ (tokens_from false line text ++ rest) =
    ap (λ (a : List ℕ). tokens_of (a ++ later)) (moved h.lines tail piece bytes h.all)
    ∙ ap (λ (a : List ℕ). tokens_of a) (append_assoc h.lines text later)
    ∙ h.cuts (text ++ later)
    ∙ ap (λ (n : ℕ). first ++ tokens_from false n (text ++ later)) (sym h.line_is)
    ∙ ap (λ (ts : List Token). first ++ ts)
    (cut_once line text later (ends_line tail piece ends)) in
    subst (λ (ts : List Token). IsLargeFirstFault ts end_line fault) (sym whole)
    (refused first rest end_line h.so_far)

-- the same of the text that was gone through, behind which nothing is kept
pub lines_done : (found : Option ReadFault) (bytes tail piece text after : List ℕ)
    (line end lines : ℕ)
    (reader next : MarkReader) (meter more : Tally)
    → found ≡ None
    → text ≡ tail ++ piece
    → after ≡ []
    → HasTakenBy found bytes tail line reader meter
    → EndsLine piece
    → end ≡ line_at_end line text
    → lines + 1 ≡ end
    → ((before : List Token) → MeasuresSoFar before reader meter
    → MeasuresSoFar (before ++ tokens_from false line text) next more)
    → HasTakenBy found (bytes ++ piece) after (lines + 1) next more
lines_done None bytes tail piece text after line end lines reader next meter more none is empty h ends
    end_is lines_is reads =
    subst (λ (n : ℕ). HasTakenLines (bytes ++ piece) after n next more) (sym lines_is)
    (subst (λ (rest : List ℕ). HasTakenLines (bytes ++ piece) rest end next more) (sym empty)
    (lines_taken bytes tail piece line end reader next meter more h ends
    (end_is ∙ ap (λ (a : List ℕ). line_at_end line a) is)
    (subst (λ (a : List ℕ). (before : List Token) → MeasuresSoFar before reader meter
    → MeasuresSoFar (before ++ tokens_from false line a) next more) is reads)))
lines_done (Some fault) bytes tail piece text after line end lines reader next meter more none is
    empty h ends end_is lines_is reads = absurd cc

pub fault_done : (found : Option ReadFault) (bytes tail piece text : List ℕ) (line : ℕ)
    (reader : MarkReader) (meter : Tally) (fault : ReadFault)
    → found ≡ None
    → text ≡ tail ++ piece
    → HasTakenBy found bytes tail line reader meter
    → EndsLine piece
    → ((before later : List Token) (end_line : ℕ) → MeasuresSoFar before reader meter
    → IsLargeFirstFault (before ++ (tokens_from false line text ++ later)) end_line fault)
    → HasFault (bytes ++ piece) fault
fault_done None bytes tail piece text line reader meter fault none is h ends refused =
    fault_met bytes tail piece line reader meter fault h ends
    (subst (λ (a : List ℕ). (before later : List Token) (end_line : ℕ)
    → MeasuresSoFar before reader meter
    → IsLargeFirstFault (before ++ (tokens_from false line a ++ later)) end_line fault) is refused)
fault_done (Some other) bytes tail piece text line reader meter fault none is h ends refused =
    absurd cc

-- ---- the end of the text

tokens_whole : (bytes tail : List ℕ) (line : ℕ) (reader : MarkReader) (meter : Tally)
    (h : HasTakenLines bytes tail line reader meter)
    → tokens_of h.lines ++ tokens_from false line tail ≡ tokens_of bytes
tokens_whole bytes tail line reader meter h =
    ap (λ (n : ℕ). tokens_of h.lines ++ tokens_from false n tail) h.line_is
    ∙ sym (h.cuts tail)
    ∙ ap (λ (a : List ℕ). tokens_of a) (sym h.all)

pub all_taken : (bytes tail : List ℕ) (line : ℕ) (reader next : MarkReader) (meter more : Tally)
    → HasTakenLines bytes tail line reader meter
    → ((before : List Token) → MeasuresSoFar before reader meter
    → MeasuresSoFar (before ++ tokens_from false line tail) next more)
    → MeasuresSoFar (tokens_of bytes) next more
all_taken bytes tail line reader next meter more h reads =
    subst (λ (ts : List Token). MeasuresSoFar ts next more)
    (tokens_whole bytes tail line reader meter h) (reads (tokens_of h.lines) h.so_far)

pub last_line : (bytes tail : List ℕ) (line end : ℕ) (reader : MarkReader) (meter : Tally)
    → HasTakenLines bytes tail line reader meter
    → end ≡ line_at_end line tail
    → end ≡ line_at_end 1 bytes
last_line bytes tail line end reader meter h end_is =
    end_is
    ∙ ap (λ (n : ℕ). line_at_end n tail) h.line_is
    ∙ line_adds 1 h.lines tail
    ∙ ap (λ (a : List ℕ). line_at_end 1 a) (sym h.all)

pub last_fault : (bytes tail : List ℕ) (line : ℕ) (reader : MarkReader) (meter : Tally)
    (fault : ReadFault)
    → HasTakenLines bytes tail line reader meter
    → ((before later : List Token) (end_line : ℕ) → MeasuresSoFar before reader meter
    → IsLargeFirstFault (before ++ (tokens_from false line tail ++ later)) end_line fault)
    → (end_line : ℕ) → IsLargeFirstFault (tokens_of bytes) end_line fault
last_fault bytes tail line reader meter fault h refused = λ end_line.
    let first = tokens_of h.lines in
    subst (λ (ts : List Token). IsLargeFirstFault ts end_line fault)
    (ap (λ (ts : List Token). first ++ ts) (append-nil (tokens_from false line tail))
    ∙ tokens_whole bytes tail line reader meter h)
    (refused first [] end_line h.so_far)

-- the same of what a meter of a text has taken
pub told : (found : Option ReadFault) (bytes tail : List ℕ) (line : ℕ) (reader : MarkReader)
    (meter : Tally) (fault : ReadFault)
    → found ≡ Some fault
    → HasTakenBy found bytes tail line reader meter
    → (end_line : ℕ) → IsLargeFirstFault (tokens_of bytes) end_line fault
told found bytes tail line reader meter fault is h = λ end_line.
    let has : HasFault bytes fault =
    subst (λ (f : Option ReadFault). HasTakenBy f bytes tail line reader meter) is h in
    subst (λ (all : List ℕ). IsLargeFirstFault (tokens_of all) end_line fault) (append-nil bytes)
    (has [] end_line)

are_lines : (found : Option ReadFault) (bytes tail text : List ℕ) (line : ℕ) (reader : MarkReader)
    (meter : Tally)
    → found ≡ None
    → text ≡ tail
    → HasTakenBy found bytes tail line reader meter
    → HasTakenLines bytes text line reader meter
are_lines found bytes tail text line reader meter none is h =
    subst (λ (rest : List ℕ). HasTakenLines bytes rest line reader meter) (sym is)
    (subst (λ (f : Option ReadFault). HasTakenBy f bytes tail line reader meter) none h)

pub fault_last : (found : Option ReadFault) (bytes tail text : List ℕ) (line : ℕ)
    (reader : MarkReader) (meter : Tally) (fault : ReadFault)
    → found ≡ None
    → text ≡ tail
    → HasTakenBy found bytes tail line reader meter
    → ((before later : List Token) (end_line : ℕ) → MeasuresSoFar before reader meter
    → IsLargeFirstFault (before ++ (tokens_from false line text ++ later)) end_line fault)
    → (end_line : ℕ) → IsLargeFirstFault (tokens_of bytes) end_line fault
fault_last found bytes tail text line reader meter fault none is h refused =
    last_fault bytes text line reader meter fault
    (are_lines found bytes tail text line reader meter none is h) refused

pub ends_early : (found : Option ReadFault) (bytes tail text : List ℕ) (line end : ℕ)
    (reader next : MarkReader) (meter more : Tally) (fault : ReadFault)
    → found ≡ None
    → text ≡ tail
    → HasTakenBy found bytes tail line reader meter
    → end ≡ line_at_end line text
    → ((before : List Token) → MeasuresSoFar before reader meter
    → MeasuresSoFar (before ++ tokens_from false line text) next more)
    → ((before : List Token) (marks : List Mark) → IsReadSoFar before marks next
    → IsLargeFirstFault before end fault)
    → IsLargeFirstFault (tokens_of bytes) (line_at_end 1 bytes) fault
ends_early found bytes tail text line end reader next meter more fault none is h end_is reads
    refused =
    let lines = are_lines found bytes tail text line reader meter none is h in
    stops_early (tokens_of bytes) (tokens_of bytes) (line_at_end 1 bytes) end next more fault
    (all_taken bytes text line reader next meter more lines reads) refl
    (last_line bytes text line end reader meter lines end_is) refused

pub ends_whole : (found : Option ReadFault) (bytes tail text : List ℕ) (line : ℕ)
    (reader next : MarkReader) (meter more : Tally)
    → found ≡ None
    → text ≡ tail
    → HasTakenBy found bytes tail line reader meter
    → ((before : List Token) → MeasuresSoFar before reader meter
    → MeasuresSoFar (before ++ tokens_from false line text) next more)
    → ((before : List Token) (marks : List Mark) → IsReadSoFar before marks next
    → HasLargeProgram (texts before) (plain_program next.names marks)
    × IsLargeRightWhole before)
    → TalliesPlain (tokens_of bytes) more
ends_whole found bytes tail text line reader next meter more none is h reads whole =
    is_measured (tokens_of bytes) (tokens_of bytes) next more
    (all_taken bytes text line reader next meter more
    (are_lines found bytes tail text line reader meter none is h) reads) refl whole
