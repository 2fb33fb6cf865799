-- Parts of a text that fits, and a text that is handed to a meter piece by piece.
use Rattle.std.proofs.Common.{◌≡◌, ◌++◌, ◌∙◌, ℕ, List, ap, arith, append_assoc}
use Rattle.std.proofs.Common.{subst, sym}
use Rattle.std.proofs.lemmas.List.{length-append}
use Rattle.large_text.specs.LargeTexts.{FitsText}
use Rattle.large_text.specs.Streamed.{CanTakeBytes, HasTaken, TakesBytes}
use Rattle.large_text.specs.declared.stream.TextMeter.{TextMeter}

pub fits_front : (front later : List ℕ) → FitsText (front ++ later) → FitsText front
fits_front front later h = record {
  short = omega (arith, h.short, length-append front later);
  lines = λ before line behind all none.
      h.lines before line (behind ++ later)
      (ap (λ (a : List ℕ). a ++ later) all
      ∙ append_assoc before (line ++ behind) later
      ∙ ap (λ (a : List ℕ). before ++ a) (append_assoc line behind later)) none;
}

pub fits_back : (before text : List ℕ) → FitsText (before ++ text) → FitsText text
fits_back before text h = record {
  short = omega (arith, h.short, length-append before text);
  lines = λ front line later all none.
      h.lines (before ++ front) line later
      (ap (λ (a : List ℕ). before ++ a) all ∙ sym (append_assoc before front (line ++ later)))
      none;
}

-- ---- a text that is handed to a meter piece by piece

-- the meter has taken what stands before the rest
pub record IsTakenUpTo (text rest : List ℕ) (text_meter : TextMeter) : Type 0 where
  pub front : List ℕ
  pub all : text ≡ front ++ rest
  pub taken : HasTaken front text_meter

piece_fits : (text front rest piece later : List ℕ)
    → FitsText text
    → text ≡ front ++ rest
    → piece ++ later ≡ rest
    → FitsText (front ++ piece)
piece_fits text front rest piece later fits all cut =
    let grouped : text ≡ (front ++ piece) ++ later =
    all ∙ ap (λ (bytes : List ℕ). front ++ bytes) (sym cut)
    ∙ sym (append_assoc front piece later) in
    fits_front (front ++ piece) later (subst (λ (bytes : List ℕ). FitsText bytes) grouped fits)

pub can_take_piece : (text rest piece later : List ℕ) (text_meter : TextMeter)
    → FitsText text
    → IsTakenUpTo text rest text_meter
    → piece ++ later ≡ rest
    → CanTakeBytes piece text_meter
can_take_piece text rest piece later text_meter fits h cut = record {
  bytes = h.front;
  taken = h.taken;
  fits = piece_fits text h.front rest piece later fits h.all cut;
}

pub takes_piece : (text rest piece later : List ℕ) (text_meter next : TextMeter)
    → FitsText text
    → IsTakenUpTo text rest text_meter
    → piece ++ later ≡ rest
    → TakesBytes piece text_meter next
    → IsTakenUpTo text later next
takes_piece text rest piece later text_meter next fits h cut takes = record {
  front = h.front ++ piece;
  all = h.all ∙ ap (λ (bytes : List ℕ). h.front ++ bytes) (sym cut)
      ∙ sym (append_assoc h.front piece later);
  taken = takes h.front (piece_fits text h.front rest piece later fits h.all cut) h.taken;
}
