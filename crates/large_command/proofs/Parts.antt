-- The parts of a document: its program begins it, and both parts fit.
use Rattle.std.proofs.Common.{◌≡◌, ◌+◌, ◌<◌, ◌++◌, ◌∙◌, ℕ, zero, suc, List, [], ◌∷◌, length, Bool}
use Rattle.std.proofs.Common.{IfSome, true, false, take, drop, ap, sym, subst, arith, refl}
use Rattle.std.proofs.Common.{append-nil, append_assoc, rules}
use Rattle.std.proofs.lemmas.List.Splits.{join_with_byte-slice_split}
use Rattle.std.specs.List.{join_with_byte}
use Rattle.program_text.specs.Document.{has_divider, lines_before, lines_of, program_part}
use Rattle.program_text.specs.Document.{rest_part, text_of_lines}
use Rattle.large_text.specs.LargeTexts.{FitsText}
use Rattle.large_documents.proofs.Handing.{fits_back, fits_front}

record BeginsWith (document program : List ℕ) : Type 0 where
  behind : List ℕ
  all : document ≡ program ++ behind

-- lines in a row, of which the first few are taken
front_of : (lines : List (List ℕ)) (n : ℕ) → n < length lines
    → BeginsWith (join_with_byte 10 lines) (text_of_lines (take n lines))
front_of [] n h = absurd (omega (arith, h))
front_of (line ∷ lines) zero h = record { behind = join_with_byte 10 (line ∷ lines); all = refl }
front_of (line ∷ []) (suc n) h = absurd (omega (arith, h))
front_of (line ∷ next ∷ lines) (suc n) h =
    let later = front_of (next ∷ lines) n (omega (arith, h)) in
    let front : List ℕ = text_of_lines (take n (next ∷ lines)) in
    record {
      behind = later.behind;
      all = ap (λ (a : List ℕ). line ++ 10 ∷ a) later.all
          ∙ sym (append_assoc line (10 ∷ []) (front ++ later.behind))
          ∙ sym (append_assoc (line ++ 10 ∷ []) front later.behind);
    }

whole : (document : List ℕ) → join_with_byte 10 (lines_of document) ≡ document
whole document = join_with_byte-slice_split 10 document

begins_by : (document : List ℕ) (divided : Bool) → has_divider document ≡ divided
    → BeginsWith document (program_part document)
begins_by document true e =
    let before : lines_before (lines_of document) < length (lines_of document) = search rules in
    let front = front_of (lines_of document) (lines_before (lines_of document)) before in
    rw e (record { behind = front.behind; all = sym (whole document) ∙ front.all })
begins_by document false e = rw e (record { behind = []; all = sym (append-nil document) })

begins : (document : List ℕ) → BeginsWith document (program_part document)
begins document = begins_by document (has_divider document) refl

pub fits_program : (document : List ℕ) → FitsText document → FitsText (program_part document)
fits_program document fits =
    let front = begins document in
    fits_front (program_part document) front.behind
    (subst (λ (bytes : List ℕ). FitsText bytes) front.all fits)

-- the same lines without the first few
back_of : (lines : List (List ℕ)) (n : ℕ)
    → (before : List ℕ) × (join_with_byte 10 lines ≡ before ++ join_with_byte 10 (drop n lines))
back_of lines zero = ([], refl)
back_of [] (suc n) = ([], refl)
back_of (line ∷ []) (suc n) =
    let later = back_of [] n in (
      line ++ later.0,
      sym (append-nil line) ∙ ap (λ (a : List ℕ). line ++ a) later.1
          ∙ sym (append_assoc line later.0 (join_with_byte 10 (drop n []))),
    )
back_of (line ∷ next ∷ lines) (suc n) =
    let later = back_of (next ∷ lines) n in (
      line ++ 10 ∷ later.0,
      ap (λ (a : List ℕ). line ++ 10 ∷ a) later.1
          ∙ sym (append_assoc line (10 ∷ later.0) (join_with_byte 10 (drop n (next ∷ lines)))),
    )

rest_by : (document : List ℕ) (divided : Bool) → has_divider document ≡ divided
    → FitsText document
    → IfSome (rest_part document) FitsText
rest_by document true e fits =
    let lines = lines_of document in
    let back = back_of lines (lines_before lines + 1) in
    rw e (fits_back back.0 (join_with_byte 10 (drop (lines_before lines + 1) lines))
    (subst (λ (bytes : List ℕ). FitsText bytes) (sym (whole document) ∙ back.1) fits))
rest_by document false e fits = rw e tt

pub fits_rest : (document : List ℕ) → FitsText document → IfSome (rest_part document) FitsText
fits_rest document fits = rest_by document (has_divider document) refl fits
