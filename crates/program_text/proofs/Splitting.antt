-- A text cut at its line feeds, and where each line stands.
use Rattle.std.proofs.Common.{◌≡◌, ◌+◌, ◌-◌, ◌<◌, ◌≤◌, ◌++◌, ℕ, zero, suc, List, [], ◌∷◌, length}
use Rattle.std.proofs.Common.{take, drop, get_or, refl, sym, ap, ◌∙◌, arith, append_assoc, false}
use Rattle.std.proofs.Common.{true, Some, None, min, inl, inr, subst, below_more}
use Rattle.std.proofs.Math.ListN.{drop_of_length-le}
use Rattle.std.proofs.Math.Seq.{take-length, take-append_seam, drop-append-add}
use Rattle.std.proofs.lemmas.Bool.{lt-ltb, cases_lt}
use Rattle.std.proofs.lemmas.Bool.Decides.{nat_tests}
use Rattle.std.proofs.lemmas.Grind.{flat_map-append}
use Rattle.std.proofs.lemmas.List.{length-append, length-drop, take_more, at_drop_more}
use Rattle.std.proofs.lemmas.List.Splits.{join_with_byte-slice_split}
use Rattle.std.proofs.lemmas.List.Sums.{position_or_len_is}
use Rattle.std.specs.List.{join_with_byte}
use Rattle.program_text.specs.Document.{is_divider, lines_of, lines_before, has_divider}
use Rattle.program_text.specs.Document.{text_of_lines, program_part, rest_part}

-- lines in a row are those before a place, and those from it on
joined_at : (lines : List (List ℕ)) (n : ℕ)
    → n < length lines
    → join_with_byte 10 lines ≡ text_of_lines (take n lines) ++ join_with_byte 10 (drop n lines)
joined_at [] n h = absurd (omega arith)
joined_at (line ∷ lines) zero h = refl
joined_at (line ∷ []) (suc n) h = absurd (omega arith)
joined_at (line ∷ next ∷ lines) (suc n) h =
    let later : join_with_byte 10 (next ∷ lines)
    ≡ text_of_lines (take n (next ∷ lines)) ++ join_with_byte 10 (drop n (next ∷ lines)) =
    joined_at (next ∷ lines) n (omega arith) in
    ap (λ rest. line ++ 10 ∷ rest) later ∙ simp append_assoc

-- what follows the first of lines in a row
after_first_line : (line : List ℕ) (lines : List (List ℕ))
    → drop (length line + 1) (join_with_byte 10 (line ∷ lines)) ≡ join_with_byte 10 lines
after_first_line line [] = drop_of_length-le line (omega arith)
after_first_line line (next ∷ lines) =
    drop-append-add line (10 ∷ join_with_byte 10 (next ∷ lines)) 1

first_line_within : (line : List ℕ) (lines : List (List ℕ))
    → length line ≤ length (join_with_byte 10 (line ∷ lines))
first_line_within line [] = omega arith
first_line_within line (next ∷ lines) =
    omega (arith, length-append line (10 ∷ join_with_byte 10 (next ∷ lines)))

-- a line of a document, and where it begins
pub record IsLine (document : List ℕ) (n start : ℕ) (line : List ℕ) : Type 0 where
  pub is_there : n < length (lines_of document)
  pub is_line : line ≡ get_or (lines_of document) n []
  pub starts : start ≡ length (text_of_lines (take n (lines_of document)))

-- a document is the lines before one of its lines, that line, and those after it
parts_at : (document : List ℕ) (n start : ℕ) (line : List ℕ) → IsLine document n start line
    → document
    ≡ text_of_lines (take n (lines_of document))
    ++ join_with_byte 10 (line ∷ drop (n + 1) (lines_of document))
parts_at document n start line is =
    let lines = lines_of document in
    let here : drop n lines ≡ get_or lines n [] ∷ drop (n + 1) lines =
    at_drop_more (λ rest. rest) lines n [] is.is_there in
    sym (join_with_byte-slice_split 10 document) ∙ joined_at lines n is.is_there
    ∙ ap (λ rest. text_of_lines (take n lines) ++ join_with_byte 10 rest)
    (here ∙ ap (λ (first : List ℕ). first ∷ drop (n + 1) lines) (sym is.is_line))

-- a line lies within its document
pub line_within : (document : List ℕ) (n start : ℕ) (line : List ℕ)
    → IsLine document n start line
    → start + length line ≤ length document
line_within document n start line is =
    let before = text_of_lines (take n (lines_of document)) in
    let later = join_with_byte 10 (line ∷ drop (n + 1) (lines_of document)) in
    omega (
      arith,
      is.starts,
      ap length (parts_at document n start line is),
      length-append before later,
      first_line_within line (drop (n + 1) (lines_of document)),
    )

-- the lines before it
pub before_line : (document : List ℕ) (n start : ℕ) (line : List ℕ)
    → IsLine document n start line
    → take start document ≡ text_of_lines (take n (lines_of document))
before_line document n start line is =
    let before = text_of_lines (take n (lines_of document)) in
    let later = join_with_byte 10 (line ∷ drop (n + 1) (lines_of document)) in
    ap (λ k. take k document) is.starts
    ∙ ap (λ d. take (length before) d) (parts_at document n start line is)
    ∙ take-append_seam before later

-- the lines after it
pub after_line : (document : List ℕ) (n start : ℕ) (line : List ℕ) → IsLine document n start line
    → drop (start + (length line + 1)) document
    ≡ join_with_byte 10 (drop (n + 1) (lines_of document))
after_line document n start line is =
    let before = text_of_lines (take n (lines_of document)) in
    let rest = drop (n + 1) (lines_of document) in
    let later = join_with_byte 10 (line ∷ rest) in
    ap (λ k. drop (k + (length line + 1)) document) is.starts
    ∙ ap (λ d. drop (length before + (length line + 1)) d) (parts_at document n start line is)
    ∙ drop-append-add before later (length line + 1) ∙ after_first_line line rest

-- where the next line starts
pub next_start : (document : List ℕ) (n start : ℕ) (line : List ℕ) → IsLine document n start line
    → start + length line + 1 ≡ length (text_of_lines (take (n + 1) (lines_of document)))
next_start document n start line is =
    let lines = lines_of document in
    let one = λ (text : List ℕ). text ++ 10 ∷ [] in
    let more : take (n + 1) lines ≡ take n lines ++ line ∷ [] =
    take_more lines n [] is.is_there ∙ ap (λ last. take n lines ++ last ∷ []) (sym is.is_line) in
    let all : text_of_lines (take (n + 1) lines)
    ≡ text_of_lines (take n lines) ++ text_of_lines (line ∷ []) =
    ap text_of_lines more ∙ flat_map-append one (take n lines) (line ∷ []) in
    let last : length (text_of_lines (line ∷ [])) ≡ length line + 1 =
    simp length-append (omega arith) in
    omega (
      arith,
      is.starts,
      ap length all,
      length-append (text_of_lines (take n lines)) (text_of_lines (line ∷ [])),
      last,
    )

-- what is left of a document, from a place or from its end
pub rest_from : (document : List ℕ) (after place : ℕ) → place ≡ min after (length document)
    → take (length document - place) (drop place document) ≡ drop after document
rest_from document after place is =
    let rest = drop place document in
    let all : length document - place ≡ length rest = sym (length-drop place document) in
    ap (λ k. take k rest) all ∙ take-length rest ∙ elim (cases_lt after (length document)) [
      | inl within ↦ let place_is : place ≡ after = omega arith in ap (λ k. drop k document)
          place_is
      | inr past ↦
          let at_end : place ≡ length document = omega arith in
          drop_of_length-le document (omega arith) ∙ sym (drop_of_length-le document past)
    ]

-- one line more that is no divider
pub still_undivided : (document : List ℕ) (n m : ℕ) (line : List ℕ)
    → m ≡ n + 1
    → line ≡ get_or (lines_of document) n []
    → ((k : ℕ) → k < n → is_divider (get_or (lines_of document) k []) ≡ false)
    → is_divider line ≡ false
    → (k : ℕ)
    → k < m
    → is_divider (get_or (lines_of document) k []) ≡ false
still_undivided document n m line next is none no_divider =
    let P : ℕ → Type 0 = λ j.
    (k : ℕ) → k < j → is_divider (get_or (lines_of document) k []) ≡ false in
    subst P (sym next) (below_more _ _ none (ap is_divider (sym is) ∙ no_divider))

-- a divider behind lines that are none
pub finds_divider : (document : List ℕ) (n : ℕ) (line : List ℕ)
    → n < length (lines_of document)
    → line ≡ get_or (lines_of document) n []
    → ((k : ℕ) → k < n → is_divider (get_or (lines_of document) k []) ≡ false)
    → is_divider line ≡ true
    → (lines_before (lines_of document) ≡ n) × (has_divider document ≡ true)
finds_divider document n line there is none divider =
    let first : lines_before (lines_of document) ≡ n =
    position_or_len_is is_divider (lines_of document) n [] (omega arith) none
    (λ _. ap is_divider (sym is) ∙ divider) in
    (first, lt-ltb (lines_before (lines_of document)) (length (lines_of document)) (omega arith))

-- no divider at all
pub has_no_divider : (document : List ℕ) (n : ℕ)
    → n ≡ length (lines_of document)
    → ((k : ℕ) → k < n → is_divider (get_or (lines_of document) k []) ≡ false)
    → has_divider document ≡ false
has_no_divider document n all none =
    let first : lines_before (lines_of document) ≡ n =
    position_or_len_is is_divider (lines_of document) n [] (omega arith) none
    (λ h. absurd (omega arith)) in
    grind (arith, nat_tests)

pub program_at : (document : List ℕ) (n : ℕ)
    → lines_before (lines_of document) ≡ n
    → has_divider document ≡ true
    → program_part document ≡ text_of_lines (take n (lines_of document))
program_at document n first finds_divider =
    rw finds_divider (ap (λ k. text_of_lines (take k (lines_of document))) first)

pub rest_at : (document : List ℕ) (n : ℕ)
    → lines_before (lines_of document) ≡ n
    → has_divider document ≡ true
    → rest_part document ≡ Some (join_with_byte 10 (drop (n + 1) (lines_of document)))
rest_at document n first finds_divider =
    rw finds_divider (ap (λ k. Some (join_with_byte 10 (drop (k + 1) (lines_of document)))) first)

pub program_whole : (document : List ℕ)
    → has_divider document ≡ false
    → program_part document ≡ document
program_whole document has_no_divider = rw has_no_divider refl

pub no_rest : (document : List ℕ) → has_divider document ≡ false → rest_part document ≡ None
no_rest document has_no_divider = rw has_no_divider refl
