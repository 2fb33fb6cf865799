-- A document: a program text, and behind it, after a divider, a further part.
use Rattle.std.specs.Prelude.{ℕ, ◌+◌, ◌++◌, Bool, ◌||◌, List, [], ◌∷◌, length, flat_map, Option}
use Rattle.std.specs.Prelude.{Some, None, nat_lt, if◌then◌else◌, codes, take, drop}
use Rattle.std.specs.List.{slice_split, position_or_len, join_with_byte}
use Rattle.std.specs.Str.{bytes_eq}
use Rattle.program_text.specs.Tokens.{is_line_feed}

-- the lines, each without the LF (10) that ends it
abbrev pub lines_of : List ℕ → List (List ℕ)
lines_of document = slice_split is_line_feed document

-- the line that ends a program text: three hyphens, which one CR (13) may follow
abbrev pub is_divider : List ℕ → Bool
is_divider line = bytes_eq line (codes "---") || bytes_eq line (codes "---" ++ 13 ∷ [])

-- how many lines stand before the first divider; all of them, where there is none
abbrev pub lines_before : List (List ℕ) → ℕ
lines_before lines = position_or_len is_divider lines

-- whether some line is a divider
abbrev pub has_divider : List ℕ → Bool
has_divider document = nat_lt (lines_before (lines_of document)) (length (lines_of document))

-- lines, each with its LF
abbrev pub text_of_lines : List (List ℕ) → List ℕ
text_of_lines lines = flat_map (λ line. line ++ 10 ∷ []) lines

-- the program text: the lines before the first divider, or the whole document
abbrev pub program_part : List ℕ → List ℕ
program_part document =
    if has_divider document
    then text_of_lines (take (lines_before (lines_of document)) (lines_of document))
    else document

-- what stands after the first divider, where there is one
abbrev pub rest_part : List ℕ → Option (List ℕ)
rest_part document =
    if has_divider document
    then Some (join_with_byte 10 (drop (lines_before (lines_of document) + 1) (lines_of document)))
    else None
