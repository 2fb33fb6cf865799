-- What a line of times says: its words are `times` and three numbers, or four numbers, or none.
use Rattle.std.specs.Prelude.{ℕ, List, [], ◌∷◌, Option, Some, None, if◌then◌else◌, codes}
use Rattle.std.specs.Prelude.{slice_index_or}
use Rattle.std.specs.Str.{bytes_eq}
use Rattle.program_text.specs.PlainWords.{words_of, number_in_word}
use Rattle.time_text.specs.declared.line.TimeLine.{TimeLine}
use Rattle.time_text.specs.declared.line.TimeLine.TheVariants.{Blank, Region, Segment}
use Rattle.time_text.specs.declared.line.TheConstants.{LARGEST_MOMENT, LARGEST_NUMBER}

abbrev pub number_said : List ℕ → Option ℕ
number_said word = number_in_word LARGEST_NUMBER word

abbrev pub moment_said : List ℕ → Option ℕ
moment_said word = number_in_word LARGEST_MOMENT word

abbrev pub region_of : Option ℕ → Option ℕ → Option ℕ → Option TimeLine
region_of (Some threads) (Some first) (Some last) =
    Some (Region (record { threads = threads; first = first; last = last }))
region_of _ _ _ = None

-- how many threads, the first moment and the last one
abbrev pub region_said : (threads first last : List ℕ) → Option TimeLine
region_said threads first last =
    region_of (number_said threads) (moment_said first) (moment_said last)

abbrev pub segment_of : Option ℕ → Option ℕ → Option ℕ → Option ℕ → Option TimeLine
segment_of (Some segment) (Some thread) (Some begin) (Some end) =
    Some (Segment (record { segment = segment; thread = thread; begin = begin; end = end }))
segment_of _ _ _ _ = None

-- a segment, its thread, its begin and its end
abbrev pub segment_said : (segment thread begin end : List ℕ) → Option TimeLine
segment_said segment thread begin end =
    segment_of (number_said segment) (number_said thread) (moment_said begin) (moment_said end)

-- what words say, if anything
abbrev pub words_say : List (List ℕ) → Option TimeLine
words_say [] = Some Blank
words_say (a ∷ []) = None
words_say (a ∷ b ∷ []) = None
words_say (a ∷ b ∷ c ∷ []) = None
words_say (a ∷ b ∷ c ∷ d ∷ []) =
    if bytes_eq a (codes "times") then region_said b c d else segment_said a b c d
words_say (a ∷ b ∷ c ∷ d ∷ e ∷ rest) = None

abbrev pub line_says : List ℕ → Option TimeLine
line_says line = words_say (words_of line)

-- what the line with this index from 0 says; behind the last line there is nothing
abbrev pub says : List (List ℕ) → ℕ → Option TimeLine
says lines i = line_says (slice_index_or lines i [])
