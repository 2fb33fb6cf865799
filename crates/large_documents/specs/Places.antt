-- The places of a program's segments, and the row of each.
use Rattle.std.specs.Prelude.{ℕ, ◌+◌, ◌-◌, ◌≡◌, ◌≢◌, ◌==◌, ⊤, Bool, List, [], ◌∷◌, length, Option}
use Rattle.std.specs.Prelude.{Some, None, codes, filter, map, max, min, slice_index_or, sum_by}
use Rattle.std.specs.List.{range_with_len}
use Rattle.program_text.specs.PlainWords.{number_in_word, said_by, words_of}
use Rattle.task_segments.specs.Schedule.{at}
use Rattle.large_documents.specs.declared.places.PlaceSums.{PlaceSums}
use Rattle.large_documents.specs.declared.places.PlacesFault.{PlacesFault}
use Rattle.large_documents.specs.declared.places.PlacesFault.TheVariants.{BadForm, Count}
use Rattle.large_documents.specs.declared.places.PlacesFault.TheVariants.{OutOfMemory}

-- ---- how they are given

-- the places that the words of a text give to n segments, if each word is a number below n
abbrev pub places_in : ℕ → List ℕ → Option (List ℕ)
places_in n text = said_by (number_in_word (n - 1)) (words_of text)

-- a place for each of n segments
pub record ArePlaces (n : ℕ) (text places : List ℕ) : Type 0 where
  pub told : places_in n text ≡ Some places
  pub each : length places ≡ n

-- there are numbers, and not as many as segments
pub record IsOtherCount (n : ℕ) (text : List ℕ) : Type 0 where
  pub places : List ℕ
  pub told : places_in n text ≡ Some places
  pub other : length places ≢ n

-- what a fault says. Out of memory says nothing of the text
abbrev pub IsPlacesFault : ℕ → List ℕ → PlacesFault → Type 0
IsPlacesFault n text BadForm = places_in n text ≡ None
IsPlacesFault n text Count = IsOtherCount n text
IsPlacesFault n text OutOfMemory = ⊤

-- ---- the segments of a place

abbrev pub is_at : List ℕ → ℕ → ℕ → Bool
is_at places p s = at places s == p

-- those of some segments that stand at a place
abbrev pub members : List ℕ → ℕ → List ℕ → List ℕ
members places p segments = filter (is_at places p) segments

-- all segments
abbrev pub segments_of : List ℕ → List ℕ
segments_of places = range_with_len 0 (length places)

abbrev pub segments_at : List ℕ → ℕ → List ℕ
segments_at places p = members places p (segments_of places)

-- one more than the largest place
abbrev pub place_count : List ℕ → ℕ
place_count [] = 0
place_count (p ∷ places) = max (p + 1) (place_count places)

-- ---- the row of a place

abbrev pub least_with : ℕ → Option ℕ → Option ℕ
least_with x None = Some x
least_with x (Some y) = Some (min x y)

-- the least of some numbers, if there are any
abbrev pub least_of : List ℕ → Option ℕ
least_of [] = None
least_of (x ∷ xs) = least_with x (least_of xs)

-- How many segments there are, the sum of their costs, the same of those on a path, and the least of
-- the slacks.
abbrev pub sums_of : (costs slacks segments path : List ℕ) → PlaceSums
sums_of costs slacks segments path = record {
  segments = length segments;
  work = sum_by (at costs) segments;
  on_path = length path;
  path = sum_by (at costs) path;
  slack = least_of (map (at slacks) segments);
}

-- of some segments and of a part of a path those that stand at a place
abbrev pub sums_among : (places costs slacks segments path : List ℕ) → ℕ → PlaceSums
sums_among places costs slacks segments path p =
    sums_of costs slacks (members places p segments) (members places p path)

-- of all segments and the whole path
abbrev pub sums_at : (places costs slacks path : List ℕ) → ℕ → PlaceSums
sums_at places costs slacks path p =
    sums_among places costs slacks (segments_of places) path p

-- ---- the table

abbrev pub no_sums : PlaceSums
no_sums = record { segments = 0; work = 0; on_path = 0; path = 0; slack = None }

abbrev pub places_header : List (List ℕ)
places_header =
    codes "place" ∷ codes "segments" ∷ codes "work" ∷ codes "on_path" ∷ codes "path" ∷ codes "slack" ∷ []

-- a place, and its numbers
abbrev pub row_of : PlaceSums → ℕ → List (Option ℕ)
row_of sums p =
    Some p ∷ Some sums.segments ∷ Some sums.work ∷ Some sums.on_path ∷ Some sums.path ∷ sums.slack
    ∷ []

abbrev pub place_row : List PlaceSums → ℕ → List (Option ℕ)
place_row sums p = row_of (slice_index_or sums p no_sums) p
