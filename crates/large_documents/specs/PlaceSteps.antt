-- Carried out: how the places are read, and how the sums of each grow.
use Rattle.std.specs.Prelude.{ℕ, ◌+◌, ◌++◌, ◌<◌, ◌≤◌, ◌^◌, ◌≡◌, ⊤, Contains, List, [], ◌∷◌, length, Option}
use Rattle.std.specs.Prelude.{None, slice_index_or, sum, sum_by, ◌-◌}
use Rattle.std.specs.Option.{option_map}
use Rattle.program_text.specs.PlainWords.{number_in_word}
use Rattle.program_text.specs.declared.limits.TheConstants.{MOST_WORK}
use Rattle.dispatch_core.specs.RecordedGraph.{RecordedGraph}
use Rattle.span_analysis.specs.Findings.{Findings, IsAnalysis}
use Rattle.task_segments.specs.Schedule.{at}
use Rattle.large_documents.specs.Places.{least_with, members, no_sums, place_count, segments_of, sums_among}
use Rattle.large_documents.specs.declared.places.PlaceSums.{PlaceSums}
use Rattle.large_documents.specs.declared.places.PlacesFault.{PlacesFault}
use Rattle.large_documents.specs.declared.places.PlacesFault.TheVariants.{BadForm, Count}
use Rattle.large_documents.specs.declared.places.PlacesFault.TheVariants.{OutOfMemory}

-- the places so far, and that of one word more
abbrev pub next_places : ℕ → List ℕ → List ℕ → Option (List ℕ)
next_places n places word =
    option_map (λ (p : ℕ). places ++ p ∷ []) (number_in_word (n - 1) word)

abbrev pub IsWordFault : ℕ → List ℕ → List ℕ → PlacesFault → Type 0
IsWordFault n places word BadForm = next_places n places word ≡ None
IsWordFault n places word Count = ⊥
IsWordFault n places word OutOfMemory = ⊤

-- the sums of each place, of some segments and of a part of a path
pub record ArePlaceSums (places costs slacks segments path : List ℕ) (sums : List PlaceSums) : Type
    0 where
  pub count : length sums ≡ place_count places
  pub each : (p : ℕ) → p < length sums
      → slice_index_or sums p no_sums ≡ sums_among places costs slacks segments path p

-- the sums of each place, by an analysis of the graph
pub record AreAnalysedSums (graph : RecordedGraph) (places : List ℕ) (sums : List PlaceSums) : Type
    0 where
  pub found : Findings
  pub is_analysis : IsAnalysis graph found
  pub are : ArePlaceSums places graph.costs found.slacks (segments_of places) found.chain sums

-- of numbers of each segment the sums of each place, of some segments
pub record AreSums (places numbers segments sums : List ℕ) : Type 0 where
  pub count : length sums ≡ place_count places
  pub each : (p : ℕ) → p < length sums
      → at sums p ≡ sum_by (at numbers) (members places p segments)

-- each segment has a cost and a slack, and their sums have room
pub record CanCount (places costs slacks : List ℕ) : Type 0 where
  pub each_cost : length costs ≡ length places
  pub each_slack : length slacks ≡ length places
  pub few : length places < 2 ^ 32
  pub little : sum costs ≤ MOST_WORK

-- each member of a path has a place, and the sum of their costs has room
pub record IsPathWithin (places costs path : List ℕ) : Type 0 where
  pub inside : (s : ℕ) → Contains path s → s < length places
  pub little : sum_by (at costs) path ≤ MOST_WORK

abbrev pub with_segment : PlaceSums → (cost slack : ℕ) → PlaceSums
with_segment sums cost slack = record {
  segments = sums.segments + 1;
  work = sums.work + cost;
  on_path = sums.on_path;
  path = sums.path;
  slack = least_with slack sums.slack;
}

abbrev pub with_member : PlaceSums → (cost : ℕ) → PlaceSums
with_member sums cost = record {
  segments = sums.segments;
  work = sums.work;
  on_path = sums.on_path + 1;
  path = sums.path + cost;
  slack = sums.slack;
}
