-- Sums of numbers of each place.
use Rattle.std.proofs.Common.{◌≡◌, ◌+◌, ◌-◌, ◌^◌, ◌<◌, ◌≤◌, ◌∙◌, ◌++◌, ℕ, List, [], ap, arith, length, sym, refl}
use Rattle.std.proofs.Common.{Option, inl, inr, replicate, set, subst, sum, sum_by, take}
use Rattle.std.specs.List.{range_with_len}
use Rattle.std.proofs.lemmas.Bool.{cases_eq}
use Rattle.std.proofs.lemmas.List.{get_or-replicate, get_or-set_other, length-replicate, length-set}
use Rattle.std.proofs.lemmas.List.FromFn.{length-map-range_with_len}
use Rattle.std.proofs.lemmas.List.Sums.{sum_by-cons, sum_by_push}
use Rattle.std.proofs.lemmas.Grind.{get_or-set_at}
use Rattle.csv_table.specs.Row.{line_of}
use Rattle.csv_table.specs.Tables.{numbered_table}
use Rattle.program_text.specs.Document.{program_part, rest_part}
use Rattle.spanprof_command.specs.Report.{Report}
use Rattle.task_segments.specs.Table.{Table}
use Rattle.large_documents.specs.PlaceReports.{TakesPlaces, TellsOfPlaces}
use Rattle.dispatch_core.specs.RecordedGraph.{IsGraph, Precedes, RecordedGraph}
use Rattle.task_segments.specs.Schedule.{at}
use Rattle.time_accounts.proofs.AllShares.{busy_sum, shares_sum}
use Rattle.time_accounts.proofs.Measured.{product-le}
use Rattle.time_accounts.specs.Faults.{IsRanged}
use Rattle.time_accounts.specs.Shares.{shares_of}
use Rattle.time_accounts.proofs.CountedShares.{delayed_sum, starved_sum}
use Rattle.time_accounts.proofs.TimedRuns.{each_duration}
use Rattle.time_accounts.specs.BySegment.{delayed_by_segment, starved_by_segment}
use Rattle.time_accounts.specs.TimedRun.{IsTimedRun, TimedRun, durations}
use Rattle.large_documents.specs.Places.{ArePlaces, is_at, members, place_count, segments_of, sums_at}
use Rattle.large_documents.proofs.PlaceParts.{IsSumOf, inside_range, parts}
use Rattle.large_documents.proofs.PlaceRows.{same_rows}
use Rattle.large_documents.specs.PlaceLaws.{TimesAddUp}
use Rattle.large_documents.specs.PlaceSteps.{ArePlaceSums, AreSums}
use Rattle.large_documents.specs.TimedPlaces.{before_times, sum_at, timed_header, timed_line, timed_row_of}
use Rattle.large_documents.specs.declared.places.PlaceSums.{PlaceSums}
use Rattle.large_documents.proofs.PlaceGrowth.{IsNth, all_work, of_other, of_place, room}

-- ---- one segment more

pub no_numbers : (places numbers sums : List ℕ) → sums ≡ replicate (place_count places) 0
    → AreSums places numbers [] sums
no_numbers places numbers sums is =
    let n = place_count places in
    let count : length sums ≡ n = ap length is ∙ length-replicate n 0 in
    record {
      count = count;
      each = λ p below. ap (λ (l : List ℕ). at l p) is
          ∙ get_or-replicate n p 0 0 (omega (arith, below, count));
    }

module _ (places numbers segments sums : List ℕ) (i s : ℕ)
    (so_far : AreSums places numbers (take i segments) sums) (nth : IsNth segments i s)
    (inside : at places s < length sums) where
  abbrev q : ℕ
  q = at places s

  pub number_here : at sums q ≡ sum_by (at numbers) (members places q (take i segments))
  number_here = so_far.each q inside

  pub more_numbers : (after : List ℕ) → after ≡ set sums q (at sums q + at numbers s)
      → AreSums places numbers (take (i + 1) segments) after
  more_numbers after is =
      let v = at sums q + at numbers s in
      let same : length after ≡ length sums = ap length is ∙ length-set sums q v in
      record {
        count = same ∙ so_far.count;
        each = λ p below. ap (λ (l : List ℕ). at l p) is ∙ elim (cases_eq p q) [
          | inl e ↦
              get_or-set_at sums q p v 0 e inside
              ∙ ap (λ (x : ℕ). x + at numbers s) number_here
              ∙ sym (sum_by_push (at numbers) (members places q (take i segments)) s)
              ∙ ap (sum_by (at numbers)) (sym (of_place places segments i s nth))
              ∙ ap (λ (k : ℕ). sum_by (at numbers) (members places k (take (i + 1) segments)))
              (sym e)
          | inr e ↦
              get_or-set_other sums q p v 0 e
              ∙ so_far.each p (omega (arith, below, same))
              ∙ ap (sum_by (at numbers)) (sym (of_other places p segments i s nth e))
        ];
      }

  pub number_room : at sums q + at numbers s ≤ sum_by (at numbers) segments
  number_room =
      omega (arith, number_here, room (at numbers) (is_at places q) segments i s nth)

-- ---- rows

pub table_of_times : (places costs slacks path busy delayed starved : List ℕ)
    (sums : List PlaceSums) (busies delays starvings : List ℕ)
    → ArePlaceSums places costs slacks (segments_of places) path sums
    → AreSums places busy (segments_of places) busies
    → AreSums places delayed (segments_of places) delays
    → AreSums places starved (segments_of places) starvings
    → numbered_table timed_header (timed_line sums busies delays starvings) 0 (length sums)
    ≡ numbered_table timed_header (λ p.
    timed_row_of (sums_at places costs slacks path p) (sum_at places busy p)
    (sum_at places delayed p) (sum_at places starved p) p) 0 (place_count places)
table_of_times places costs slacks path busy delayed starved sums busies delays starvings are b d s =
    let row : ℕ → List (Option ℕ) = λ p.
    timed_row_of (sums_at places costs slacks path p) (sum_at places busy p)
    (sum_at places delayed p) (sum_at places starved p) p in
    ap (λ (rows : List ℕ). line_of (λ name. name) timed_header ++ rows)
    (same_rows (timed_line sums busies delays starvings) row 0 (length sums) (λ p below.
    let inside : p < length sums = omega (arith, below) in
    ap (λ (x : PlaceSums). timed_row_of x (at busies p) (at delays p) (at starvings p) p)
    (are.each p inside)
    ∙ ap (λ (x : ℕ). timed_row_of (sums_at places costs slacks path p) x (at delays p)
    (at starvings p) p) (b.each p (omega (arith, inside, are.count, b.count)))
    ∙ ap (λ (x : ℕ). timed_row_of (sums_at places costs slacks path p) (sum_at places busy p) x
    (at starvings p) p) (d.each p (omega (arith, inside, are.count, d.count)))
    ∙ ap (λ (x : ℕ). timed_row_of (sums_at places costs slacks path p) (sum_at places busy p)
    (sum_at places delayed p) x p) (s.each p (omega (arith, inside, are.count, s.count)))))
    ∙ ap (λ (n : ℕ). numbered_table timed_header row 0 n) are.count

-- ---- all places

-- the sums of all places are the sum of the numbers
whole_sum : (places numbers : List ℕ) → length numbers ≡ length places
    → sum_by (sum_at places numbers) (range_with_len 0 (place_count places)) ≡ sum numbers
whole_sum places numbers each =
    let sums : IsSumOf (sum_by (at numbers)) (at numbers) =
    record { none = refl; more = λ s xs. sum_by-cons (at numbers) s xs } in
    parts (sum_by (at numbers)) (at numbers) places (place_count places) (segments_of places) sums
    (inside_range places)
    ∙ all_work places numbers each

pub times_add_up : (graph : RecordedGraph) (p first last : ℕ) (run : TimedRun) (places : List ℕ)
    → IsGraph graph
    → IsTimedRun (length graph.costs) (Precedes graph) p first last run
    → length places ≡ length graph.costs
    → TimesAddUp graph p first last run places
times_add_up graph p first last run places is timed each =
    let n = length graph.costs in
    let of_all : length run.begins ≡ length places = timed.each_begin ∙ sym each in
    record {
      busy = whole_sum places (durations run) (each_duration timed ∙ sym each)
          ∙ sym (busy_sum graph timed);
      delayed = whole_sum places (delayed_by_segment graph p first last run)
          (length-map-range_with_len _ 0 (length run.begins) ∙ of_all)
          ∙ sym (delayed_sum graph n p first last run is.each timed);
      starved = whole_sum places (starved_by_segment graph p first last run)
          (length-map-range_with_len _ 0 (length run.begins) ∙ of_all)
          ∙ sym (starved_sum graph n p first last run (record { up = is.smaller }) is.each timed);
    }

-- ---- room

pub share_room : (graph : RecordedGraph) (n p first last : ℕ) (run : TimedRun)
    → IsTimedRun n (Precedes graph) p first last run
    → IsRanged n p first last run
    → (shares_of graph p first last run).busy + (shares_of graph p first last run).delayed
    + (shares_of graph p first last run).starved < 2 ^ 64
share_room graph n p first last run timed within =
    omega (
      arith,
      shares_sum graph timed,
      product-le p (last - first) within.counted.threads.few
          (omega (arith, within.counted.moments.soon)),
    )

module _ (graph : RecordedGraph) (p first last : ℕ) (run : TimedRun) (is : IsGraph graph)
    (timed : IsTimedRun (length graph.costs) (Precedes graph) p first last run)
    (within : IsRanged (length graph.costs) p first last run) (given : List ℕ) where
  pub delayed_fits : given ≡ delayed_by_segment graph p first last run → sum given < 2 ^ 64
  delayed_fits are =
      omega (
        arith,
        ap sum are,
        delayed_sum graph (length graph.costs) p first last run is.each timed,
        share_room graph (length graph.costs) p first last run timed within,
      )

  pub starved_fits : given ≡ starved_by_segment graph p first last run → sum given < 2 ^ 64
  starved_fits are =
      omega (
        arith,
        ap sum are,
        starved_sum graph (length graph.costs) p first last run (record { up = is.smaller })
            is.each timed,
        share_room graph (length graph.costs) p first last run timed within,
      )

-- ---- the parts of the text

-- the report on the parts of a text is that on the text
pub takes_places : (program rest given : List ℕ) (times : Option (List ℕ)) (before : ℕ) (table : Table)
    (places : List ℕ) (output : Report)
    → given ≡ program_part rest
    → times ≡ rest_part rest
    → before ≡ before_times program rest
    → ArePlaces (length table.segments) given places
    → TellsOfPlaces before table places times output
    → TakesPlaces program rest table output
takes_places program rest given times before table places output is_given is_times is_before are says =
    record {
      places = places;
      are_places = subst (λ (text : List ℕ). ArePlaces (length table.segments) text places) is_given
          are;
      says = subst (λ (n : ℕ). TellsOfPlaces n table places (rest_part rest) output) is_before
          (subst (λ (t : Option (List ℕ)). TellsOfPlaces before table places t output) is_times says);
    }
