use Rattle.std.proofs.Common.{◌≡◌, ◌+◌, ◌<◌, ◌∙◌, ap, arith, length, replicate, rules, set}
use Rattle.std.proofs.Common.{slice_index_or, subst, List, ℕ}
use Rattle.std.proofs.lemmas.List.{get_or_default, take_all}
use Rattle.std.proofs.lemmas.List.FromFn.{length-range_with_len}
use Rattle.large_documents.proofs.PlaceCounts.{below_count}
use Rattle.large_documents.proofs.PlaceGrowth.{all_work, nth_segment}
use Rattle.large_documents.proofs.PlaceTimes.{more_numbers, no_numbers, number_room}
use Rattle.large_documents.specs.Places.{segments_of}
use Rattle.large_documents.specs.PlaceSteps.{AreSums}
use Rattle.large_documents.proofs.timed_places.sum_by_place.Goals as goal

pub loop-segment-init : goal.loop-segment-init
loop-segment-init c =
    let zeros : c.in_ok-sums.sums.items ≡ replicate c.place_count.result 0 = search rules in
    no_numbers c.args.places.now c.args.numbers.now c.in_ok-sums.sums.items
    (zeros ∙ ap (λ (n : ℕ). replicate n 0) c.place_count.ensures)

pub index_mut-requires : goal.index_mut-requires
index_mut-requires c =
    let segment = c.loop-segment.segment in
    omega (
      arith,
      c.loop-segment.invariant.count,
      below_count c.args.places.now segment c.loop-segment-test.true,
    )

pub overflow_add-index_mut : goal.overflow_add-index_mut
overflow_add-index_mut c =
    let places = c.args.places.now in
    let numbers = c.args.numbers.now in
    let segment = c.loop-segment.segment in
    let inside : slice_index_or places segment 0 < length c.loop-segment.sums.items = omega (
      arith,
      c.loop-segment.invariant.count,
      below_count places segment c.loop-segment-test.true,
    ) in
    omega (
      arith,
      number_room places numbers (segments_of places) c.loop-segment.sums.items segment segment
          c.loop-segment.invariant (nth_segment places segment c.loop-segment-test.true) inside,
      all_work places numbers c.requires.each,
      c.requires.little,
      c.index_mut.ensures.value,
      get_or_default c.loop-segment.sums.items (slice_index_or places segment 0)
          c.index_mut.result.now 0 inside,
    )

pub loop-segment-preserved : goal.loop-segment-preserved
loop-segment-preserved c =
    let places = c.args.places.now in
    let numbers = c.args.numbers.now in
    let segment = c.loop-segment.segment in
    let q = slice_index_or places segment 0 in
    let sums = c.loop-segment.sums.items in
    let inside : q < length sums = omega (
      arith,
      c.loop-segment.invariant.count,
      below_count places segment c.loop-segment-test.true,
    ) in
    more_numbers places numbers (segments_of places) sums segment segment c.loop-segment.invariant
    (nth_segment places segment c.loop-segment-test.true) inside _
    (ap (λ (x : ℕ). set sums q (x + slice_index_or numbers segment 0))
    (c.index_mut.ensures.value ∙ get_or_default sums q c.index_mut.result.now 0 inside))

pub returns : goal.returns
returns c =
    let places = c.args.places.now in
    let all = segments_of places in
    let whole = take_all c.loop-segment.segment all
    (omega (arith, length-range_with_len 0 (length places), c.loop-segment-test.false)) in
    subst (λ (l : List ℕ). AreSums places c.args.numbers.now l c.loop-segment.sums.items) whole
    c.loop-segment.invariant
