use Rattle.std.proofs.Common.{◌∙◌, [], ap, arith, length, set, slice_index_or, subst, List, ℕ}
use Rattle.std.proofs.lemmas.List.{take_all}
use Rattle.std.proofs.lemmas.List.FromFn.{length-range_with_len}
use Rattle.large_documents.proofs.PlaceGrowth.{all_work, few_so_far, more_segments, nth_segment}
use Rattle.large_documents.proofs.PlaceGrowth.{place_inside, work_so_far}
use Rattle.large_documents.specs.Places.{no_sums, segments_of}
use Rattle.large_documents.specs.PlaceSteps.{ArePlaceSums, with_segment}
use Rattle.large_documents.proofs.places.add_segments.Goals as goal

pub slice_copy_out-with_segment : goal.slice_copy_out-with_segment
slice_copy_out-with_segment c =
    place_inside _ _ _ _ _ _ c.loop-segment.invariant c.loop-segment.segment c.loop-segment-test.true

pub bounds-sums-place : goal.bounds-sums-place
bounds-sums-place c =
    place_inside _ _ _ _ _ _ c.loop-segment.invariant c.loop-segment.segment c.loop-segment-test.true

pub with_segment-requires-clause-segments : goal.with_segment-requires-clause-segments
with_segment-requires-clause-segments c =
    let inside = place_inside _ _ _ _ _ _ c.loop-segment.invariant c.loop-segment.segment
    c.loop-segment-test.true in
    let few = few_so_far c.args.places.now c.args.costs.now c.args.found.now.slacks
    (segments_of c.args.places.now) [] c.loop-segment.sums c.loop-segment.segment
    (slice_index_or c.args.places.now c.loop-segment.segment 0) c.loop-segment.invariant inside in
    omega (arith, few, c.requires.known.few, c.loop-segment-test.true)

pub with_segment-requires-clause-work : goal.with_segment-requires-clause-work
with_segment-requires-clause-work c =
    let segment = c.loop-segment.segment in
    let places = c.args.places.now in
    let inside = place_inside _ _ _ _ _ _ c.loop-segment.invariant segment c.loop-segment-test.true in
    let work = work_so_far places c.args.costs.now c.args.found.now.slacks (segments_of places) []
    c.loop-segment.sums segment segment (slice_index_or places segment 0) c.loop-segment.invariant
    (nth_segment places segment c.loop-segment-test.true) inside in
    omega (
      arith,
      work,
      all_work places c.args.costs.now c.requires.known.each_cost,
      c.requires.known.little,
    )

pub loop-segment-preserved : goal.loop-segment-preserved
loop-segment-preserved c =
    let segment = c.loop-segment.segment in
    let places = c.args.places.now in
    let place = slice_index_or places segment 0 in
    let before = slice_index_or c.loop-segment.sums place no_sums in
    let cost = slice_index_or c.args.costs.now segment 0 in
    more_segments places c.args.costs.now c.args.found.now.slacks (segments_of places) []
    c.loop-segment.sums _ segment segment c.loop-segment.invariant
    (nth_segment places segment c.loop-segment-test.true)
    (place_inside _ _ _ _ _ _ c.loop-segment.invariant segment c.loop-segment-test.true)
    (ap (set c.loop-segment.sums place)
    (c.with_segment.ensures ∙ ap (with_segment before cost) c.slack.ensures))

pub returns : goal.returns
returns c =
    let places = c.args.places.now in
    let n = length places in
    let all = segments_of places in
    let whole = take_all c.loop-segment.segment all
    (omega (arith, length-range_with_len 0 n, c.loop-segment-test.false)) in
    subst (λ (l : List ℕ). ArePlaceSums places c.args.costs.now c.args.found.now.slacks l []
    c.loop-segment.sums) whole c.loop-segment.invariant
