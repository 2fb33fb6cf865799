use Rattle.std.proofs.Common.{ap, arith, length, set, slice_index_or, subst, List, ℕ}
use Rattle.std.proofs.lemmas.List.{take_all}
use Rattle.large_documents.proofs.PlaceGrowth.{few_on_path, member_inside, more_path, nth_member}
use Rattle.large_documents.proofs.PlaceGrowth.{path_so_far, place_inside}
use Rattle.large_documents.specs.Places.{segments_of}
use Rattle.large_documents.specs.PlaceSteps.{ArePlaceSums}
use Rattle.large_documents.proofs.places.add_path.Goals as goal

pub bounds-places-segment : goal.bounds-places-segment
bounds-places-segment c =
    member_inside c.args.places.now c.args.costs.now c.chain-member-items.result.now
    c.args.found.now.chain c.loop-member.member-index c.chain-member-items.ensures c.requires.path
    c.loop-member-test.true

pub slice_copy_out-with_member : goal.slice_copy_out-with_member
slice_copy_out-with_member c =
    let inside = member_inside c.args.places.now c.args.costs.now c.chain-member-items.result.now
    c.args.found.now.chain c.loop-member.member-index c.chain-member-items.ensures c.requires.path
    c.loop-member-test.true in
    place_inside _ _ _ _ _ _ c.loop-member.invariant
    (slice_index_or c.chain-member-items.result.now c.loop-member.member-index 0) inside

pub bounds-costs-segment : goal.bounds-costs-segment
bounds-costs-segment c =
    let inside = member_inside c.args.places.now c.args.costs.now c.chain-member-items.result.now
    c.args.found.now.chain c.loop-member.member-index c.chain-member-items.ensures c.requires.path
    c.loop-member-test.true in
    omega (arith, inside, c.requires.known.each_cost)

pub bounds-sums-place : goal.bounds-sums-place
bounds-sums-place c =
    let inside = member_inside c.args.places.now c.args.costs.now c.chain-member-items.result.now
    c.args.found.now.chain c.loop-member.member-index c.chain-member-items.ensures c.requires.path
    c.loop-member-test.true in
    place_inside _ _ _ _ _ _ c.loop-member.invariant
    (slice_index_or c.chain-member-items.result.now c.loop-member.member-index 0) inside

pub with_member-requires-clause-members : goal.with_member-requires-clause-members
with_member-requires-clause-members c =
    let items = c.chain-member-items.result.now in
    let places = c.args.places.now in
    let path = c.args.found.now.chain in
    let i = c.loop-member.member-index in
    let s = slice_index_or items i 0 in
    let inside = member_inside places c.args.costs.now items path i c.chain-member-items.ensures
    c.requires.path c.loop-member-test.true in
    let few = few_on_path places c.args.costs.now c.args.found.now.slacks (segments_of places) path
    c.loop-member.sums i (slice_index_or places s 0) c.loop-member.invariant
    (place_inside _ _ _ _ _ _ c.loop-member.invariant s inside) in
    omega (arith, few, c.loop-member-test.true, c.chain-member-items.type_inv)

pub with_member-requires-clause-path : goal.with_member-requires-clause-path
with_member-requires-clause-path c =
    let items = c.chain-member-items.result.now in
    let places = c.args.places.now in
    let path = c.args.found.now.chain in
    let i = c.loop-member.member-index in
    let s = slice_index_or items i 0 in
    let inside = member_inside places c.args.costs.now items path i c.chain-member-items.ensures
    c.requires.path c.loop-member-test.true in
    let room = path_so_far places c.args.costs.now c.args.found.now.slacks (segments_of places) path
    c.loop-member.sums i s (slice_index_or places s 0) c.loop-member.invariant
    (nth_member items path i c.chain-member-items.ensures c.loop-member-test.true)
    (place_inside _ _ _ _ _ _ c.loop-member.invariant s inside) in
    omega (arith, room, c.requires.path.little)

pub loop-member-preserved : goal.loop-member-preserved
loop-member-preserved c =
    let items = c.chain-member-items.result.now in
    let places = c.args.places.now in
    let path = c.args.found.now.chain in
    let i = c.loop-member.member-index in
    let s = slice_index_or items i 0 in
    let inside = member_inside places c.args.costs.now items path i c.chain-member-items.ensures
    c.requires.path c.loop-member-test.true in
    more_path places c.args.costs.now c.args.found.now.slacks (segments_of places) path
    c.loop-member.sums _ i s c.loop-member.invariant
    (nth_member items path i c.chain-member-items.ensures c.loop-member-test.true)
    (place_inside _ _ _ _ _ _ c.loop-member.invariant s inside)
    (ap (set c.loop-member.sums (slice_index_or places s 0)) c.with_member.ensures)

pub returns : goal.returns
returns c =
    let places = c.args.places.now in
    let path = c.args.found.now.chain in
    let whole = take_all c.loop-member.member-index path
    (omega (arith, ap length c.chain-member-items.ensures, c.loop-member-test.false)) in
    subst (λ (l : List ℕ). ArePlaceSums places c.args.costs.now c.args.found.now.slacks
    (segments_of places) l c.loop-member.sums) whole c.loop-member.invariant
