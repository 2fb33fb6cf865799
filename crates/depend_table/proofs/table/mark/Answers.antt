use Rattle.std.proofs.Common.{ℕ, ◌-◌, List, true, get_or, set, take, sym, subst, arith}
use Rattle.std.proofs.lemmas.List.{take_more}
use Rattle.depend_table.specs.MarkedPlaces.{AreMarkedToo}
use Rattle.depend_table.proofs.MarkedPlaces.{mark_one}
use Rattle.depend_table.proofs.table.mark.Goals as goal

pub loop-place-preserved : goal.loop-place-preserved
loop-place-preserved c =
    let first = c.args.first in
    let old = c.args.marks.now in
    let marks = c.loop-place.marks in
    let places = c.args.places.now in
    let index = c.loop-place.place-index in
    let place = get_or places index 0 in
    let inside = c.requires index 0 c.loop-place-test.true in
    let from = inside.0 in
    let below = inside.1 in
    let same = c.loop-place.invariant.same_length in
    subst (λ (xs : List ℕ). AreMarkedToo first old (set marks (place - first) true) xs)
    (sym (take_more places index 0 c.loop-place-test.true))
    (mark_one first old marks (take index places) place from (omega arith) c.loop-place.invariant)
