use Rattle.std.proofs.Common.{ℕ, ◌+◌, ◌<◌, ◌≡◌, List, length, take, get_or, sym, ap, ◌∙◌, arith}
use Rattle.std.proofs.lemmas.List.{length-set, take_all}
use Rattle.std.proofs.lemmas.List.Elements.{Contains-get_or}
use Rattle.open_segments.proofs.Ascending.{times_none}
use Rattle.dispatch_core.specs.Successors.{times}
use Rattle.dispatch_core.proofs.Following.{count_next, fresh}
use Rattle.dispatch_core.proofs.successors.count_each.Goals as goal

pub bounds-counts-place : goal.bounds-counts-place
bounds-counts-place c = omega (
  arith,
  c.loop-place.invariant.each,
  c.requires.inside (get_or c.args.places.now c.loop-place.place-index 0)
      (Contains-get_or c.args.places.now c.loop-place.place-index 0 c.loop-place-test.true),
)

pub overflow_add-counts : goal.overflow_add-counts
overflow_add-counts c =
    let places : List ℕ = c.args.places.now in
    let index : ℕ = c.loop-place.place-index in
    let place : ℕ = get_or places index 0 in
    let within : index < length places = c.loop-place-test.true in
    record {
      fits = omega (
        arith,
        c.loop-place.invariant.counted place
            (c.requires.inside place (Contains-get_or places index 0 within)),
        times_none place (take index places) (fresh places index c.requires.once within),
        c.requires.few place,
      );
    }

pub bounds-counts-place-in-loop-place : goal.bounds-counts-place-in-loop-place
bounds-counts-place-in-loop-place c = omega (
  arith,
  c.loop-place.invariant.each,
  c.requires.inside (get_or c.args.places.now c.loop-place.place-index 0)
      (Contains-get_or c.args.places.now c.loop-place.place-index 0 c.loop-place-test.true),
)

pub loop-place-preserved : goal.loop-place-preserved
loop-place-preserved c =
    let places : List ℕ = c.args.places.now in
    let index : ℕ = c.loop-place.place-index in
    let now : List ℕ = c.loop-place.counts in
    let within : index < length places = c.loop-place-test.true in
    record {
      each = length-set now (get_or places index 0) (get_or now (get_or places index 0) 0 + 1)
          ∙ c.loop-place.invariant.each;
      counted = count_next places c.args.counts.now now index within c.loop-place.invariant.each
          (c.requires.inside (get_or places index 0) (Contains-get_or places index 0 within))
          c.loop-place.invariant.counted;
    }

pub returns-clause-counted : goal.returns-clause-counted
returns-clause-counted c r known =
    c.loop-place.invariant.counted r known
    ∙ ap (λ (l : List ℕ). get_or c.args.counts.now r 0 + times r l)
    (take_all c.loop-place.place-index c.args.places.now (omega (arith, c.loop-place-test.false)))
