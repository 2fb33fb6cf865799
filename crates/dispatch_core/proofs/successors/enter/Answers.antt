use Rattle.std.proofs.Common.{ℕ, ◌<◌, ◌≡◌, ◌++◌, ◌∷◌, [], List, length, take, get_or, refl, sym, ap, ◌∙◌}
use Rattle.std.proofs.Common.{subst, arith, Contains}
use Rattle.std.proofs.lemmas.List.{take_all}
use Rattle.std.proofs.lemmas.List.Elements.{Contains-get_or}
use Rattle.dispatch_core.proofs.Following.{enter_next, fresh}
use Rattle.dispatch_core.proofs.successors.enter.Goals as goal

pub add-requires : goal.add-requires
add-requires c =
    let places : List ℕ = c.args.places.now in
    let index : ℕ = c.loop-place.place-index in
    let place : ℕ = get_or places index 0 in
    let within : index < length places = c.loop-place-test.true in
    let has : Contains places place = Contains-get_or places index 0 within in
    let so_far = c.loop-place.invariant in
    let rooms = ap (λ (l : List ℕ). get_or l place 0) so_far.rooms in
    record {
      inside = omega (arith, c.requires.inside place has, so_far.each);
      room = omega (
        arith,
        c.requires.room place has,
        rooms,
        ap (λ (l : List ℕ). length l) (so_far.others place (fresh places index c.requires.once within)),
      );
      few = omega (arith, c.requires.few place, rooms);
    }

pub loop-place-init : goal.loop-place-init
loop-place-init c = record {
  rooms = refl;
  each = refl;
  entered = λ r has. let within = has.1 in absurd (omega (arith, within));
  others = λ r none. refl;
}

pub loop-place-preserved : goal.loop-place-preserved
loop-place-preserved c =
    let places : List ℕ = c.args.places.now in
    let index : ℕ = c.loop-place.place-index in
    let within : index < length places = c.loop-place-test.true in
    enter_next places index c.args.number c.args.lists.now c.loop-place.lists c.add.new.self
    c.requires.once within
    (c.requires.inside (get_or places index 0) (Contains-get_or places index 0 within))
    c.add.ensures c.loop-place.invariant

pub returns : goal.returns
returns c =
    let places : List ℕ = c.args.places.now in
    let whole : take c.loop-place.place-index places ≡ places =
    take_all c.loop-place.place-index places (omega (arith, c.loop-place-test.false)) in
    let done = c.loop-place.invariant in
    record {
      rooms = done.rooms;
      each = done.each;
      entered = λ r has.
          done.entered r (subst (λ (l : List ℕ). Contains l r) (sym whole) has);
      others = λ r none.
          done.others r (λ h. none (subst (λ (l : List ℕ). Contains l r) whole h));
    }
