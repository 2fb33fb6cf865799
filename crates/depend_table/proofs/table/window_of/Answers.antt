use Rattle.std.proofs.Common.{ℕ, ◌≤◌, List, Bor, get_or, take, All, subst, sym}
use Rattle.std.proofs.Common.{take_all, arith}
use Rattle.std.proofs.lemmas.List.{take_more}
use Rattle.std.proofs.lemmas.List.Elements.{All-push, All-weaker}
use Rattle.depend_table.specs.MarkedPlaces.{AreWithin}
use Rattle.depend_table.proofs.Gathered.{no_places}
use Rattle.depend_table.proofs.MarkedPlaces.{within_wider}
use Rattle.depend_table.proofs.table.window_of.Goals as goal

pub with_places-window-requires-clause-ascending : goal.with_places-window-requires-clause-ascending
with_places-window-requires-clause-ascending c =
    c.requires.ascending c.loop-places.places-index no_places c.loop-places-test.true

pub with_places-window-requires-clause-few : goal.with_places-window-requires-clause-few
with_places-window-requires-clause-few c k d h =
    let below = c.requires.below c.loop-places.places-index no_places c.loop-places-test.true k d h in
    omega (arith, c.ranges.end)

pub loop-places-preserved : goal.loop-places-preserved
loop-places-preserved c =
    let lists = c.args.lists.now in
    let index = c.loop-places.places-index in
    let places = get_or lists index no_places in
    let old = c.loop-places.window in
    let new = c.with_places-window.result in
    let earlier = All-weaker
    (λ (one : Bor (List ℕ)). AreWithin old.first old.end one.now)
    (λ (one : Bor (List ℕ)). AreWithin new.first new.end one.now)
    (λ one inside. within_wider old.first old.end new.first new.end one.now
    c.with_places-window.ensures.wider.0 c.with_places-window.ensures.wider.1 inside)
    (take index lists) c.loop-places.invariant.all in
    record {
      within = c.with_places-window.ensures.within c.args.end c.loop-places.invariant.within
          (c.requires.below index no_places c.loop-places-test.true);
      all = subst
          (λ (xs : List (Bor (List ℕ))). All (λ one. AreWithin new.first new.end one.now) xs)
          (sym (take_more lists index no_places c.loop-places-test.true))
          (All-push (λ (one : Bor (List ℕ)). AreWithin new.first new.end one.now)
          (take index lists) places earlier c.with_places-window.ensures.all);
    }

pub returns-clause-all : goal.returns-clause-all
returns-clause-all c =
    let lists = c.args.lists.now in
    let window = c.loop-places.window in
    let lower : c.min.result ≤ window.first = omega (arith, c.min.ensures) in
    All-weaker
    (λ (one : Bor (List ℕ)). AreWithin window.first window.end one.now)
    (λ (one : Bor (List ℕ)). AreWithin c.min.result window.end one.now)
    (λ one inside. within_wider window.first window.end c.min.result window.end one.now lower
    (omega arith) inside)
    lists
    (subst
    (λ (xs : List (Bor (List ℕ))). All (λ one. AreWithin window.first window.end one.now) xs)
    (take_all c.loop-places.places-index lists c.loop-places-test.false) c.loop-places.invariant.all)
