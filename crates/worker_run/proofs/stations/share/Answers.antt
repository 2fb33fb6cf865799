use Rattle.std.proofs.Common.{ℕ, ◌≡◌, ◌<◌, ◌++◌, ◌∷◌, [], map, get_or, length, sym, ap, subst, arith}
use Rattle.std.proofs.Common.{length-append}
use Rattle.std.proofs.lemmas.Grind.{common_steps}
use Rattle.std.proofs.lemmas.List.{length_push}
use Rattle.std.proofs.lemmas.List.Elements.{All-push}
use Rattle.std.specs.Vec.Iter.{into_iter_items}
use Rattle.depend_table.specs.Lists.{Lists}
use Rattle.worker_run.specs.Sharing.{IsOtherLane}
use Rattle.worker_run.proofs.Sharing.{IsEnough, at_first_enough, each_long, each_pushed_at, next_so, one_is_left}
use Rattle.worker_run.proofs.Sharing.{still_enough}
use Rattle.worker_run.proofs.stations.share.Goals as goal

pub loop-station-init : goal.loop-station-init
loop-station-init g c =
    let none = ap length c.in_ok-all.ensures.items in record {
      lanes = c.requires.lanes;
      numbers = c.requires.numbers;
      enough = λ lane within. at_first_enough _ lane _
          (each_long (λ its. length its.items) _ c.args.thieves.now c.requires.thieves lane
          (omega (arith, within, c.requires.lanes)));
      count = none;
      places = λ place less d. absurd (omega (arith, less, none));
      others = λ k d less. absurd (omega (arith, less, none));
      rest = grind (arith, common_steps);
    }

pub others_of-requires-clause-some : goal.others_of-requires-clause-some
others_of-requires-clause-some g c = λ lane other.
    let inv = c.loop-station.invariant in
    let seen = c.loop-station.yielded in
    let rest = into_iter_items c.next.new.self in
    let whole : (seen ++ c.in-Some.station ∷ []) ++ rest ≡ c.args.stations.items = grind (arith, common_steps) in
    let place : c.in-Some.station.number ≡ length seen =
    next_so (λ n s. s.number ≡ n) c.args.stations.items seen rest c.in-Some.station whole c.requires.places in
    let less : length seen < length c.args.stations.items =
    let long = ap length whole in
    omega (arith, long, length-append (seen ++ c.in-Some.station ∷ []) rest, length_push seen c.in-Some.station) in
    let within = other.0 in
    one_is_left (length c.args.stations.items) (length seen) (length c.loop-station.thieves) c.in-Some.station.number
    lane _ inv.lanes place less other (inv.enough lane (omega (arith, within, inv.lanes)))

pub loop-station-preserved : goal.loop-station-preserved
loop-station-preserved g c =
    let inv = c.loop-station.invariant in
    let seen = c.loop-station.yielded in
    let rest = into_iter_items c.next.new.self in
    let workers = length c.args.stations.items in
    let whole : (seen ++ c.in-Some.station ∷ []) ++ rest ≡ c.args.stations.items = grind (arith, common_steps) in
    let place : c.in-Some.station.number ≡ length seen =
    next_so (λ n s. s.number ≡ n) c.args.stations.items seen rest c.in-Some.station whole c.requires.places in
    record {
      lanes = omega (arith, c.others_of.auto.thieves, inv.lanes);
      numbers = c.others_of.ensures.numbers;
      enough = λ lane within.
          subst (λ (n : ℕ). IsEnough workers n lane (get_or (map (λ its. length its.items) c.others_of.new.thieves) lane 0))
          (sym (length_push seen c.in-Some.station))
          (still_enough workers (length seen) (length c.loop-station.thieves) c.in-Some.station.number lane _ _
          inv.lanes place within (c.in_ok-station.ensures.gave lane) (inv.enough lane within));
      count =
          let long = c.in_ok-push.ensures.len in let before = inv.count in let ok = c.loop-station.all.ok in
          let new_ok = c.push.new.self.ok in
          omega (arith, long, before, ok, new_ok, length-append seen (c.in-Some.station ∷ []));
      places = rw c.in_ok-push.ensures.items
          (each_pushed_at (λ n s. s.number ≡ n) c.loop-station.all.items _ (length seen) inv.count inv.places place);
      others = rw c.in_ok-push.ensures.items
          (All-push (λ s. Lists (IsOtherLane workers s.number) (map (λ t. t.number) s.others.items))
          c.loop-station.all.items _ inv.others
          (subst (λ (n : ℕ). Lists (IsOtherLane n c.in-Some.station.number)
          (map (λ t. t.number) c.in_ok-station.field-0.items)) inv.lanes c.in_ok-station.ensures.others));
      rest = whole;
    }
