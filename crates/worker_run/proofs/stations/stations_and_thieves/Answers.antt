use Rattle.std.proofs.Common.{◌≡◌, ◌<◌, ◌≤◌, ◌+◌, ◌^◌, ◌++◌, All, length, refl, ap, arith, ◌∷◌, [], length-append}
use Rattle.std.proofs.lemmas.Grind.{common_steps}
use Rattle.std.proofs.lemmas.List.Elements.{All-push}
use Rattle.std.specs.Vec.Iter.{into_iter_items}
use Rattle.worker_run.proofs.Sharing.{each_pushed_at, next_so}
use Rattle.worker_run.proofs.stations.stations_and_thieves.Goals as goal

pub loop-lane-preserved : goal.loop-lane-preserved
loop-lane-preserved g c =
    let inv = c.loop-lane.invariant in
    let whole = ap length inv.rest in
    let few : length c.loop-lane.yielded < 2 ^ 32 =
    omega (arith, whole, length-append c.loop-lane.yielded (into_iter_items c.loop-lane.lane-iterator), c.requires.few) in
    let whole_now : (c.loop-lane.yielded ++ c.in-Some.lane ∷ []) ++ into_iter_items c.next.new.self ≡ c.args.lanes.items =
    grind (arith, common_steps) in
    let enough = next_so (λ _ l. length c.args.lanes.items ≤ length l.thieves.items + 1) c.args.lanes.items
    c.loop-lane.yielded (into_iter_items c.next.new.self) c.in-Some.lane whole_now
    (λ i less d. c.requires.thieves i d less) in
    record {
      count =
          let long = c.in_ok-push-2.ensures.len in let before = inv.count in let ok = c.loop-lane.stations.ok in
          let new_ok = c.push-in-loop-lane.new.self.ok in
          omega (arith, long, before, ok, new_ok, length-append c.loop-lane.yielded (c.in-Some.lane ∷ []));
      lists =
          let long = c.in_ok-push.ensures.len in let before = inv.lists in let ok = c.loop-lane.all.ok in
          let new_ok = c.push.new.self.ok in
          omega (arith, long, before, ok, new_ok, length-append c.loop-lane.yielded (c.in-Some.lane ∷ []));
      places = rw c.in_ok-push-2.ensures.items
          (each_pushed_at (λ n s. s.number ≡ n) c.loop-lane.stations.items _ (length c.loop-lane.stations.items) refl
          inv.places (let is = c.in_ok-station.ensures.number in let long = c.len-number.ensures in
          let ok = c.loop-lane.stations.ok in omega (arith, is, long, ok, few, inv.count)));
      numbers = rw c.in_ok-push.ensures.items
          (each_pushed_at (λ n its. All (λ t. t.number ≡ n) its.items) c.loop-lane.all.items _ (length c.loop-lane.all.items)
          refl inv.numbers (λ k d less.
          let is = c.in_ok-station.ensures.numbers k d less in let long = c.len-number.ensures in
          let ok = c.loop-lane.stations.ok in
          omega (arith, is, long, ok, few, inv.count, inv.lists)));
      thieves = rw c.in_ok-push.ensures.items
          (All-push (λ its. length c.args.lanes.items ≤ length its.items + 1) c.loop-lane.all.items c.in_ok-station.thieves
          inv.thieves (let same = c.in_ok-station.ensures.count in omega (arith, enough, same)));
      rest = whole_now;
    }
