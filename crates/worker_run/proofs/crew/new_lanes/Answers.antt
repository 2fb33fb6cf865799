use Rattle.std.proofs.Common.{◌≡◌, ◌+◌, length, arith}
use Rattle.std.proofs.lemmas.List.Elements.{All-push}
use Rattle.worker_run.proofs.crew.new_lanes.Goals as goal

pub loop-preserved : goal.loop-preserved
loop-preserved c =
    let items = c.in_ok-push.ensures.items in
    let before = c.loop.lanes.items in
    let made = c.in_ok-new_lane.field-0 in
    let count = c.loop.invariant.count in
    let capacity = c.in_ok-new_lane.ensures.capacity in
    let thieves = c.in_ok-new_lane.ensures.thieves in
    let some = c.loop-test.true in
    record {
      count =
          let long = c.in_ok-push.ensures.len in let ok = c.loop.lanes.ok in
          let new_ok = c.push.new.self.ok in omega (arith, long, count, ok, new_ok);
      room = rw items
          (All-push (λ l. l.capacity ≡ length c.args.table.now.segments) before made c.loop.invariant.room
          (omega (arith, capacity, c.len.ensures)));
      thieves = rw items
          (All-push (λ l. length l.thieves.items + 1 ≡ c.args.workers) before made c.loop.invariant.thieves
          (omega (arith, thieves, some)));
    }
