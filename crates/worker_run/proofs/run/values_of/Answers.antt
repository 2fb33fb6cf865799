use Rattle.std.proofs.Common.{arith}
use Rattle.dispatch_core.specs.Values.{IsValue}
use Rattle.worker_run.proofs.ValueLists.{each_pushed}
use Rattle.worker_run.proofs.run.values_of.Goals as goal

pub loop-segment-preserved : goal.loop-segment-preserved
loop-segment-preserved g c =
    let was = c.loop-segment.invariant in let made = c.in_ok-push.ensures in record {
      count = let long = made.len in let before = was.count in let ok = c.loop-segment.values.ok in
          let new_ok = c.push.new.self.ok in omega (arith, long, before, ok, new_ok);
      are = each_pushed (IsValue c.args.core.now.table g.K.Kernel.value_of)
          c.loop-segment.values.items c.push.new.self.items c.loop-segment.segment
          c.in-Some.value made.items was.count was.are c.in-Some.ensures.1;
    }
