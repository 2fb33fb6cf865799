use Rattle.std.proofs.Common.{arith}
use Rattle.std.proofs.lemmas.Grind.{common_steps}
use Rattle.std.proofs.lemmas.Bool.Decides.{nat_tests}
use Rattle.counted_io.proofs.Writing.{Appends-more}
use Rattle.counted_io.proofs.output.write_part.Goals as goal

pub writes-preserved-in-Ok : goal.writes-preserved-in-Ok
writes-preserved-in-Ok g c = record {
  wrote = Appends-more _ _ _ c.args.part.now c.writes.written c.in-Ok.taken c.writes.invariant.wrote
      c.in-Ok.ensures.bytes;
  within = grind (arith, common_steps);
  fewer = omega arith;
  unflushed = grind (arith, common_steps);
  paid = grind (arith, nat_tests);
  interrupted = grind (arith, nat_tests);
}
