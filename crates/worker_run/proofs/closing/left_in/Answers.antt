use Rattle.std.proofs.Common.{arith}
use Rattle.std.proofs.lemmas.List.{map-append}
use Rattle.std.proofs.lemmas.Grind.{common_steps}
use Rattle.worker_run.proofs.GivenBack.{told_more}
use Rattle.worker_run.proofs.closing.left_in.Goals as goal

pub loop-closing-preserved : goal.loop-closing-preserved
loop-closing-preserved g c = record {
  told = rw (c.in_ok-push.ensures.items, map-append)
      (told_more _ _ _ _ c.loop-closing.invariant.told c.close.ensures);
  rest = grind (arith, common_steps);
}
