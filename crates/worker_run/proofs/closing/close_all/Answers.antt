use Rattle.std.proofs.Common.{◌≡◌, length, arith}
use Rattle.std.proofs.lemmas.List.{map-append}
use Rattle.std.proofs.lemmas.Grind.{common_steps}
use Rattle.worker_run.proofs.GivenBack.{given_more, written_back}
use Rattle.worker_run.proofs.closing.close_all.Goals as goal

pub loop-thief-preserved : goal.loop-thief-preserved
loop-thief-preserved g c = record {
  given =
      let long : length c.give_back.new.closings ≡ c.loop-thief.closings.len = omega (
        arith,
        c.give_back.auto.closings,
        c.as_mut_slice.ensures.len,
      ) in
      let same : length c.loop-thief.closings.items ≡ c.loop-thief.closings.len = omega (arith, c.loop-thief.closings.ok) in
      rw (map-append, written_back c.loop-thief.closings.len c.give_back.new.closings c.loop-thief.closings.items long same)
      (given_more _ _ _ _ _ c.loop-thief.invariant.given
      (rw c.as_mut_slice.ensures.value at c.in_ok-give_back.ensures));
  rest = grind (arith, common_steps);
}
