use Rattle.std.proofs.Common.{arith}
use Rattle.std.proofs.lemmas.List.Elements.{Contains-get_or}
use Rattle.time_accounts.proofs.ReadyMoments.{last_end_more}
use Rattle.time_accounts.proofs.ready.last_end_of.Goals as goal

pub bounds-ends-segment : goal.bounds-ends-segment
bounds-ends-segment c =
    c.requires _
    (Contains-get_or c.args.segments.now c.loop-segment.segment-index 0 c.loop-segment-test.true)

pub loop-segment-preserved : goal.loop-segment-preserved
loop-segment-preserved c =
    omega (
      arith,
      c.max-latest.ensures,
      c.loop-segment.invariant,
      last_end_more c.args.ends.now c.args.segments.now c.loop-segment.segment-index
          c.loop-segment-test.true,
    )
