use Rattle.spanprof_c.proofs.Taking.{can_take, one_more}
use Rattle.spanprof_c.proofs.large.take_text.Goals as goal

pub take-requires-clause-room : goal.take-requires-clause-room
take-requires-clause-room c =
    can_take c.args.text.now c.pieces.left.now c.split_at.result.0.now c.split_at.result.1.now
    c.pieces.meter c.requires c.pieces.invariant c.split_at.ensures.by_index.0

pub pieces-preserved : goal.pieces-preserved
pieces-preserved c =
    one_more c.args.text.now c.pieces.left.now c.split_at.result.0.now c.split_at.result.1.now
    c.pieces.meter c.requires c.pieces.invariant c.split_at.ensures.by_index.0 c.take.new.self
    c.in_ok-take.ensures.takes
