use Rattle.std.proofs.Common.{arith, refl}
use Rattle.std.proofs.lemmas.Result.{on_ok_weaker}
use Rattle.large_text.proofs.PlainStreaming.{split_whole}
use Rattle.large_text.proofs.Streaming.{keeps_head, kept_few, kept_then, then_takes}
use Rattle.large_text.proofs.stream.TextMeter.take_first.Goals as goal

pub overflow_sub-room : goal.overflow_sub-room
overflow_sub-room c =
    omega (
      arith,
      c.len-room.ensures,
      kept_few c.args.bytes.now c.args.self.now c.requires.kept c.requires.room,
    )

pub leave_head-requires-clause-room : goal.leave_head-requires-clause-room
leave_head-requires-clause-room c =
    let self = c.args.self.now in
    let bytes = c.args.bytes.now in
    let first = c.split_at.result.0.now in
    let rest = c.split_at.result.1.now in
    kept_then bytes first rest self _
    (split_whole bytes first rest _ c.split_at.ensures.front c.split_at.ensures.back)
    (keeps_head self _ first c.requires.kept refl refl c.in_ok-extend_from_slice.ensures.items
    (omega (arith, c.len-room.ensures, c.split_at.ensures.front_len)))
    c.requires.room

pub returns-clause-takes : goal.returns-clause-takes
returns-clause-takes c =
    let self = c.args.self.now in
    let bytes = c.args.bytes.now in
    let first = c.split_at.result.0.now in
    let rest = c.split_at.result.1.now in
    on_ok_weaker c.leave_head.result
    (λ later. then_takes bytes first rest self _ c.leave_head.new.self
    (split_whole bytes first rest _ c.split_at.ensures.front c.split_at.ensures.back)
    (keeps_head self _ first c.requires.kept refl refl c.in_ok-extend_from_slice.ensures.items
    (omega (arith, c.len-room.ensures, c.split_at.ensures.front_len)))
    later)
    c.leave_head.ensures.takes
