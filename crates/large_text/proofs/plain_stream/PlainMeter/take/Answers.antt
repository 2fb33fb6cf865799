use Rattle.std.proofs.lemmas.Result.{on_ok_weaker}
use Rattle.large_text.specs.PlainStreamed.{HasTakenPlain}
use Rattle.large_text.proofs.PlainStreaming.{can_front, takes_two, split_whole}
use Rattle.large_text.proofs.plain_stream.PlainMeter.take.Goals as goal

pub take_lines-requires-clause-taken : goal.take_lines-requires-clause-taken
take_lines-requires-clause-taken c =
    let bytes = c.args.bytes.now in
    let lines = c.split_at.result.0.now in
    let tail = c.split_at.result.1.now in
    can_front bytes lines tail c.args.self.now
    (split_whole bytes lines tail c.whole_lines-end.result c.split_at.ensures.front
    c.split_at.ensures.back) c.requires.room

pub returns-clause-takes : goal.returns-clause-takes
returns-clause-takes c =
    let bytes = c.args.bytes.now in
    let lines = c.split_at.result.0.now in
    let tail = c.split_at.result.1.now in
    on_ok_weaker c.keep-2.result
    (takes_two (λ taken. HasTakenPlain taken c.args.self.now)
    (λ taken. HasTakenPlain taken c.take_lines.new.self)
    (λ taken. HasTakenPlain taken c.keep-2.new.self) bytes lines tail
    (split_whole bytes lines tail c.whole_lines-end.result c.split_at.ensures.front
    c.split_at.ensures.back) c.in_ok-take_lines.ensures.takes) c.keep-2.ensures.takes
